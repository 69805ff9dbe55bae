-- What received octets say, or the first refusal in the order of the list.
use Rattle.std.specs.Prelude.{ℕ, ◌+◌, cond, not, List, [], ◌∷◌, length, drop, Some, None, Ok, Err, Option, Result, ◌==◌}
use Rattle.std.specs.Prelude.{nat_lt}
use Rattle.frame.specs.declared.acknowledgment.Acknowledged.{Acknowledged}
use Rattle.frame.specs.declared.acknowledgment.Acknowledged.TheVariants as acknowledged
use Rattle.frame.specs.declared.beacon.BeaconHeader.{BeaconHeader}
use Rattle.frame.specs.declared.faults.Fault.{Fault}
use Rattle.frame.specs.declared.faults.Refusal.TheVariants as refusal
use Rattle.frame.specs.Fields as field
use Rattle.frame.specs.Fields.{Field, fields_length, said_by}
use Rattle.frame.specs.Messages.{Message, online_beacon, discovery_beacon, configuration_beacon, reset_beacon}
use Rattle.frame.specs.Messages.{data_frame, acknowledgment_frame}
use Rattle.frame.specs.Messages.{State, online, discovery, configuration, reset, state_code, type_code}
use Rattle.frame.specs.Messages.{Order, discover_response, configuration_status, configuration_request, identifier}
use Rattle.frame.specs.Messages.{fields, message_from}
use Rattle.frame.specs.Messages.{frame_type, beacon_subtype, data_subtype, acknowledgment_subtype}
use Rattle.frame.specs.Octets.{bits, octet, between}
use Rattle.frame.specs.Refusals.{fault}

-- the formats of frames; the last three are those of a beacon, an acknowledgment and a command whose number is not listed
pub data Format : Type 0 where
  beacon : State → Format
  payload : Format
  acknowledgment : Acknowledged → Format
  command : Order → Format
  unlisted_state : Format
  unlisted_type : Format
  unlisted_identifier : Format

-- what a frame has: so many octets that every frame of its kind has, then fields, then at most so many octets more
pub record Layout : Type 0 where
  pub head : ℕ
  pub fields : List Field
  pub tail : ℕ

-- control, flags and header of a beacon
abbrev pub beacon_head : ℕ
beacon_head = 5

-- control of an acknowledgment or a command, and the octet that tells its type
abbrev pub coded_head : ℕ
coded_head = 2

abbrev pub layout : Format → Layout
layout (beacon online) = record { head = beacon_head; fields = field.number ∷ []; tail = 32 }
layout (beacon discovery) = record { head = beacon_head; fields = []; tail = 0 }
layout (beacon configuration) = record { head = beacon_head; fields = []; tail = 0 }
layout (beacon reset) = record { head = beacon_head; fields = []; tail = 0 }
layout payload = record { head = 1; fields = []; tail = 124 }
layout (acknowledgment a) = record { head = coded_head; fields = []; tail = 0 }
layout (command o) = record { head = coded_head; fields = fields o; tail = 0 }
layout unlisted_state = record { head = beacon_head; fields = []; tail = 0 }
layout unlisted_type = record { head = coded_head; fields = []; tail = 0 }
layout unlisted_identifier = record { head = coded_head; fields = []; tail = 0 }

-- how many octets a frame of a format has
pub record Extent : Type 0 where
  pub least : ℕ
  pub most : ℕ

abbrev pub extent_of : Layout → Extent
extent_of l = record { least = l.head + fields_length l.fields; most = l.head + fields_length l.fields + l.tail }

abbrev pub extent : Format → Extent
extent φ = extent_of (layout φ)

-- the case that a number stands for, if it is listed
abbrev pub state_of : ℕ → Option State
state_of n =
    cond (n == state_code online) (Some online)
    (cond (n == state_code discovery) (Some discovery)
    (cond (n == state_code configuration) (Some configuration)
    (cond (n == state_code reset) (Some reset) None)))

abbrev pub acknowledged_of : ℕ → Option Acknowledged
acknowledged_of n =
    cond (n == type_code acknowledged.Data) (Some acknowledged.Data)
    (cond (n == type_code acknowledged.DiscoverResponse) (Some acknowledged.DiscoverResponse)
    (cond (n == type_code acknowledged.ConfigurationRequest) (Some acknowledged.ConfigurationRequest) None))

abbrev pub order_of : ℕ → Option Order
order_of n =
    cond (n == identifier discover_response) (Some discover_response)
    (cond (n == identifier configuration_status) (Some configuration_status)
    (cond (n == identifier configuration_request) (Some configuration_request) None))

abbrev pub beacon_format : Option State → Format
beacon_format (Some s) = beacon s
beacon_format None = unlisted_state

abbrev pub acknowledgment_format : Option Acknowledged → Format
acknowledgment_format (Some a) = acknowledgment a
acknowledgment_format None = unlisted_type

abbrev pub command_format : Option Order → Format
command_format (Some o) = command o
command_format None = unlisted_identifier

-- the format that the subtype and the second octet tell
abbrev pub format_of : ℕ → ℕ → Format
format_of subtype second =
    cond (subtype == beacon_subtype) (beacon_format (state_of (bits 0 3 second)))
    (cond (subtype == data_subtype) payload
    (cond (subtype == acknowledgment_subtype) (acknowledgment_format (acknowledged_of second))
    (command_format (order_of second))))

-- the format of octets: the subtype is in bits 6 and 7 of the control octet
abbrev pub format_in : List ℕ → Format
format_in xs = format_of (bits 6 2 (octet xs 0)) (octet xs 1)

abbrev pub header_in : List ℕ → BeaconHeader
header_in xs = record { coordinator = octet xs 2; sequence = octet xs 3; size = octet xs 4 }

-- octets behind the fields of a format
abbrev pub tail_in : Format → List ℕ → List ℕ
tail_in φ xs = drop (extent φ).least xs

abbrev pub beacon_said : State → List ℕ → Message
beacon_said online xs = online_beacon (header_in xs) (octet xs beacon_head) (tail_in (beacon online) xs)
beacon_said discovery xs = discovery_beacon (header_in xs) (bits 5 3 (octet xs 1))
beacon_said configuration xs = configuration_beacon (header_in xs) (bits 5 3 (octet xs 1))
beacon_said reset xs = reset_beacon (header_in xs)

-- what octets of a format say, or the place of a number in them that is not listed;
-- bit 4 of a beacon's flags has to be zero
abbrev pub said : Format → List ℕ → Result Message Fault
said (beacon s) xs = cond (bits 4 1 (octet xs 1) == 0) (Ok (beacon_said s xs)) (Err (fault refusal.Kind 1))
said payload xs = Ok (data_frame (tail_in payload xs))
said (acknowledgment a) xs = Ok (acknowledgment_frame a)
said (command o) xs = said_by (fields o) coded_head xs (message_from o)
said unlisted_state xs = Err (fault refusal.Kind 1)
said unlisted_type xs = Err (fault refusal.Kind 1)
said unlisted_identifier xs = Err (fault refusal.Kind 1)

-- a part of a frame: the index of its first octet, and its octets
pub record Piece : Type 0 where
  pub place : ℕ
  pub octets : List ℕ

abbrev pub cut : ℕ → ℕ → List ℕ → Piece
cut from to xs = record { place = from; octets = between from to xs }

-- from an index to the end
abbrev pub rest : ℕ → List ℕ → Piece
rest from xs = record { place = from; octets = drop from xs }

-- the parts that a frame of a format lends: the control octet, then flags, bitmap, payload or parameters
abbrev pub parts : Format → List ℕ → List Piece
parts (beacon online) xs = cut 0 1 xs ∷ cut 1 2 xs ∷ rest (extent (beacon online)).least xs ∷ []
parts (beacon discovery) xs = cut 0 1 xs ∷ cut 1 2 xs ∷ []
parts (beacon configuration) xs = cut 0 1 xs ∷ cut 1 2 xs ∷ []
parts (beacon reset) xs = cut 0 1 xs ∷ cut 1 2 xs ∷ []
parts payload xs = cut 0 1 xs ∷ rest (extent payload).least xs ∷ []
parts (acknowledgment a) xs = cut 0 1 xs ∷ []
parts (command o) xs = cut 0 1 xs ∷ rest coded_head xs ∷ []
parts unlisted_state xs = []
parts unlisted_type xs = []
parts unlisted_identifier xs = []

-- what is told of a frame: what it says, and the parts that it lends
pub record Told : Type 0 where
  pub message : Message
  pub lent : List Piece

abbrev pub unless_surplus : Format → List ℕ → Result Message Fault → Result Told Fault
unless_surplus φ xs (Ok m) =
    cond (nat_lt (extent φ).most (length xs))
    (Err (fault refusal.Surplus (extent φ).most))
    (Ok (record { message = m; lent = parts φ xs }))
unless_surplus φ xs (Err f) = Err f

-- what octets of a format read as: Short, Kind and Surplus are told in this order
abbrev pub reading_as : Format → List ℕ → Result Told Fault
reading_as φ xs =
    cond (nat_lt (length xs) (extent φ).least) (Err (fault refusal.Short (length xs))) (unless_surplus φ xs (said φ xs))

-- what octets read as: Empty, Foreign (bits 0 to 2 of the control octet are not the frame type)
-- and Reserved (its bit 3 or 4 is set) are told first
abbrev pub reading : List ℕ → Result Told Fault
reading xs =
    cond (length xs == 0) (Err (fault refusal.Empty 0))
    (cond (not (bits 0 3 (octet xs 0) == frame_type)) (Err (fault refusal.Foreign 0))
    (cond (not (bits 3 2 (octet xs 0) == 0)) (Err (fault refusal.Reserved 0)) (reading_as (format_in xs) xs)))
