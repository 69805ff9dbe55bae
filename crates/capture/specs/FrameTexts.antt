-- What is reported of a frame, as text: `name@place=value` for each part and each number of it.
use Rattle.std.specs.Prelude.{ℕ, List, ◌++◌, reverse, codes, decimal}
use Rattle.frame.specs.declared.acknowledgment.Acknowledged.{Acknowledged}
use Rattle.frame.specs.declared.beacon.BeaconHeader.{BeaconHeader}
use Rattle.frame.specs.declared.beacon.BeaconState.{BeaconState}
use Rattle.frame.specs.declared.beacon.BeaconState.TheVariants as state
use Rattle.frame.specs.declared.command.Command.{Command}
use Rattle.frame.specs.declared.command.Command.TheVariants as commands
use Rattle.frame.specs.declared.command.Configuration.{Configuration}
use Rattle.frame.specs.declared.frames.Frame.{Frame}
use Rattle.frame.specs.declared.frames.Frame.TheVariants as frame
use Rattle.frame.specs.declared.part.Part.{Part}
use Rattle.frame.specs.declared.command.Wish.{Wish}
use Rattle.frame.specs.Directions.{direction_text}
use Rattle.frame.specs.Messages.{type_code}
use Rattle.frame.specs.Octets.{octet, little}
use Rattle.hexadecimal.specs.Grammar.{text_of, octet_digits}

-- a part as `name@place=octets`, the octets in hexadecimal, and `-` for none
abbrev pub part_text : List ℕ → Part → List ℕ
part_text name p = name ++ (codes "@" ++ (decimal p.place ++ (codes "=" ++ text_of p.octets.now)))

-- a full address as the sixteen hexadecimal digits of its number
abbrev pub address_text : ℕ → List ℕ
address_text address = text_of (reverse (little 8 address))

-- the control octet and the flags of a beacon
abbrev pub start_text : Part → Part → List ℕ
start_text control flags = part_text (codes "control") control ++ (codes " " ++ part_text (codes "flags") flags)

-- the numbers that every beacon carries
abbrev pub header_text : BeaconHeader → List ℕ
header_text h =
    codes "coordinator@2=" ++
    (decimal h.coordinator ++ (codes " sequence@3=" ++ (decimal h.sequence ++ (codes " n@4=" ++ decimal h.size))))

abbrev pub beacon_text : Part → Part → BeaconHeader → BeaconState → List ℕ
beacon_text control flags h (state.Online n bitmap) =
    codes "beacon Online " ++
    (start_text control flags ++ (codes " " ++ (header_text h ++
    (codes " N@5=" ++ (decimal n ++ (codes " " ++ part_text (codes "bitmap") bitmap))))))
beacon_text control flags h (state.Discovery g) =
    codes "beacon Discovery " ++
    (start_text control flags ++ (codes " g@1=" ++ (decimal g ++ (codes " " ++ header_text h))))
beacon_text control flags h (state.Configuration g) =
    codes "beacon Configuration " ++
    (start_text control flags ++ (codes " g@1=" ++ (decimal g ++ (codes " " ++ header_text h))))
beacon_text control flags h state.Reset =
    codes "beacon Reset " ++ (start_text control flags ++ (codes " " ++ header_text h))

-- a command's control octet and the full address
abbrev pub addressed_text : Part → ℕ → List ℕ
addressed_text control address = part_text (codes "control") control ++ (codes " address@2=" ++ address_text address)

-- a configuration up to its grant, with the management octet that stands third
abbrev pub grant_text : Configuration → ℕ → List ℕ
grant_text c management =
    codes "simple@10=" ++
    (decimal c.simple ++ (codes " channel@11=" ++ (decimal c.channel ++ (codes " management@12=" ++ (decimal management ++
    (codes " n@13=" ++ (decimal c.size ++ (codes " first@14=" ++ (decimal c.first ++
    (codes " slots@15=" ++ decimal c.width))))))))))

-- the numbers of the slot plan in a configuration
abbrev pub plan_text : Configuration → List ℕ
plan_text c =
    codes "R@16=" ++
    (decimal c.retransmission ++ (codes " U@17=" ++ (decimal c.uplink ++ (codes " N@18=" ++ (decimal c.timeslots ++
    (codes " coordinator@19=" ++ decimal c.coordinator))))))

abbrev pub response_text : Part → ℕ → Wish → List ℕ
response_text control address wish =
    codes "command Discover-Response " ++
    (addressed_text control address ++ (codes " width@10=" ++ (decimal wish.width ++
    (codes " direction@11=" ++ direction_text wish.direction))))

abbrev pub status_text : Part → ℕ → ℕ → Wish → ℕ → ℕ → List ℕ
status_text control address simple wish first width =
    codes "command Configuration-Status " ++
    (addressed_text control address ++ (codes " simple@10=" ++ (decimal simple ++
    (codes " width@11=" ++ (decimal wish.width ++
    (codes " direction@12=" ++ (direction_text wish.direction ++
    (codes " first@13=" ++ (decimal first ++ (codes " slots@14=" ++ decimal width))))))))))

-- the management octet is the eleventh of the parameters
abbrev pub request_text : Part → ℕ → Part → Configuration → List ℕ
request_text control address parameters c =
    codes "command Configuration-Request " ++
    (addressed_text control address ++ (codes " " ++ (grant_text c (octet parameters.octets.now 10) ++
    (codes " " ++ plan_text c))))

abbrev pub command_text : Part → Part → Command → List ℕ
command_text control parameters (commands.DiscoverResponse address wish) = response_text control address wish
command_text control parameters (commands.ConfigurationStatus address simple wish first width) =
    status_text control address simple wish first width
command_text control parameters (commands.ConfigurationRequest address c) = request_text control address parameters c

abbrev pub data_text : Part → Part → List ℕ
data_text control payload =
    codes "data " ++ (part_text (codes "control") control ++ (codes " " ++ part_text (codes "payload") payload))

abbrev pub acknowledgment_text : Part → Acknowledged → List ℕ
acknowledgment_text control a =
    codes "acknowledgment " ++ (part_text (codes "control") control ++ (codes " type@1=" ++ octet_digits (type_code a)))

-- a frame taken apart
abbrev pub frame_text : Frame → List ℕ
frame_text (frame.Beacon control flags h s) = beacon_text control flags h s
frame_text (frame.Data control payload) = data_text control payload
frame_text (frame.Acknowledgment control a) = acknowledgment_text control a
frame_text (frame.Command control parameters c) = command_text control parameters c
