-- What a frame says, and the octets that say it.
use Rattle.std.specs.Prelude.{ℕ, ◌+◌, ◌*◌, List, [], ◌∷◌}
use Rattle.frame.specs.declared.acknowledgment.Acknowledged.{Acknowledged}
use Rattle.frame.specs.declared.acknowledgment.Acknowledged.TheVariants as acknowledged
use Rattle.frame.specs.declared.beacon.BeaconHeader.{BeaconHeader}
use Rattle.frame.specs.declared.command.Command.{Command}
use Rattle.frame.specs.declared.command.Command.TheVariants as commands
use Rattle.frame.specs.declared.command.Wish.{Wish}
use Rattle.frame.specs.declared.beacon.ManagementState.{ManagementState}
use Rattle.frame.specs.declared.beacon.ManagementState.TheVariants as management
use Rattle.frame.specs.Fields as field
use Rattle.frame.specs.Fields.{Field, From, written}

-- what a frame says: a beacon in each of the four states, data, an acknowledgment or a command
pub data Message : Type 0 where
  online_beacon : BeaconHeader → ℕ → List ℕ → Message  -- N and the bitmap
  discovery_beacon : BeaconHeader → ℕ → Message  -- g
  configuration_beacon : BeaconHeader → ℕ → Message  -- g
  reset_beacon : BeaconHeader → Message
  data_frame : List ℕ → Message  -- the payload
  acknowledgment_frame : Acknowledged → Message
  command_frame : Command → Message

-- a beacon in one of the two states that have management timeslots
abbrev pub management_beacon : ManagementState → BeaconHeader → ℕ → Message
management_beacon management.Discovery h g = discovery_beacon h g
management_beacon management.Configuration h g = configuration_beacon h g

-- the states of a network that beacons announce, those that have management timeslots, and the number of each
pub data State : Type 0 where
  online : State
  discovery : State
  configuration : State
  reset : State

abbrev pub management_state : ManagementState → State
management_state management.Discovery = discovery
management_state management.Configuration = configuration

abbrev pub state_code : State → ℕ
state_code online = 0
state_code discovery = 4
state_code configuration = 6
state_code reset = 7

-- the type octet of an acknowledgment
abbrev pub type_code : Acknowledged → ℕ
type_code acknowledged.Data = 1
type_code acknowledged.DiscoverResponse = 13
type_code acknowledged.ConfigurationRequest = 15

-- the commands, and the identifier of each
pub data Order : Type 0 where
  discover_response : Order
  configuration_status : Order
  configuration_request : Order

abbrev pub identifier : Order → ℕ
identifier discover_response = 13
identifier configuration_status = 14
identifier configuration_request = 15

-- the fields of each command behind its identifier
abbrev pub fields : Order → List Field
fields discover_response = field.address ∷ field.number ∷ field.direction ∷ []
fields configuration_status =
    field.address ∷ field.number ∷ field.number ∷ field.direction ∷ field.number ∷ field.number ∷ []
fields configuration_request =
    field.address ∷ field.number ∷ field.number ∷ field.unused ∷ field.number ∷ field.number ∷ field.number ∷
    field.number ∷ field.number ∷ field.number ∷ field.number ∷ []

-- what the fields of each command say
abbrev pub message_from : (o : Order) → From (fields o) Message
message_from discover_response =
    λ address width direction.
    command_frame (commands.DiscoverResponse address (record { width = width; direction = direction }))
message_from configuration_status =
    λ address simple width direction first slots.
    let wish : Wish = record { width = width; direction = direction } in
    command_frame (commands.ConfigurationStatus address simple wish first slots)
message_from configuration_request =
    λ address simple channel size first width retransmission uplink timeslots coordinator.
    command_frame (commands.ConfigurationRequest address (record {
      simple = simple;
      channel = channel;
      size = size;
      first = first;
      width = width;
      retransmission = retransmission;
      uplink = uplink;
      timeslots = timeslots;
      coordinator = coordinator;
    }))

-- the frame type of LLDN, and the subtypes of its frames
abbrev pub frame_type : ℕ
frame_type = 4

abbrev pub beacon_subtype : ℕ
beacon_subtype = 0

abbrev pub data_subtype : ℕ
data_subtype = 1

abbrev pub acknowledgment_subtype : ℕ
acknowledgment_subtype = 2

abbrev pub command_subtype : ℕ
command_subtype = 3

-- the control octet that is written: the frame type in bits 0 to 2, the subtype in bits 6 and 7, every other bit zero
abbrev pub control : ℕ → ℕ
control subtype = frame_type + 64 * subtype

-- the flags octet that is written: the state in bits 0 to 2, g in bits 5 to 7, every other bit zero
abbrev pub flags : State → ℕ → ℕ
flags s g = state_code s + 32 * g

-- a beacon: control, flags, coordinator address, sequence number, n, and what the state adds
abbrev pub beacon_octets : State → ℕ → BeaconHeader → List ℕ → List ℕ
beacon_octets s g h more = control beacon_subtype ∷ flags s g ∷ h.coordinator ∷ h.sequence ∷ h.size ∷ more

-- a command: control, identifier and fields
abbrev pub command_octets : (o : Order) → From (fields o) (List ℕ)
command_octets o = written (fields o) (control command_subtype ∷ identifier o ∷ [])

abbrev pub octets_of_command : Command → List ℕ
octets_of_command (commands.DiscoverResponse address wish) =
    command_octets discover_response address wish.width wish.direction
octets_of_command (commands.ConfigurationStatus address simple wish first width) =
    command_octets configuration_status address simple wish.width wish.direction first width
octets_of_command (commands.ConfigurationRequest address c) =
    command_octets configuration_request address
    c.simple c.channel c.size c.first c.width c.retransmission c.uplink c.timeslots c.coordinator

-- the frame that says a message
abbrev pub octets_of : Message → List ℕ
octets_of (online_beacon h n bitmap) = beacon_octets online 0 h (n ∷ bitmap)
octets_of (discovery_beacon h g) = beacon_octets discovery g h []
octets_of (configuration_beacon h g) = beacon_octets configuration g h []
octets_of (reset_beacon h) = beacon_octets reset 0 h []
octets_of (data_frame payload) = control data_subtype ∷ payload
octets_of (acknowledgment_frame a) = control acknowledgment_subtype ∷ type_code a ∷ []
octets_of (command_frame c) = octets_of_command c
