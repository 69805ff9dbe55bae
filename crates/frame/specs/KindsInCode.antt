-- The kinds that the code tells apart within the crate, by the numbers and names that messages give them.
use Rattle.std.specs.Prelude.{ℕ}
use Rattle.frame.specs.declared.control.Subtype.{Subtype}
use Rattle.frame.specs.declared.control.Subtype.TheVariants as subtype
use Rattle.frame.specs.declared.beacon.State.{State}
use Rattle.frame.specs.declared.beacon.State.TheVariants as states
use Rattle.frame.specs.declared.command.Identifier.{Identifier}
use Rattle.frame.specs.declared.command.Identifier.TheVariants as commands
use Rattle.frame.specs.Messages as said
use Rattle.frame.specs.Messages.{Order, discover_response, configuration_status, configuration_request}

-- the number of a subtype
abbrev pub subtype_code : Subtype → ℕ
subtype_code subtype.Beacon = said.beacon_subtype
subtype_code subtype.Data = said.data_subtype
subtype_code subtype.Acknowledgment = said.acknowledgment_subtype
subtype_code subtype.Command = said.command_subtype

-- the state that a beacon announces
abbrev pub state_for : State → said.State
state_for states.Online = said.online
state_for states.Discovery = said.discovery
state_for states.Configuration = said.configuration
state_for states.Reset = said.reset

-- the command that an identifier names
abbrev pub order_for : Identifier → Order
order_for commands.DiscoverResponse = discover_response
order_for commands.ConfigurationStatus = configuration_status
order_for commands.ConfigurationRequest = configuration_request
