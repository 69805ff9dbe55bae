-- A frame of the code, by what it says and the parts that it lends.
use Rattle.std.specs.Prelude.{ℕ, List, [], ◌∷◌, Ok, Err, Result}
use Rattle.frame.specs.declared.faults.Fault.{Fault}
use Rattle.frame.specs.declared.beacon.BeaconHeader.{BeaconHeader}
use Rattle.frame.specs.declared.beacon.BeaconState.{BeaconState}
use Rattle.frame.specs.declared.beacon.BeaconState.TheVariants as state
use Rattle.frame.specs.declared.command.Command.{Command}
use Rattle.frame.specs.declared.frames.Frame.{Frame}
use Rattle.frame.specs.declared.frames.Frame.TheVariants as frame
use Rattle.frame.specs.declared.part.Part.{Part}
use Rattle.frame.specs.Formats.{Piece, coded_head, cut, rest, header_in, Told}
use Rattle.frame.specs.Messages.{Message, online_beacon, discovery_beacon, configuration_beacon, reset_beacon}
use Rattle.frame.specs.Messages.{data_frame, acknowledgment_frame, command_frame}

abbrev pub piece : Part → Piece
piece p = record { place = p.place; octets = p.octets.now }

abbrev pub beacon_message : BeaconHeader → BeaconState → Message
beacon_message h (state.Online n bitmap) = online_beacon h n bitmap.octets.now
beacon_message h (state.Discovery g) = discovery_beacon h g
beacon_message h (state.Configuration g) = configuration_beacon h g
beacon_message h state.Reset = reset_beacon h

abbrev pub state_parts : BeaconState → List Piece
state_parts (state.Online n bitmap) = piece bitmap ∷ []
state_parts (state.Discovery g) = []
state_parts (state.Configuration g) = []
state_parts state.Reset = []

abbrev pub told : Frame → Told
told (frame.Beacon control flags h s) =
    record { message = beacon_message h s; lent = piece control ∷ piece flags ∷ state_parts s }
told (frame.Data control payload) =
    record { message = data_frame payload.octets.now; lent = piece control ∷ piece payload ∷ [] }
told (frame.Acknowledgment control a) = record { message = acknowledgment_frame a; lent = piece control ∷ [] }
told (frame.Command control parameters c) =
    record { message = command_frame c; lent = piece control ∷ piece parameters ∷ [] }

abbrev pub seen : Result Frame Fault → Result Told Fault
seen (Ok f) = Ok (told f)
seen (Err f) = Err f

-- what octets read as that hold a command
abbrev pub told_command : List ℕ → Command → Told
told_command xs c = record { message = command_frame c; lent = cut 0 1 xs ∷ rest coded_head xs ∷ [] }

-- what a beacon reads as that announces a state
abbrev pub announced : List ℕ → Result BeaconState Fault → Result Told Fault
announced xs (Ok s) =
    Ok (record { message = beacon_message (header_in xs) s; lent = cut 0 1 xs ∷ cut 1 2 xs ∷ state_parts s })
announced xs (Err f) = Err f
