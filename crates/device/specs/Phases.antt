-- The phases of a device, and how a beacon's state and a configuration decide the next one.
use Rattle.std.specs.Prelude.{Bool, cond}
use Rattle.frame.specs.Messages.{State, online, discovery, configuration, reset}
use Rattle.device.specs.declared.phase.Phase.{Phase}
use Rattle.device.specs.declared.phase.Phase.TheVariants as phase

-- an unconfigured device in Discovery: Idle and Asking become Answering, others stay
abbrev pub answering : Phase → Phase
answering phase.Idle = phase.Answering
answering phase.Asking = phase.Answering
answering p = p

-- in Configuration: Idle, Answering, Known and Running become Asking, others stay
abbrev pub asking : Phase → Phase
asking phase.Thanking = phase.Thanking
asking phase.Set = phase.Set
asking p = phase.Asking

-- the phase after a beacon of a state, for a device that is configured or not
abbrev pub next_phase : State → Bool → Phase → Phase
next_phase online configured p = cond configured phase.Running phase.Idle
next_phase discovery configured p = cond configured phase.Running (answering p)
next_phase configuration configured p = asking p
next_phase reset configured p = phase.Idle

-- a device that has acknowledged its configuration
abbrev pub thanked : Phase → Phase
thanked phase.Thanking = phase.Set
thanked p = p
