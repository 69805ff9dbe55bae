-- Beacons as a device takes them, against its configuration.
use Rattle.std.specs.Prelude.{ℕ, zero, suc, ◌-◌, ◌*◌, Bool, true, false, cond, not, ◌&&◌, List, [], length, Some}
use Rattle.std.specs.Prelude.{None, Ok, Err, Option, Result, ◌==◌}
use Rattle.std.specs.Option.{option_map}
use Rattle.frame.specs.declared.faults.Fault.{Fault}
use Rattle.frame.specs.declared.faults.Refusal.TheVariants as refusal
use Rattle.frame.specs.declared.beacon.BeaconHeader.{BeaconHeader}
use Rattle.frame.specs.declared.beacon.BeaconState.{BeaconState}
use Rattle.frame.specs.declared.beacon.BeaconState.TheVariants as states
use Rattle.frame.specs.declared.command.Configuration.{Configuration}
use Rattle.frame.specs.Formats.{Told, reading}
use Rattle.frame.specs.Messages.{Message, online_beacon, discovery_beacon, configuration_beacon, reset_beacon}
use Rattle.frame.specs.Messages.{State, online, discovery, configuration, reset}
use Rattle.frame.specs.Refusals.{fault}
use Rattle.plan.specs.declared.numbers.Numbers.{Numbers}
use Rattle.plan.specs.Rules.{bitmap_octets}
use Rattle.repeats.specs.declared.group_acknowledgment.GroupAcknowledgment.{GroupAcknowledgment}
use Rattle.repeats.specs.Bitmaps.{bit}
use Rattle.device.specs.declared.beacon.Beacon as code
use Rattle.device.specs.Configurations.{numbers_in}

-- what a beacon says; one that is not Online has no timeslots and no bitmap
pub record Beacon : Type 0 where
  pub state : State
  pub header : BeaconHeader
  pub timeslots : ℕ
  pub bitmap : List ℕ

abbrev pub plain : State → BeaconHeader → Beacon
plain s h = record { state = s; header = h; timeslots = 0; bitmap = [] }

-- the code's beacon, by what it says
abbrev pub announcing : BeaconHeader → BeaconState → Beacon
announcing h (states.Online n bitmap) = record { state = online; header = h; timeslots = n; bitmap = bitmap.octets.now }
announcing h (states.Discovery g) = plain discovery h
announcing h (states.Configuration g) = plain configuration h
announcing h states.Reset = plain reset h

abbrev pub heard : code.Beacon → Beacon
heard b = announcing b.header b.state

abbrev pub heard_in : Result code.Beacon Fault → Result Beacon Fault
heard_in (Ok b) = Ok (heard b)
heard_in (Err f) = Err f

-- a message as a beacon
abbrev pub as_beacon : Message → Result Beacon Fault
as_beacon (online_beacon h n bitmap) = Ok (record { state = online; header = h; timeslots = n; bitmap = bitmap })
as_beacon (discovery_beacon h g) = Ok (plain discovery h)
as_beacon (configuration_beacon h g) = Ok (plain configuration h)
as_beacon (reset_beacon h) = Ok (plain reset h)
as_beacon m = Err (fault refusal.Unwanted 0)

abbrev pub is_online : State → Bool
is_online online = true
is_online s = false

abbrev pub is_reset : State → Bool
is_reset reset = true
is_reset s = false

-- a group acknowledgment's numbers and octets
pub record Bits : Type 0 where
  pub numbers : Numbers
  pub octets : List ℕ

abbrev pub bits_seen : Option GroupAcknowledgment → Option Bits
bits_seen a = option_map (λ x. record { numbers = x.numbers; octets = x.octets.now }) a

-- the group acknowledgment of a beacon, by the numbers of a configuration
abbrev pub bits_by : Configuration → Beacon → Option Bits
bits_by c b = cond (is_online b.state) (Some (record { numbers = numbers_in c; octets = b.bitmap })) None

-- whether bits are zero from bit k on, `count` of them
abbrev pub clear : List ℕ → ℕ → ℕ → Bool
clear xs k zero = true
clear xs k (suc count) = bit xs k == 0 && clear xs (suc k) count

-- whether octets are as many as a beacon's bitmap has, with every padding bit zero
unfoldable pub bitmap_fits : Numbers → List ℕ → Bool
bitmap_fits n xs =
    (length xs == bitmap_octets n)
    && clear xs (n.timeslots - n.retransmission) (8 * length xs - (n.timeslots - n.retransmission))

-- whether a beacon agrees with a configuration: only an Online one can differ
abbrev pub agrees : Configuration → Beacon → Bool
agrees c b =
    cond (is_online b.state)
    (b.header.size == c.size && (b.timeslots == c.timeslots && bitmap_fits (numbers_in c) b.bitmap))
    true

-- a beacon as a device with or without a configuration takes it
abbrev pub admitted : Option Configuration → Beacon → Result Beacon Fault
admitted None b = Ok b
admitted (Some c) b =
    cond (not (b.header.coordinator == c.coordinator)) (Err (fault refusal.Stranger 0))
    (cond (not (agrees c b)) (Err (fault refusal.Misfit 0)) (Ok b))

abbrev pub admitting : Option Configuration → Result Beacon Fault → Result Beacon Fault
admitting c (Ok b) = admitted c b
admitting c (Err f) = Err f

abbrev pub beacon_told : Option Configuration → Result Told Fault → Result Beacon Fault
beacon_told c (Ok t) = admitting c (as_beacon t.message)
beacon_told c (Err f) = Err f

-- the beacon that a device takes of octets
abbrev pub beacon_taken : Option Configuration → List ℕ → Result Beacon Fault
beacon_taken c xs = beacon_told c (reading xs)
