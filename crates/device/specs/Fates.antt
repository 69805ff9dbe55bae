-- The fates of cargo sent in its own timeslot.
use Rattle.std.specs.Prelude.{◌≡◌, ℕ, Bool, true, false, cond, is_some, Some, None, Ok, Option, Result}
use Rattle.frame.specs.declared.faults.Fault.{Fault}
use Rattle.frame.specs.declared.command.Configuration.{Configuration}
use Rattle.repeats.specs.Bitmaps.{acknowledged}
use Rattle.repeats.specs.Starts.{repeat_start}
use Rattle.device.specs.declared.device.Device.{Device}
use Rattle.device.specs.declared.fate.Fate.{Fate}
use Rattle.device.specs.declared.fate.Fate.TheVariants as fate
use Rattle.device.specs.Beacons.{Beacon, is_online}
use Rattle.device.specs.Configurations.{numbers_in, grant_in}
use Rattle.device.specs.Devices.{address_in, configuration_in, has_sent}

-- what gives a fate: whether an Online beacon was taken, the bit of the grant's first timeslot in it,
-- and whether a repeat has room
pub record Grounds : Type 0 where
  pub online : Bool
  pub bit : Bool
  pub room : Bool

-- the grounds of each fate; where no Online beacon was taken there is neither bit nor room, and with bit one no repeat
abbrev pub grounds : Fate → Grounds
grounds fate.Confirmed = record { online = true; bit = true; room = false }
grounds fate.Repeated = record { online = true; bit = false; room = true }
grounds fate.Lost = record { online = true; bit = false; room = false }
grounds fate.Unknown = record { online = false; bit = false; room = false }

-- the fate of cargo that the coordinator has not, by the first timeslot of its repeat
abbrev pub by_room : Option ℕ → Fate
by_room (Some start) = fate.Repeated
by_room None = fate.Lost

-- the first timeslot of the repeat that a beacon gives a device, or none
abbrev pub repeat_by : ℕ → Configuration → Beacon → Option ℕ
repeat_by address c b = cond (is_online b.state) (repeat_start (numbers_in c) b.bitmap (grant_in address c)) None

-- the bit that a beacon has for a device
abbrev pub bit_by : Configuration → Beacon → Bool
bit_by c b = cond (is_online b.state) (acknowledged (numbers_in c) b.bitmap c.first) false

-- the fate of cargo sent in the superframe before, by the beacon that was taken
abbrev pub fate_by : ℕ → Configuration → Beacon → Fate
fate_by address c b =
    cond (is_online b.state) (cond (bit_by c b) fate.Confirmed (by_room (repeat_by address c b))) fate.Unknown

-- the grounds that a beacon gives
abbrev pub grounds_by : ℕ → Configuration → Beacon → Grounds
grounds_by address c b = record { online = is_online b.state; bit = bit_by c b; room = is_some (repeat_by address c b) }

-- of a configured device that has sent, a beacon that is taken tells the one fate whose grounds it gives
abbrev pub Grounded : {C : Type 0} → Device C → Result Beacon Fault → Result (Option Fate) Fault → Type 0
Grounded v taken r =
    (c : Configuration) (b : Beacon) → configuration_in v ≡ Some c → has_sent v ≡ true → taken ≡ Ok b →
    (φ : Fate) × (r ≡ Ok (Some φ)) × (grounds φ ≡ grounds_by (address_in v) c b)

-- of a device that has sent, a missed beacon tells the fate that has no beacon for its grounds
abbrev pub Groundless : {C : Type 0} → Device C → Option Fate → Type 0
Groundless v r =
    has_sent v ≡ true →
    (φ : Fate) × (r ≡ Some φ) × (grounds φ ≡ record { online = false; bit = false; room = false })
