-- A network as both ends' states, and the calls of a run with their answers.
use Rattle.std.specs.Prelude.{◌≡◌, ℕ, Bool, false, cond, List, Some, None, Option, Result, ◌==◌}
use Rattle.frame.specs.declared.faults.Fault.{Fault}
use Rattle.plan.specs.Rules.{PlanMeaning}
use Rattle.coordinator.specs.declared.heard.Heard.{Heard}
use Rattle.coordinator.specs.declared.state.Inner.{Inner}
use Rattle.coordinator.specs.declared.mode.Mode.{Mode}
use Rattle.coordinator.specs.declared.open_superframe.Opened.{Opened}
use Rattle.coordinator.specs.declared.open_superframe.OpenSuperframe.{OpenSuperframe}
use Rattle.coordinator.specs.Steps.{mode_answer, mode_state, open_answer, open_memory, open_state, Hears, hear_state}
use Rattle.coordinator.specs.Steps.{manage_answer, manage_memory, manage_state, close_answer, close_state}
use Rattle.device.specs.declared.device.Device.{Device}
use Rattle.device.specs.declared.fate.Fate.{Fate}
use Rattle.device.specs.Steps.{beacon_answer, beacon_state, missed_answer, missed_state, offer_answer, offer_state}
use Rattle.device.specs.Steps.{send_answer, send_memory, send_state, write_answer, write_memory, write_state}
use Rattle.device.specs.Steps.{take_answer, take_state}

-- one call with its answer: what was handed over, what was answered and, where a buffer was lent, what it held before
-- and after. Superframes go by their numbers, devices by their places.
pub data Call (C : Type 0) : Type 0 where
  set_mode : Mode → Result (Unit {0}) Fault → Call C
  opens : List ℕ → Result Opened Fault → List ℕ → Call C
  hears : ℕ → ℕ → List ℕ → Result (Heard C) Fault → Call C  -- superframe, timeslot, octets
  hears_management : ℕ → List ℕ → List ℕ → Result ℕ Fault → List ℕ → Call C
  closes : ℕ → Result (Unit {0}) (Fault × OpenSuperframe) → Call C
  takes_beacon : ℕ → List ℕ → Result (Option Fate) Fault → Call C
  misses_beacon : ℕ → Option Fate → Call C
  is_offered : ℕ → C → Result (Unit {0}) Fault → Call C
  sends : ℕ → ℕ → List ℕ → Result ℕ Fault → List ℕ → Call C  -- device, timeslot
  writes_management : ℕ → List ℕ → Result ℕ Fault → List ℕ → Call C
  takes_management : ℕ → List ℕ → Result (Unit {0}) Fault → Call C

-- the device at which a call is made, by its place, or none where it is made at the coordinator
abbrev pub device_of : {C : Type 0} → Call C → Option ℕ
device_of (takes_beacon d xs r) = Some d
device_of (misses_beacon d r) = Some d
device_of (is_offered d x r) = Some d
device_of (sends d t buffer r memory) = Some d
device_of (writes_management d buffer r memory) = Some d
device_of (takes_management d xs r) = Some d
device_of c = None

-- whether that is the device at place e
abbrev pub is_at : ℕ → Option ℕ → Bool
is_at e None = false
is_at e (Some d) = d == e

-- the states of both ends
pub record Hall (C : Type 0) : Type 0 where
  pub coordinator : Inner
  pub devices : ℕ → Device C

module _ {C : Type 0} (image : C → List ℕ) (m : PlanMeaning) where
  -- the coordinator after a call
  abbrev pub coordinator_after : Inner → Call C → Inner
  coordinator_after s (set_mode mode r) = mode_state s mode
  coordinator_after s (opens buffer r memory) = open_state m.numbers s buffer
  coordinator_after s (hears k t xs r) = hear_state m s t r
  coordinator_after s (hears_management k xs buffer r memory) = manage_state m s k xs buffer
  coordinator_after s (closes k r) = close_state s k
  coordinator_after s c = s

  -- the device at which a call is made, after it
  abbrev pub stepped : Device C → Call C → Device C
  stepped v (takes_beacon d xs r) = beacon_state v xs
  stepped v (misses_beacon d r) = missed_state v
  stepped v (is_offered d x r) = offer_state image v x
  stepped v (sends d t buffer r memory) = send_state image v t buffer
  stepped v (writes_management d buffer r memory) = write_state v buffer
  stepped v (takes_management d xs r) = take_state v xs
  stepped v c = v

  -- the device at place e after a call
  abbrev pub device_after : ℕ → Device C → Call C → Device C
  device_after e v c = cond (is_at e (device_of c)) (stepped v c) v

  abbrev pub after : Hall C → Call C → Hall C
  after h c =
      record { coordinator = coordinator_after h.coordinator c; devices = λ e. device_after e (h.devices e) c }

  -- answer and memory of a call are those that the ends give
  abbrev pub Answers : Hall C → Call C → Type 0
  Answers h (set_mode mode r) = r ≡ mode_answer h.coordinator
  Answers h (opens buffer r memory) =
      (r ≡ open_answer m.numbers h.coordinator buffer) × (memory ≡ open_memory m.numbers h.coordinator buffer)
  Answers h (hears k t xs r) = Hears image m h.coordinator k t xs r
  Answers h (hears_management k xs buffer r memory) =
      (r ≡ manage_answer m h.coordinator k xs buffer) × (memory ≡ manage_memory m h.coordinator k xs buffer)
  Answers h (closes k r) = r ≡ close_answer h.coordinator k
  Answers h (takes_beacon d xs r) = r ≡ beacon_answer (h.devices d) xs
  Answers h (misses_beacon d r) = r ≡ missed_answer (h.devices d)
  Answers h (is_offered d x r) = r ≡ offer_answer image (h.devices d) x
  Answers h (sends d t buffer r memory) =
      (r ≡ send_answer image (h.devices d) t buffer) × (memory ≡ send_memory image (h.devices d) t buffer)
  Answers h (writes_management d buffer r memory) =
      (r ≡ write_answer (h.devices d) buffer) × (memory ≡ write_memory (h.devices d) buffer)
  Answers h (takes_management d xs r) = r ≡ take_answer (h.devices d) xs
