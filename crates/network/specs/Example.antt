-- A run with two devices, in which every fate is told, one repeat arrives and one does not.
use Rattle.std.specs.Prelude.{◌≡◌, ℕ, ◌+◌, ◌≤◌, true, false, List, [], ◌∷◌, ◌++◌, map, length, drop, replicate, pos}
use Rattle.std.specs.Prelude.{negsuc, Some, None, Ok, Err}
use Rattle.std.proofs.Common.{arith}
use Rattle.frame.specs.declared.faults.Refusal.TheVariants as refusal
use Rattle.frame.specs.declared.direction.Direction.TheVariants as directions
use Rattle.frame.specs.Refusals.{fault}
use Rattle.plan.specs.declared.numbers.Numbers.{Numbers}
use Rattle.plan.specs.Rules.{PlanMeaning, plan_of, Rules}
use Rattle.cargo.specs.declared.reading.Reading.{Reading}
use Rattle.cargo.specs.Images.{Apart}
use Rattle.cargo.specs.Readings.{image_of}
use Rattle.coordinator.specs.declared.mode.Mode.TheVariants as mode
use Rattle.coordinator.specs.OpenSuperframes.{superframe_with}
use Rattle.device.specs.declared.fate.Fate.{Fate}
use Rattle.device.specs.declared.fate.Fate.TheVariants as fate
use Rattle.network.specs.Calls.{Call, set_mode, opens, hears, hears_management, closes, takes_beacon, misses_beacon}
use Rattle.network.specs.Calls.{is_offered, sends, writes_management, takes_management}
use Rattle.network.specs.History.{Telling, Arrival, accepted, told}
use Rattle.network.specs.Runs.{Devices, Different, deeds, Run}
use Rattle.network.specs.Guarantee.{arrivals_of_device}

-- the plan: three base timeslots, the first of them for retransmission, and a grant of one timeslot for each device
abbrev pub numbers : Numbers
numbers =
    record {
      timeslots = 3;
      uplink = 3;
      retransmission = 1;
      size = 10;
      management = 1;
      coordinator = 1;
      channel =
          11;
      sequence = 7;
    }

abbrev pub plan : PlanMeaning
plan = plan_of numbers
    (record { address = 100; simple = 2; first = 2; width = 1 } ∷ record {
      address = 101;
      simple = 3;
      first =
          3;
      width = 1;
    } ∷ [])

-- the devices 0 and 1 have the full addresses 100 and 101
abbrev pub devices : Devices
devices =
    record { count = 2; address = λ d. 100 + d; wish = λ d. record { width = 1; direction = directions.Uplink } }

-- the cargo: two readings, and the data frames that carry them
abbrev pub warm : Reading
warm = record { value = pos 215; quality = 0; signed = omega arith; listed = omega arith }

abbrev pub cold : Reading
cold = record { value = negsuc 4; quality = 3; signed = omega arith; listed = omega arith }

abbrev pub warm_frame : List ℕ
warm_frame = 68 ∷ 215 ∷ 0 ∷ 0 ∷ 0 ∷ 0 ∷ []

abbrev pub cold_frame : List ℕ
cold_frame = 68 ∷ 251 ∷ 255 ∷ 255 ∷ 255 ∷ 3 ∷ []

-- the buffer that is lent to each call, and what it holds once octets are written into it
abbrev pub buffer : List ℕ
buffer = replicate 24 0

abbrev pub holding : List ℕ → List ℕ
holding xs = xs ++ drop (length xs) buffer

-- the other frames: beacons, of which an Online one has a bitmap of one octet, and what makes a configuration
abbrev pub configuring : List ℕ
configuring = 4 ∷ 38 ∷ 1 ∷ 7 ∷ 10 ∷ []

abbrev pub online : ℕ → List ℕ
online bitmap = 4 ∷ 0 ∷ 1 ∷ 7 ∷ 10 ∷ 3 ∷ bitmap ∷ []

abbrev pub status : ℕ → List ℕ
status address = 196 ∷ 14 ∷ address ∷ 0 ∷ 0 ∷ 0 ∷ 0 ∷ 0 ∷ 0 ∷ 0 ∷ 255 ∷ 1 ∷ 0 ∷ 0 ∷ 0 ∷ []

abbrev pub request : ℕ → ℕ → List ℕ
request address simple =
    196 ∷ 15 ∷ address ∷ 0 ∷ 0 ∷ 0 ∷ 0 ∷ 0 ∷ 0 ∷ 0 ∷ simple ∷ 11 ∷ 0 ∷ 10 ∷ simple ∷ 1 ∷ 1 ∷ 3 ∷ 3 ∷ 1 ∷ []

abbrev pub thanks : List ℕ
thanks = 132 ∷ 15 ∷ []

-- calls that go well: superframe k is opened with a beacon of these octets,
abbrev pub opening : ℕ → List ℕ → Call Reading
opening k xs = opens buffer (Ok (record { length = length xs; superframe = superframe_with k })) (holding xs)

-- is closed,
abbrev pub closing : ℕ → Call Reading
closing k = closes k (Ok tt)

-- the coordinator hears cargo in it, at timeslot t from a simple address,
abbrev pub hearing : ℕ → ℕ → List ℕ → ℕ → Reading → Call Reading
hearing k t xs simple x = hears k t xs (Ok (record { simple = simple; cargo = x }))

-- a device accepts cargo, and sends a frame
abbrev pub accepting : ℕ → Reading → Call Reading
accepting d x = is_offered d x (Ok tt)

abbrev pub sending : ℕ → ℕ → List ℕ → Call Reading
sending d t xs = sends d t buffer (Ok (length xs)) (holding xs)

-- The calls, the newest first. Each list goes on with that of the superframe before.

-- superframe 0: both devices are configured
abbrev pub calls_0 : List (Call Reading)
calls_0 =
    closing 0
    ∷ hears_management 0 thanks buffer (Ok 0) buffer
    ∷ writes_management 1 buffer (Ok 2) (holding thanks)
    ∷ takes_management 1 (request 101 3) (Ok tt)
    ∷ hears_management 0 (status 101) buffer (Ok 20) (holding (request 101 3))
    ∷ writes_management 1 buffer (Ok 15) (holding (status 101))
    ∷ hears_management 0 thanks buffer (Ok 0) buffer
    ∷ writes_management 0 buffer (Ok 2) (holding thanks)
    ∷ takes_management 0 (request 100 2) (Ok tt)
    ∷ hears_management 0 (status 100) buffer (Ok 20) (holding (request 100 2))
    ∷ writes_management 0 buffer (Ok 15) (holding (status 100))
    ∷ takes_beacon 1 configuring (Ok None)
    ∷ takes_beacon 0 configuring (Ok None)
    ∷ opening 0 configuring
    ∷ set_mode mode.Configuration (Ok tt)
    ∷ []

-- superframe 1: both devices send, and are heard, after which a frame in timeslot 2 comes too late
abbrev pub calls_1 : List (Call Reading)
calls_1 =
    closing 1
    ∷ hears 1 2 warm_frame (Err (fault refusal.Late 2))
    ∷ hearing 1 3 cold_frame 3 cold
    ∷ sending 1 3 cold_frame
    ∷ hearing 1 2 warm_frame 2 warm
    ∷ sending 0 2 warm_frame
    ∷ accepting 1 cold
    ∷ accepting 0 warm
    ∷ takes_beacon 1 (online 0) (Ok None)
    ∷ takes_beacon 0 (online 0) (Ok None)
    ∷ opening 1 (online 0)
    ∷ set_mode mode.Online (Ok tt)
    ∷ calls_0

-- superframe 2: both learn that, and send again, device 0 an equal reading. One frame is lost, and the other one
-- comes damaged.
abbrev pub calls_2 : List (Call Reading)
calls_2 =
    closing 2
    ∷ hears 2 3 (0 ∷ 251 ∷ []) (Err (fault refusal.Foreign 0))
    ∷ sending 1 3 cold_frame
    ∷ sending 0 2 warm_frame
    ∷ accepting 1 cold
    ∷ accepting 0 warm
    ∷ takes_beacon 1 (online 3) (Ok (Some fate.Confirmed))
    ∷ takes_beacon 0 (online 3) (Ok (Some fate.Confirmed))
    ∷ opening 2 (online 3)
    ∷ calls_1

-- superframe 3: there is room for one repeat, that of device 0, which is heard; what it sends in its own timeslot is
-- not
abbrev pub calls_3 : List (Call Reading)
calls_3 =
    closing 3
    ∷ sending 0 2 cold_frame
    ∷ hearing 3 1 warm_frame 2 warm
    ∷ sending 0 1 warm_frame
    ∷ accepting 0 cold
    ∷ takes_beacon 1 (online 0) (Ok (Some fate.Lost))
    ∷ takes_beacon 0 (online 0) (Ok (Some fate.Repeated))
    ∷ opening 3 (online 0)
    ∷ calls_2

-- superframe 4: the repeat of that is not heard either, but what device 0 sends in its own timeslot is; device 1 has
-- nothing to send
abbrev pub calls_4 : List (Call Reading)
calls_4 =
    closing 4
    ∷ sending 1 3 []
    ∷ hearing 4 2 warm_frame 2 warm
    ∷ sending 0 2 warm_frame
    ∷ sending 0 1 cold_frame
    ∷ accepting 0 warm
    ∷ takes_beacon 1 (online 0) (Ok None)
    ∷ takes_beacon 0 (online 0) (Ok (Some fate.Repeated))
    ∷ opening 4 (online 0)
    ∷ calls_3

-- superframe 5: device 0 misses the beacon and so sends nothing; what it accepts keeps waiting, and no more is
-- accepted
abbrev pub calls : List (Call Reading)
calls =
    closing 5
    ∷ sending 0 2 []
    ∷ is_offered 0 warm (Err (fault refusal.Waiting 0))
    ∷ accepting 0 cold
    ∷ takes_beacon 1 (online 1) (Ok None)
    ∷ misses_beacon 0 (Some fate.Unknown)
    ∷ opening 5 (online 1)
    ∷ calls_4

-- the fates that a device told, the newest first
abbrev pub fates : ℕ → List Fate
fates d = map (λ (x : Telling). x.fate) (told d (deeds calls))

-- what was handed up of a device, the newest first
abbrev pub arrived : ℕ → List (Arrival Reading)
arrived d = arrivals_of_device plan devices (deeds calls) d

-- acceptance k arrived in superframe s, from the timeslot t of its device, or as a repeat from there
abbrev pub own : ℕ → ℕ → ℕ → List ℕ → Reading → Arrival Reading
own k s t xs x =
    record { cargo = x; frame = record { number = k; own = true; superframe = s; timeslot = t; octets = xs } }

abbrev pub repeated : ℕ → ℕ → ℕ → List ℕ → Reading → Arrival Reading
repeated k s t xs x =
    record { cargo = x; frame = record { number = k; own = false; superframe = s; timeslot = t; octets = xs } }

-- the premises of the guarantee: the plan is lawful, images are short and apart, full addresses differ, and the calls
-- are a run. In it every fate is told, of readings of which some are equal. Device 0 told Repeated of its acceptances
-- 2 and 3: the first of them arrived as a repeat, and the second never arrived.
pub record Example : Type 0 where
  pub lawful : Rules plan
  pub short : (x : Reading) → length (image_of x) ≤ 124
  pub apart : Apart image_of
  pub different : Different devices
  pub run : Run image_of plan devices calls
  pub accepted_0 : accepted 0 (deeds calls) ≡ cold ∷ warm ∷ cold ∷ warm ∷ warm ∷ []
  pub accepted_1 : accepted 1 (deeds calls) ≡ cold ∷ cold ∷ []
  pub fates_0 : fates 0 ≡ fate.Unknown ∷ fate.Repeated ∷ fate.Repeated ∷ fate.Confirmed ∷ []
  pub fates_1 : fates 1 ≡ fate.Lost ∷ fate.Confirmed ∷ []
  pub arrived_0 : arrived 0 ≡ own 4 5 2 warm_frame warm ∷ repeated 2 4 1 warm_frame warm ∷ own 1 2 2 warm_frame warm ∷ []
  pub arrived_1 : arrived 1 ≡ own 1 2 3 cold_frame cold ∷ []
