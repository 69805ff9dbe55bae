-- What each call of a device answers, and the state and memory that it leaves.
use Rattle.std.specs.Prelude.{ℕ, Bool, true, false, cond, not, ◌||◌, List, [], length, is_some, is_ok, Some, None, Ok}
use Rattle.std.specs.Prelude.{Err, Option, Result, ◌==◌, nat_lt}
use Rattle.std.specs.Option.{option_map}
use Rattle.frame.specs.declared.faults.Fault.{Fault}
use Rattle.frame.specs.declared.faults.Refusal.TheVariants as refusal
use Rattle.frame.specs.declared.acknowledgment.Acknowledged.{Acknowledged}
use Rattle.frame.specs.declared.acknowledgment.Acknowledged.TheVariants as acknowledged
use Rattle.frame.specs.declared.command.Command.{Command}
use Rattle.frame.specs.declared.command.Command.TheVariants as commands
use Rattle.frame.specs.declared.command.Configuration.{Configuration}
use Rattle.frame.specs.declared.command.Wish.{Wish}
use Rattle.frame.specs.Formats.{Told, reading}
use Rattle.frame.specs.Messages.{Message, data_frame, acknowledgment_frame, command_frame, octets_of}
use Rattle.frame.specs.Refusals.{fault}
use Rattle.frame.specs.Writing.{fitting, left_by}
use Rattle.plan.specs.Rules.{carried}
use Rattle.device.specs.declared.device.Device.{Device}
use Rattle.device.specs.declared.fate.Fate.{Fate}
use Rattle.device.specs.declared.fate.Fate.TheVariants as fate
use Rattle.device.specs.declared.news.News.{News}
use Rattle.device.specs.declared.news.News.TheVariants as news
use Rattle.device.specs.declared.phase.Phase.{Phase}
use Rattle.device.specs.declared.phase.Phase.TheVariants as phase
use Rattle.device.specs.declared.repeat.Repeat.{Repeat}
use Rattle.device.specs.Phases.{next_phase, thanked}
use Rattle.device.specs.Beacons.{Beacon, beacon_taken, is_online, is_reset}
use Rattle.device.specs.Configurations.{grant_in, keeps_rules}
use Rattle.device.specs.Fates.{fate_by, repeat_by}

-- a device when it is made
abbrev pub made : {C : Type 0} → ℕ → Wish → Device C
made address wish = record {
  address = address;
  wish = wish;
  phase = phase.Idle;
  configuration = None;
  news = news.Missed;
  waiting = None;
  sent = None;
  repeat = None;
}

-- Taking a beacon.

abbrev pub news_of : Beacon → News
news_of b = cond (is_online b.state) news.Online news.Other

-- the fate of what was sent
abbrev pub told_by : {C : Type 0} → ℕ → Option Configuration → Option C → Beacon → Option Fate
told_by address c None b = None
told_by address None (Some x) b = Some fate.Unknown
told_by address (Some c) (Some x) b = Some (fate_by address c b)

abbrev pub to_repeat : {C : Type 0} → Option ℕ → C → Option (Repeat C)
to_repeat None x = None
to_repeat (Some start) x = Some (record { start = start; cargo = x })

-- the repeat of what was sent
abbrev pub repeated_by : {C : Type 0} → ℕ → Option Configuration → Option C → Beacon → Option (Repeat C)
repeated_by address c None b = None
repeated_by address None (Some x) b = None
repeated_by address (Some c) (Some x) b = to_repeat (repeat_by address c b) x

-- a configuration after a beacon, which a Reset takes away
abbrev pub kept_by : Option Configuration → Beacon → Option Configuration
kept_by c b = cond (is_reset b.state) None c

abbrev pub informed : {C : Type 0} → Device C → Beacon → Device C
informed v b = record v {
  phase = next_phase b.state (is_some v.configuration) v.phase;
  configuration = kept_by v.configuration b;
  news = news_of b;
  sent = None;
  repeat = repeated_by v.address v.configuration v.sent b;
}

abbrev pub beacon_answer_by : {C : Type 0} → Device C → Result Beacon Fault → Result (Option Fate) Fault
beacon_answer_by v (Ok b) = Ok (told_by v.address v.configuration v.sent b)
beacon_answer_by v (Err f) = Err f

abbrev pub beacon_state_by : {C : Type 0} → Device C → Result Beacon Fault → Device C
beacon_state_by v (Ok b) = informed v b
beacon_state_by v (Err f) = v

abbrev pub beacon_answer : {C : Type 0} → Device C → List ℕ → Result (Option Fate) Fault
beacon_answer v xs = beacon_answer_by v (beacon_taken v.configuration xs)

abbrev pub beacon_state : {C : Type 0} → Device C → List ℕ → Device C
beacon_state v xs = beacon_state_by v (beacon_taken v.configuration xs)

-- Being told that a beacon was missed.

abbrev pub missed_answer : {C : Type 0} → Device C → Option Fate
missed_answer v = option_map (λ _. fate.Unknown) v.sent

abbrev pub missed_state : {C : Type 0} → Device C → Device C
missed_state v = record v { news = news.Missed; sent = None; repeat = None }

-- Offering cargo.

-- how many octets a configuration's grant carries
abbrev pub room_in : Configuration → ℕ
room_in c = carried c.size (grant_in 0 c)

abbrev pub offer_answer_in : {C : Type 0} → (C → List ℕ) → Option Configuration → Option C → C → Result (Unit {0}) Fault
offer_answer_in image None w x = Err (fault refusal.Mode 0)
offer_answer_in image (Some c) w x =
    cond (is_some w) (Err (fault refusal.Waiting 0))
    (cond (nat_lt (room_in c) (length (image x))) (Err (fault refusal.Size 0)) (Ok tt))

abbrev pub offer_answer : {C : Type 0} → (C → List ℕ) → Device C → C → Result (Unit {0}) Fault
offer_answer image v x = offer_answer_in image v.configuration v.waiting x

abbrev pub holding : {C : Type 0} → Device C → C → Device C
holding v x = record v { waiting = Some x }

abbrev pub offer_state : {C : Type 0} → (C → List ℕ) → Device C → C → Device C
offer_state image v x = cond (is_ok (offer_answer image v x)) (holding v x) v

-- Sending in a timeslot.

-- what a device does with a timeslot: nothing, sending the cargo that waits, or repeating
pub data Turn (C : Type 0) : Type 0 where
  silent : Turn C
  fresh : C → Turn C
  again : C → Turn C

abbrev pub is_on : News → Bool
is_on news.Online = true
is_on n = false

-- cargo that waits is sent if it fits the grant and none was sent yet
abbrev pub fresh_turn : {C : Type 0} → (C → List ℕ) → Configuration → Option C → Option C → Turn C
fresh_turn image c None sent = silent
fresh_turn image c (Some x) sent = cond (is_some sent || nat_lt (room_in c) (length (image x))) silent (fresh x)

-- the turn of the cargo that waits
abbrev pub waiting_turn : {C : Type 0} → (C → List ℕ) → Configuration → Device C → Turn C
waiting_turn image c v = fresh_turn image c v.waiting v.sent

-- a repeat is sent where it starts
abbrev pub again_turn : {C : Type 0} → ℕ → Option (Repeat C) → Turn C
again_turn t None = silent
again_turn t (Some r) = cond (t == r.start) (again r.cargo) silent

abbrev pub turn_in : {C : Type 0} → (C → List ℕ) → Device C → Option Configuration → ℕ → Turn C
turn_in image v None t = silent
turn_in image v (Some c) t =
    cond (not (is_on v.news)) silent
    (cond (t == c.first) (waiting_turn image c v) (again_turn t v.repeat))

abbrev pub turn : {C : Type 0} → (C → List ℕ) → Device C → ℕ → Turn C
turn image v t = turn_in image v v.configuration t

-- the frame of a turn, empty where nothing is sent
abbrev pub frame_of : {C : Type 0} → (C → List ℕ) → Turn C → List ℕ
frame_of image silent = []
frame_of image (fresh x) = octets_of (data_frame (image x))
frame_of image (again x) = octets_of (data_frame (image x))

abbrev pub after_turn : {C : Type 0} → Device C → Turn C → Device C
after_turn v silent = v
after_turn v (fresh x) = record v { waiting = None; sent = Some x }
after_turn v (again x) = record v { repeat = None }

-- what a turn answers, and the state and memory that it leaves
abbrev pub turn_answer : {C : Type 0} → (C → List ℕ) → Turn C → List ℕ → Result ℕ Fault
turn_answer image t buffer = fitting (frame_of image t) buffer

abbrev pub turn_state : {C : Type 0} → Device C → Turn C → Result ℕ Fault → Device C
turn_state v t r = cond (is_ok r) (after_turn v t) v

abbrev pub turn_memory : {C : Type 0} → (C → List ℕ) → Turn C → Result ℕ Fault → List ℕ → List ℕ
turn_memory image t r buffer = left_by r (frame_of image t) buffer

-- whether there is no timeslot t: 0, or past the last one that a device knows of
abbrev pub no_timeslot : Option Configuration → ℕ → Bool
no_timeslot None t = t == 0
no_timeslot (Some c) t = t == 0 || nat_lt c.timeslots t

abbrev pub send_answer : {C : Type 0} → (C → List ℕ) → Device C → ℕ → List ℕ → Result ℕ Fault
send_answer image v t buffer =
    cond (no_timeslot v.configuration t) (Err (fault refusal.Timeslot t)) (turn_answer image (turn image v t) buffer)

abbrev pub send_memory : {C : Type 0} → (C → List ℕ) → Device C → ℕ → List ℕ → List ℕ
send_memory image v t buffer = turn_memory image (turn image v t) (send_answer image v t buffer) buffer

abbrev pub send_state : {C : Type 0} → (C → List ℕ) → Device C → ℕ → List ℕ → Device C
send_state image v t buffer = turn_state v (turn image v t) (send_answer image v t buffer)

-- Writing for the uplink management timeslot.

-- the Configuration Status: without a configuration the simple address is 255, and the grant is empty
abbrev pub status : ℕ → Wish → Option Configuration → Command
status address wish None = commands.ConfigurationStatus address 255 wish 0 0
status address wish (Some c) = commands.ConfigurationStatus address c.simple wish c.first c.width

abbrev pub management_in : {C : Type 0} → Device C → Phase → List ℕ
management_in v phase.Answering = octets_of (command_frame (commands.DiscoverResponse v.address v.wish))
management_in v phase.Asking = octets_of (command_frame (status v.address v.wish v.configuration))
management_in v phase.Thanking = octets_of (acknowledgment_frame acknowledged.ConfigurationRequest)
management_in v p = []

abbrev pub is_missed : News → Bool
is_missed news.Missed = true
is_missed n = false

-- the management frame of a device, empty where it writes none, as after a missed beacon
abbrev pub management : {C : Type 0} → Device C → List ℕ
management v = cond (is_missed v.news) [] (management_in v v.phase)

abbrev pub write_answer : {C : Type 0} → Device C → List ℕ → Result ℕ Fault
write_answer v buffer = fitting (management v) buffer

abbrev pub write_memory : {C : Type 0} → Device C → List ℕ → List ℕ
write_memory v buffer = left_by (write_answer v buffer) (management v) buffer

abbrev pub in_phase : {C : Type 0} → Device C → Phase → Device C
in_phase v p = record v { phase = p }

abbrev pub write_state : {C : Type 0} → Device C → List ℕ → Device C
write_state v buffer = cond (is_ok (write_answer v buffer)) (cond (is_missed v.news) v (in_phase v (thanked v.phase))) v

-- Taking a management frame.

-- what a management frame brings: an acknowledgment, or a configuration
pub data Taken : Type 0 where
  acknowledgment : Taken
  configured : Configuration → Taken

-- what the code's calls bring: no configuration is an acknowledgment
abbrev pub taken_of : Option Configuration → Taken
taken_of None = acknowledgment
taken_of (Some c) = configured c

abbrev pub taken_seen : Result (Option Configuration) Fault → Result Taken Fault
taken_seen (Ok x) = Ok (taken_of x)
taken_seen (Err f) = Err f

abbrev pub configured_seen : Result Configuration Fault → Result Taken Fault
configured_seen (Ok c) = Ok (configured c)
configured_seen (Err f) = Err f

abbrev pub unwanted : Result Taken Fault
unwanted = Err (fault refusal.Unwanted 0)

-- whether a configuration comes from another coordinator than the one before
abbrev pub estranged : Option Configuration → Configuration → Bool
estranged None c = false
estranged (Some before) c = not (c.coordinator == before.coordinator)

-- a Configuration Request to a full address
abbrev pub configuring : {C : Type 0} → Device C → ℕ → Configuration → Result Taken Fault
configuring v address c =
    cond (not (address == v.address) || estranged v.configuration c) (Err (fault refusal.Stranger 0))
    (cond (keeps_rules v.address c) (Ok (configured c)) (Err (fault refusal.Misfit 0)))

abbrev pub commanded : {C : Type 0} → Device C → Bool → Command → Result Taken Fault
commanded v asking (commands.ConfigurationRequest a c) = cond asking (configuring v a c) unwanted
commanded v asking x = unwanted

abbrev pub acknowledging : Bool → Acknowledged → Result Taken Fault
acknowledging asking acknowledged.DiscoverResponse = cond asking unwanted (Ok acknowledgment)
acknowledging asking a = unwanted

-- a message to a device in Asking, or else in Answering
abbrev pub taken_by : {C : Type 0} → Device C → Bool → Message → Result Taken Fault
taken_by v asking (command_frame c) = commanded v asking c
taken_by v asking (acknowledgment_frame a) = acknowledging asking a
taken_by v asking x = unwanted

abbrev pub taken_as : {C : Type 0} → Device C → Bool → Result Told Fault → Result Taken Fault
taken_as v asking (Ok t) = taken_by v asking t.message
taken_as v asking (Err f) = Err f

abbrev pub taken_in : {C : Type 0} → Device C → Phase → List ℕ → Result Taken Fault
taken_in v phase.Answering xs = taken_as v false (reading xs)
taken_in v phase.Asking xs = taken_as v true (reading xs)
taken_in v p xs = Err (fault refusal.Mode 0)

abbrev pub taking : {C : Type 0} → Device C → List ℕ → Result Taken Fault
taking v xs = taken_in v v.phase xs

abbrev pub take_answer_by : Result Taken Fault → Result (Unit {0}) Fault
take_answer_by (Ok x) = Ok tt
take_answer_by (Err f) = Err f

abbrev pub configured_by : {C : Type 0} → Device C → Configuration → Device C
configured_by v c = record v { phase = phase.Thanking; configuration = Some c }

abbrev pub take_state_by : {C : Type 0} → Device C → Result Taken Fault → Device C
take_state_by v (Ok acknowledgment) = in_phase v phase.Known
take_state_by v (Ok (configured c)) = configured_by v c
take_state_by v (Err f) = v

abbrev pub take_answer : {C : Type 0} → Device C → List ℕ → Result (Unit {0}) Fault
take_answer v xs = take_answer_by (taking v xs)

abbrev pub take_state : {C : Type 0} → Device C → List ℕ → Device C
take_state v xs = take_state_by v (taking v xs)
