-- What each call of a coordinator answers, and the state and memory that it leaves.
use Rattle.std.specs.Prelude.{◌≡◌, ℕ, ◌+◌, ◌-◌, ◌%◌, ◌^◌, ◌==◌, nat_le, nat_lt, List, [], length, replicate}
use Rattle.std.specs.Prelude.{Bool, true, false, cond, not, ◌&&◌, ◌||◌, Some, None, Option, Ok, Err, Result, is_ok}
use Rattle.std.specs.Prelude.{slice_index_or, slice_set}
use Rattle.frame.specs.declared.faults.Fault.{Fault}
use Rattle.frame.specs.declared.faults.Refusal.TheVariants as refusal
use Rattle.frame.specs.declared.acknowledgment.Acknowledged.{Acknowledged}
use Rattle.frame.specs.declared.acknowledgment.Acknowledged.TheVariants as acknowledged
use Rattle.frame.specs.declared.command.Command.{Command}
use Rattle.frame.specs.declared.command.Command.TheVariants as commands
use Rattle.frame.specs.Formats.{Told, reading}
use Rattle.frame.specs.Messages.{Message, acknowledgment_frame, command_frame, octets_of}
use Rattle.frame.specs.Messages.{State, online, discovery, configuration}
use Rattle.frame.specs.Refusals.{fault}
use Rattle.frame.specs.Writing.{fitting, left_by}
use Rattle.plan.specs.declared.grant.Grant.{Grant}
use Rattle.plan.specs.declared.numbers.Numbers.{Numbers}
use Rattle.plan.specs.Rules.{PlanMeaning, count_of, grant_at, carried}
use Rattle.plan.specs.Answers.{number_with}
use Rattle.repeats.specs.Bitmaps.{nothing_heard, marked_with}
use Rattle.repeats.specs.BitAndRepeatTimeslots.{for_retransmission}
use Rattle.repeats.specs.Starts.{sender_at}
use Rattle.cargo.specs.ReceivedCargo.{Receives}
use Rattle.coordinator.specs.declared.heard.Heard.{Heard}
use Rattle.coordinator.specs.declared.mode.Mode.{Mode}
use Rattle.coordinator.specs.declared.mode.Mode.TheVariants as mode
use Rattle.coordinator.specs.declared.open_superframe.Opened.{Opened}
use Rattle.coordinator.specs.declared.open_superframe.OpenSuperframe.{OpenSuperframe}
use Rattle.coordinator.specs.declared.record.Record.{Record}
use Rattle.coordinator.specs.declared.state.Inner.{Inner}
use Rattle.coordinator.specs.Frames.{state_of, beacon_in, configuration_for}
use Rattle.coordinator.specs.OpenSuperframes.{superframe_with}

-- whether a state is Online
abbrev pub is_online : State → Bool
is_online online = true
is_online state = false

-- whether management frames are heard in a state
abbrev pub is_managing : State → Bool
is_managing discovery = true
is_managing configuration = true
is_managing state = false

-- whether a superframe with this number is open
abbrev pub is_open : Inner → ℕ → Bool
is_open s k = s.opened && k == s.number

-- a grant of which nothing was heard
abbrev pub unheard : Record
unheard = record { seen = false; requested = false; configured = false }

-- a coordinator when it is made
abbrev pub made : Inner
made = record {
  mode = mode.Discovery;
  opened = false;
  number = 0;
  last = 0;
  gathered = nothing_heard;
  sent = nothing_heard;
  records = replicate 128 unheard;
  handed = None;
}

-- Setting the mode.

-- setting the mode is refused while a superframe is open
abbrev pub mode_answer : Inner → Result (Unit {0}) Fault
mode_answer s = cond s.opened (Err (fault refusal.Superframe 0)) (Ok tt)

-- the state with another mode
abbrev pub in_mode : Mode → Inner → Inner
in_mode m s = record s { mode = m }

-- the state after the mode was set, or refused
abbrev pub mode_state : Inner → Mode → Inner
mode_state s m = cond s.opened s (in_mode m s)

-- Opening a superframe.

-- the beacon of the next superframe
abbrev pub beacon_of : Numbers → Inner → List ℕ
beacon_of n s = octets_of (beacon_in (state_of s.mode) n s.sent)

-- how many octets of the beacon were written
abbrev pub opening : Numbers → Inner → List ℕ → Result ℕ Fault
opening n s buffer = cond s.opened (Err (fault refusal.Superframe 0)) (fitting (beacon_of n s) buffer)

-- the answer: the length of the beacon, and the open superframe with number k
abbrev pub opened_as : ℕ → Result ℕ Fault → Result Opened Fault
opened_as k (Ok written) = Ok (record { length = written; superframe = superframe_with k })
opened_as k (Err f) = Err f

-- what opening answers
abbrev pub open_answer : Numbers → Inner → List ℕ → Result Opened Fault
open_answer n s buffer = opened_as s.number (opening n s buffer)

-- the buffer after opening: a refusal leaves it as it was
abbrev pub open_memory : Numbers → Inner → List ℕ → List ℕ
open_memory n s buffer = left_by (opening n s buffer) (beacon_of n s) buffer

-- the state with its next superframe open
abbrev pub begun : Inner → Inner
begun s = record s { opened = true }

-- the state after opening, or a refusal
abbrev pub open_state : Numbers → Inner → List ℕ → Inner
open_state n s buffer = cond (is_ok (opening n s buffer)) (begun s) s

-- Hearing a data frame in a timeslot.

-- the grant with a number, if there is one
abbrev pub granted : PlanMeaning → Option ℕ → Option Grant
granted m None = None
granted m (Some i) = grant_at m i

-- a grant, or the refusal that nobody sends at timeslot t
abbrev pub somebody : ℕ → Option Grant → Result Grant Fault
somebody t (Some g) = Ok g
somebody t None = Err (fault refusal.Nobody t)

-- the grant whose frame starts at timeslot t, by the bitmap of the beacon that opened the superframe
abbrev pub sending : PlanMeaning → Inner → ℕ → Option Grant
sending m s t = granted m (sender_at m s.sent t)

-- the grant that is listened to at timeslot t, in superframe k
abbrev pub listening : PlanMeaning → Inner → ℕ → ℕ → Result Grant Fault
listening m s k t =
    cond (not (is_open s k)) (Err (fault refusal.Superframe 0))
    (cond (not (is_online (state_of s.mode))) (Err (fault refusal.Mode 0))
    (cond (t == 0 || nat_lt m.numbers.timeslots t) (Err (fault refusal.Timeslot t))
    (cond (nat_le t s.last) (Err (fault refusal.Late t)) (somebody t (sending m s t)))))

-- received cargo of a grant, if its image is not larger than the grant carries
abbrev pub heard_from : {C : Type 0} → (C → List ℕ) → Numbers → Grant → Result C Fault → Result (Heard C) Fault
heard_from image n g (Ok c) =
    cond (nat_lt (carried n.size g) (length (image c)))
    (Err (fault refusal.Size 0))
    (Ok (record { simple = g.simple; cargo = c }))
heard_from image n g (Err f) = Err f

-- the answer where a grant is listened to, or nobody
abbrev pub HearsFrom :
    {C : Type 0} → (C → List ℕ) → Numbers → Result Grant Fault → List ℕ → Result (Heard C) Fault → Type 0
HearsFrom {C = C} image n (Ok g) xs r =
    (received : Result C Fault) × Receives image xs received × (r ≡ heard_from image n g received)
HearsFrom image n (Err f) xs r = r ≡ Err f

-- the answer, which the octets determine through what is received of them
abbrev pub Hears :
    {C : Type 0} → (C → List ℕ) → PlanMeaning → Inner → ℕ → ℕ → List ℕ → Result (Heard C) Fault → Type 0
Hears image m s k t xs r = HearsFrom image m.numbers (listening m s k t) xs r

-- the bitmap after a grant's frame in timeslot t: a repeat sets no bit
abbrev pub gathering : Numbers → ℕ → List ℕ → Grant → List ℕ
gathering n t bitmap g = cond (for_retransmission n t) bitmap (marked_with n bitmap g)

-- the state after a frame of a grant was heard at timeslot t
abbrev pub accepted : Numbers → Inner → ℕ → Option Grant → Inner
accepted n s t None = s
accepted n s t (Some g) = record s { last = t; gathered = gathering n t s.gathered g }

-- the state after the answer `r`: a refusal leaves it as it was
abbrev pub hear_state : {C : Type 0} → PlanMeaning → Inner → ℕ → Result (Heard C) Fault → Inner
hear_state m s t r = cond (is_ok r) (accepted m.numbers s t (sending m s t)) s

-- Hearing a management frame.

-- what a management frame leads to: the reply, which may be empty, the records and the grant to be acknowledged
pub record Managed : Type 0 where
  pub reply : List ℕ
  pub records : List Record
  pub handed : Option ℕ

-- the record of grant i
abbrev pub record_at : List Record → ℕ → Record
record_at rs i = slice_index_or rs (i - 1) unheard

-- the records with another one of grant i
abbrev pub with_record : List Record → ℕ → Record → List Record
with_record rs i r = slice_set rs (i - 1) r

-- a record with one more mark
abbrev pub as_seen : Record → Record
as_seen r = record r { seen = true }

abbrev pub as_requested : Record → Record
as_requested r = record r { requested = true }

abbrev pub as_configured : Record → Record
as_configured r = record r { configured = true }

-- the two refusals of a sound frame
abbrev pub unwanted : Result Managed Fault
unwanted = Err (fault refusal.Unwanted 0)

abbrev pub stranger : Result Managed Fault
stranger = Err (fault refusal.Stranger 0)

-- a Discover Response of the device with grant i, or of a stranger
abbrev pub discovered : Inner → Option ℕ → Result Managed Fault
discovered s None = stranger
discovered s (Some i) = Ok (record {
  reply = octets_of (acknowledgment_frame acknowledged.DiscoverResponse);
  records = with_record s.records i (as_seen (record_at s.records i));
  handed = s.handed;
})

-- a Configuration Status of the device with a full address, which has grant i
abbrev pub handing : PlanMeaning → Inner → ℕ → ℕ → Option Grant → Result Managed Fault
handing m s address i None = stranger
handing m s address i (Some g) = Ok (record {
  reply = octets_of (command_frame (commands.ConfigurationRequest address (configuration_for m.numbers g)));
  records = with_record s.records i (as_requested (record_at s.records i));
  handed = Some i;
})

-- the same, of the device with grant i, or of a stranger
abbrev pub requested : PlanMeaning → Inner → ℕ → Option ℕ → Result Managed Fault
requested m s address None = stranger
requested m s address (Some i) = handing m s address i (grant_at m i)

-- an acknowledgment of the grant that was handed out last
abbrev pub thanked : Inner → Option ℕ → Result Managed Fault
thanked s None = unwanted
thanked s (Some i) = Ok (record {
  reply = [];
  records = with_record s.records i (as_configured (record_at s.records i));
  handed = None;
})

-- an acknowledgment, in Configuration or not
abbrev pub acknowledging : Inner → Bool → Acknowledged → Result Managed Fault
acknowledging s configuring acknowledged.ConfigurationRequest = cond configuring (thanked s s.handed) unwanted
acknowledging s configuring a = unwanted

-- a command, in Configuration or else in Discovery
abbrev pub commanded : PlanMeaning → Inner → Bool → Command → Result Managed Fault
commanded m s configuring (commands.DiscoverResponse a w) = cond configuring unwanted (discovered s (number_with m a))
commanded m s configuring (commands.ConfigurationStatus a simple w first width) =
    cond configuring (requested m s a (number_with m a)) unwanted
commanded m s configuring c = unwanted

-- a message, in Configuration or else in Discovery
abbrev pub managed_by : PlanMeaning → Inner → Bool → Message → Result Managed Fault
managed_by m s configuring (command_frame c) = commanded m s configuring c
managed_by m s configuring (acknowledgment_frame a) = acknowledging s configuring a
managed_by m s configuring message = unwanted

-- whether a state is Configuration
abbrev pub is_configuring : State → Bool
is_configuring configuration = true
is_configuring state = false

-- a frame that was read, or the fault of reading it
abbrev pub managed_as : PlanMeaning → Inner → Result Told Fault → Result Managed Fault
managed_as m s (Ok t) = managed_by m s (is_configuring (state_of s.mode)) t.message
managed_as m s (Err f) = Err f

-- what octets lead to, in superframe k
abbrev pub managing : PlanMeaning → Inner → ℕ → List ℕ → Result Managed Fault
managing m s k xs =
    cond (not (is_open s k)) (Err (fault refusal.Superframe 0))
    (cond (not (is_managing (state_of s.mode))) (Err (fault refusal.Mode 0)) (managed_as m s (reading xs)))

-- the reply in a lent buffer: its length, which is 0 where there is none
abbrev pub replying : Result Managed Fault → List ℕ → Result ℕ Fault
replying (Ok x) buffer = fitting x.reply buffer
replying (Err f) buffer = Err f

-- the buffer after the reply: a refusal leaves it as it was
abbrev pub reply_memory : Result Managed Fault → List ℕ → List ℕ
reply_memory (Ok x) buffer = left_by (fitting x.reply buffer) x.reply buffer
reply_memory (Err f) buffer = buffer

-- the state with the records and the grant to be acknowledged that a frame leads to
abbrev pub noted : Inner → Managed → Inner
noted s x = record s { records = x.records; handed = x.handed }

-- the state after the reply: a refusal, also for want of space, leaves it as it was
abbrev pub reply_state : Inner → Result Managed Fault → List ℕ → Inner
reply_state s (Ok x) buffer = cond (is_ok (fitting x.reply buffer)) (noted s x) s
reply_state s (Err f) buffer = s

-- what a management frame is answered, and the buffer and the state after it
abbrev pub manage_answer : PlanMeaning → Inner → ℕ → List ℕ → List ℕ → Result ℕ Fault
manage_answer m s k xs buffer = replying (managing m s k xs) buffer

abbrev pub manage_memory : PlanMeaning → Inner → ℕ → List ℕ → List ℕ → List ℕ
manage_memory m s k xs buffer = reply_memory (managing m s k xs) buffer

abbrev pub manage_state : PlanMeaning → Inner → ℕ → List ℕ → List ℕ → Inner
manage_state m s k xs buffer = reply_state s (managing m s k xs) buffer

-- Closing a superframe.

-- a refused close hands the superframe back
abbrev pub close_answer : Inner → ℕ → Result (Unit {0}) (Fault × OpenSuperframe)
close_answer s k = cond (is_open s k) (Ok tt) (Err (fault refusal.Superframe 0, superframe_with k))

-- the gathered bitmap becomes the one that is sent, and the superframe number goes up by one, from 4294967295 to 0
abbrev pub ended : Inner → Inner
ended s = record s {
  opened = false;
  number = (s.number + 1) % 2 ^ 32;
  last = 0;
  gathered = nothing_heard;
  sent = s.gathered;
}

-- the state after closing: another superframe changes nothing
abbrev pub close_state : Inner → ℕ → Inner
close_state s k = cond (is_open s k) (ended s) s

-- Asking for a record.

-- the record of grant i, if the plan has one
abbrev pub record_answer : PlanMeaning → Inner → ℕ → Option Record
record_answer m s i = cond (i == 0 || nat_lt (count_of m) i) None (Some (record_at s.records i))
