-- What holds of both ends after every run: of each device that has a grant, of each that has none, and of the
-- coordinator.
use Rattle.std.proofs.Common.{◌≡◌, ℕ, suc, ◌-◌, ◌≤◌, Bool, true, false, cond, not, ◌&&◌, ◌⊎◌, List, [], ◌∷◌, length}
use Rattle.std.proofs.Common.{Some, None, Option}
use Rattle.frame.specs.declared.acknowledgment.Acknowledged.TheVariants as acknowledged
use Rattle.frame.specs.declared.command.Command.TheVariants as commands
use Rattle.frame.specs.declared.command.Configuration.{Configuration}
use Rattle.frame.specs.Messages.{data_frame, acknowledgment_frame, command_frame, octets_of}
use Rattle.plan.specs.declared.grant.Grant.{Grant}
use Rattle.plan.specs.declared.numbers.Numbers.{Numbers}
use Rattle.plan.specs.Rules.{PlanMeaning, grant_at}
use Rattle.repeats.specs.Bitmaps.{acknowledged, nothing_heard}
use Rattle.repeats.specs.BitAndRepeatTimeslots.{for_retransmission}
use Rattle.repeats.specs.Starts.{repeat_start}
use Rattle.repeats.specs.Laws.{BitsAlike}
use Rattle.coordinator.specs.declared.state.Inner.{Inner}
use Rattle.coordinator.specs.Frames.{configuration_for}
use Rattle.coordinator.specs.Steps.{beacon_of}
use Rattle.device.specs.declared.device.Device.{Device}
use Rattle.device.specs.declared.fate.Fate.TheVariants as fate
use Rattle.device.specs.declared.repeat.Repeat.{Repeat}
use Rattle.network.specs.Deeds.{Deed}
use Rattle.network.specs.History.{Among, Sending, superframes, announced, learned, replies, sendings, accepted, told}
use Rattle.network.specs.History.{under_way, sent_since, waits}
use Rattle.network.proofs.DeviceBook.{Line, Agrees}

-- the bitmap that has the bit of cargo that was sent and has no fate yet: the gathered one once the device has had
-- its news of the open superframe, and until then the one of the superframe before
abbrev pub current : Bool → Bool → List ℕ → List ℕ → List ℕ
current opened aware gathered sent = cond (opened && aware) gathered sent

-- the superframe in which such cargo was sent
abbrev pub flown : Bool → Bool → ℕ → ℕ
flown opened aware k = cond (opened && not aware) (k - 1) k

module _ {C : Type 0} (image : C → List ℕ) (n : Numbers) where
  -- the data frame of cargo
  abbrev pub frame_with : C → List ℕ
  frame_with x = octets_of (data_frame (image x))

  -- a frame in its own timeslot, of what was sent
  pub record OwnFrame (g : Grant) (v : Device C) (x : Sending) : Type 0 where
    pub timeslot : x.timeslot ≡ g.first
    pub cargo : C
    pub sent : v.sent ≡ Some cargo
    pub octets : x.octets ≡ frame_with cargo

  -- a line whose cargo is to be repeated
  pub record ToRepeat (g : Grant) (sent : List ℕ) (start : ℕ) (x : C) (book : List (Line C)) : Type 0 where
    pub top : Line C
    pub rest : List (Line C)
    pub book_is : book ≡ top ∷ rest
    pub fate : top.fate ≡ fate.Repeated
    pub cargo : top.cargo ≡ x
    pub starts : repeat_start n sent g ≡ Some start

  -- a repeat in a timeslot for retransmission, of the cargo whose fate was told last
  pub record AgainFrame (g : Grant) (sent : List ℕ) (last : ℕ) (v : Device C) (book : List (Line C))
      (x : Sending) : Type 0 where
    pub cargo : C
    pub to_repeat : ToRepeat g sent x.timeslot cargo book
    pub octets : x.octets ≡ frame_with cargo
    pub spent : v.repeat ≡ None
    pub once : to_repeat.top.again ≡ true → x.timeslot ≤ last

  -- the device at place e with grant g, where a superframe is open or not, with the coordinator's bitmaps and last
  -- timeslot
  pub record Sound (e : ℕ) (g : Grant) (opened : Bool) (gathered sent : List ℕ) (last : ℕ) (v : Device C)
      (ds : List (Deed C)) : Type 0 where
    pub address : v.address ≡ g.address
    pub configured : (c : Configuration) → v.configuration ≡ Some c → c ≡ configuration_for n g
    -- nothing is under way without a configuration
    pub bound : v.configuration ≡ None → v.sent ≡ None
    pub book : List (Line C)
    pub agrees :
        Agrees (for_retransmission n) (Some g.simple) e ds v.waiting v.sent
        (flown opened (learned e ds) (superframes ds))
        (acknowledged n (current opened (learned e ds) gathered sent) g.first) book
    -- nothing is heard of a device before its news
    pub unheard : opened ≡ true → learned e ds ≡ false → acknowledged n gathered g.first ≡ false
    -- what was heard makes its timeslot late
    pub late : opened ≡ true → learned e ds ≡ true → acknowledged n gathered g.first ≡ true → g.first ≤ last
    -- no bit is one without a frame
    pub quiet : v.sent ≡ None → acknowledged n (current opened (learned e ds) gathered sent) g.first ≡ false
    -- a repeat that is due
    pub due : (r : Repeat C) → v.repeat ≡ Some r → opened ≡ true → learned e ds ≡ true
        → (q : ToRepeat g sent r.start r.cargo book) × (q.top.again ≡ false) × (suc q.top.sent ≡ superframes ds)
    -- the frames of this superframe
    pub frames : opened ≡ true → (x : Sending) → Among x (sendings ds) → x.device ≡ e → x.superframe ≡ superframes ds
        → (learned e ds ≡ true) × (OwnFrame g v x ⊎ AgainFrame g sent last v book x)

-- a device without a grant at place e
pub record Outside {C : Type 0} (e : ℕ) (v : Device C) (ds : List (Deed C)) : Type 0 where
  pub unconfigured : v.configuration ≡ None
  pub no_waiting : v.waiting ≡ None
  pub no_sent : v.sent ≡ None
  pub no_accepted : accepted e ds ≡ []
  pub no_told : told e ds ≡ []
  pub none_under_way : (again : ℕ → Bool) → under_way e again ds ≡ 0
  pub none_since : (again : ℕ → Bool) → sent_since e again ds ≡ 0
  pub no_waits : (again : ℕ → Bool) → waits e again ds ≡ 0
  pub no_sendings : (x : Sending) → Among x (sendings ds) → x.device ≡ e → ⊥

-- what the coordinator's management frames are
abbrev pub ReplyOf : PlanMeaning → List ℕ → Type 0
ReplyOf m xs =
    (xs ≡ []) ⊎ ((xs ≡ octets_of (acknowledgment_frame acknowledged.DiscoverResponse))
    ⊎ ((i : ℕ) × (g : Grant) × (grant_at m i ≡ Some g)
    × (xs ≡ octets_of (command_frame (commands.ConfigurationRequest g.address (configuration_for m.numbers g))))))

-- the coordinator
pub record Steady {C : Type 0} (m : PlanMeaning) (k : Inner) (ds : List (Deed C)) : Type 0 where
  pub size : length k.gathered ≡ 32
  pub gathered_alike : BitsAlike m k.gathered
  pub sent_alike : BitsAlike m k.sent
  pub announces : announced ds ≡ cond k.opened (Some (beacon_of m.numbers k)) None
  pub counted : k.opened ≡ true → 1 ≤ superframes ds
  pub cleared : k.opened ≡ false → k.gathered ≡ nothing_heard
  pub answered : (xs : List ℕ) → Among xs (replies ds) → ReplyOf m xs
  pub earlier : (x : Sending) → Among x (sendings ds) → x.superframe ≤ superframes ds

-- a device with or without a grant
abbrev pub Standing : {C : Type 0} → (C → List ℕ) → Numbers → ℕ → Option Grant → Inner → Device C → List (Deed C)
    → Type 0
Standing image n e None k v ds = Outside e v ds
Standing image n e (Some g) k v ds = Sound image n e g k.opened k.gathered k.sent k.last v ds
