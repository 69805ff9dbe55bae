-- The coordinator's side of a run: what marking does to the bits, what hearing tells, and that what is held of the
-- coordinator is kept.
use Rattle.std.proofs.Common.{◌≡◌, ℕ, ◌<◌, Bool, true, false, cond, not, ◌||◌, eqb, ltb, leb}
use Rattle.std.proofs.Common.{List, [], ◌∷◌, length, take, drop, is_ok, Some, None, Ok, Err, Option, Result, sym}
use Rattle.std.proofs.Common.{refl, ap, ◌∙◌, subst, inl, inr, arith}
use lib.ListN.{length-replicate}
use Rattle.std.proofs.lemmas.List.{take_at}
use Rattle.std.proofs.lemmas.Bool.{and_parts, cond-false, leb-false, not-false}
use Rattle.frame.specs.declared.faults.Fault.{Fault}
use Rattle.frame.specs.declared.faults.Refusal.TheVariants as refusal
use Rattle.frame.specs.declared.acknowledgment.Acknowledged.{Acknowledged}
use Rattle.frame.specs.declared.acknowledgment.Acknowledged.TheVariants as acknowledgments
use Rattle.frame.specs.declared.command.Command.{Command}
use Rattle.frame.specs.declared.command.Command.TheVariants as commands
use Rattle.frame.specs.Formats.{Told, reading}
use Rattle.frame.specs.Messages.{Message, online_beacon, discovery_beacon, configuration_beacon, reset_beacon}
use Rattle.frame.specs.Messages.{data_frame, acknowledgment_frame, command_frame, octets_of}
use Rattle.frame.specs.Refusals.{fault}
use Rattle.frame.specs.Writing.{fitting, left_by}
use Rattle.plan.specs.declared.grant.Grant.{Grant}
use Rattle.plan.specs.declared.numbers.Numbers.{Numbers}
use Rattle.plan.specs.Rules.{PlanMeaning, Rules, grant_at, carried}
use Rattle.plan.specs.Answers.{number_with}
use Rattle.plan.proofs.Lawful.{names_addressed}
use Rattle.repeats.specs.BitAndRepeatTimeslots.{for_retransmission}
use Rattle.repeats.specs.Bitmaps.{nothing_heard, marked_with}
use Rattle.repeats.specs.Starts.{sender_at}
use Rattle.repeats.specs.Laws.{BitsAlike}
use Rattle.repeats.proofs.EachGrantsBitsAreAlike.{always_alike}
use Rattle.cargo.specs.ReceivedCargo.{Receives}
use Rattle.coordinator.specs.declared.heard.Heard.{Heard}
use Rattle.coordinator.specs.declared.state.Inner.{Inner}
use Rattle.coordinator.specs.declared.mode.Mode.{Mode}
use Rattle.coordinator.specs.declared.open_superframe.Opened.{Opened}
use Rattle.coordinator.specs.declared.open_superframe.OpenSuperframe.{OpenSuperframe}
use Rattle.coordinator.specs.Frames.{state_of, configuration_for}
use Rattle.coordinator.specs.OpenSuperframes.{superframe_with}
use Rattle.coordinator.specs.Steps as coordinator
use Rattle.coordinator.specs.Steps.{is_online, is_managing, is_configuring, is_open, in_mode, mode_state, beacon_of}
use Rattle.coordinator.specs.Steps.{opened_as, open_answer, open_memory, begun, open_state, somebody, sending}
use Rattle.coordinator.specs.Steps.{listening, heard_from, HearsFrom, Hears, granted, gathering, hear_state, Managed}
use Rattle.coordinator.specs.Steps.{discovered, handing, requested, thanked, acknowledging, commanded, managed_by}
use Rattle.coordinator.specs.Steps.{managed_as, managing, replying, reply_memory, noted, reply_state, manage_answer}
use Rattle.coordinator.specs.Steps.{manage_memory, manage_state, ended, close_answer, close_state}
use Rattle.network.specs.Calls.{set_mode, opens, hears, hears_management, closes}
use Rattle.network.specs.Deeds.{Deed, opening, closing, hand_up, reply, transmission}
use Rattle.network.specs.Deeds.{nothing, deed}
use Rattle.network.specs.History.{Sending, superframes, announced, replies, sendings}
use Rattle.repeats.proofs.MarkingLeavesOtherGrants.{marked_size, marked_alike}
use Rattle.network.proofs.CallsAtADevice.{OfADevice}
use Rattle.network.proofs.StateAgreesWithHistory.{Steady, ReplyOf}

gathering_of : (b : Bool) (n : Numbers) (xs : List ℕ) (g : Grant)
    → length (cond b xs (marked_with n xs g)) ≡ length xs
gathering_of true n xs g = refl
gathering_of false n xs g = marked_size n xs g

pub gathering_size : (n : Numbers) (t : ℕ) (xs : List ℕ) (g : Grant) → length (gathering n t xs g) ≡ length xs
gathering_size n t xs g = gathering_of (for_retransmission n t) n xs g

module _ (m : PlanMeaning) (rules : Rules m) (i : ℕ) (g : Grant) (xs : List ℕ) (at : grant_at m i ≡ Some g)
    (len : length xs ≡ 32) (alike : BitsAlike m xs) where
  gathered_of : (b : Bool) → BitsAlike m (cond b xs (marked_with m.numbers xs g))
  gathered_of true = alike
  gathered_of false = marked_alike m rules i g xs at len alike

  pub gathering_alike : (t : ℕ) → BitsAlike m (gathering m.numbers t xs g)
  gathering_alike t = gathered_of (for_retransmission m.numbers t)

-- Hearing.

module _ (f1 f2 f3 f4 : Fault) (r : Result Grant Fault) (g : Grant) where
  passed : (a b c d : Bool) → cond a (Err f1) (cond b (Err f2) (cond c (Err f3) (cond d (Err f4) r))) ≡ Ok g
      → (a ≡ false) × (b ≡ false) × (c ≡ false) × (d ≡ false) × (r ≡ Ok g)
  passed true b c d e = absurd cc
  passed false true c d e = absurd cc
  passed false false true d e = absurd cc
  passed false false false true e = absurd cc
  passed false false false false e = (refl, refl, refl, refl, e)

somebody_is : (t : ℕ) (o : Option Grant) (g : Grant) → somebody t o ≡ Ok g → o ≡ Some g
somebody_is t None g e = absurd cc
somebody_is t (Some h) g e = let q : h ≡ g = cc in ap Some q

-- what a grant that is listened to tells
pub listened : (m : PlanMeaning) (k : Inner) (j t : ℕ) (g : Grant) → listening m k j t ≡ Ok g
    → (sending m k t ≡ Some g) × (k.opened ≡ true) × (k.last < t) × (is_online (state_of k.mode) ≡ true)
listened m k j t g e =
    let p = passed (fault refusal.Superframe 0) (fault refusal.Mode 0) (fault refusal.Timeslot t)
    (fault refusal.Late t) (somebody t (sending m k t)) g
    (not (is_open k j)) (not (is_online (state_of k.mode))) (eqb t 0 || ltb m.numbers.timeslots t) (leb t k.last) e in (
      somebody_is t (sending m k t) g p.4,
      (and_parts k.opened (eqb j k.number) (not-false _ p.0)).0,
      leb-false t k.last p.3,
      not-false _ p.1,
    )

module _ {C : Type 0} (image : C → List ℕ) (n : Numbers) (xs : List ℕ) (h : Heard C) where
  small_enough : (b : Bool) (g : Grant) (c : C)
      → Ok h ≡ cond b (Err (fault refusal.Size 0)) (Ok (record { simple = g.simple; cargo = c }))
      → (h.simple ≡ g.simple) × (h.cargo ≡ c)
  small_enough true g c e = absurd cc
  small_enough false g c e =
      let same : h ≡ record { simple = g.simple; cargo = c } = cc in
      (ap (λ (x : Heard C). x.simple) same, ap (λ (x : Heard C). x.cargo) same)

  received_as : (g : Grant) (received : Result C Fault) → Receives image xs received
      → Ok h ≡ heard_from image n g received → (h.simple ≡ g.simple) × Receives image xs (Ok h.cargo)
  received_as g (Err f) r e = absurd cc
  received_as g (Ok c) r e =
      let p = small_enough (ltb (carried n.size g) (length (image c))) g c e in
      (p.0, subst (λ (x : C). Receives image xs (Ok x)) (sym p.1) r)

  heard_as : (l : Result Grant Fault) → HearsFrom image n l xs (Ok h)
      → (g : Grant) × (l ≡ Ok g) × (h.simple ≡ g.simple) × Receives image xs (Ok h.cargo)
  heard_as (Err f) e = absurd cc
  heard_as (Ok g) e = let p = received_as g e.0 e.1 e.2 in (g, refl, p.0, p.1)

module _ {C : Type 0} (image : C → List ℕ) (m : PlanMeaning) (k : Inner) where
  -- what an accepted hearing says
  pub heard_tells : (j t : ℕ) (xs : List ℕ) (h : Heard C) → Hears image m k j t xs (Ok h)
      → (g : Grant) × (sending m k t ≡ Some g) × (k.opened ≡ true) × (k.last < t) × (h.simple ≡ g.simple)
      × Receives image xs (Ok h.cargo)
  heard_tells j t xs h e =
      let p = heard_as image m.numbers xs h (listening m k j t) e in
      let q = listened m k j t p.0 p.1 in
      (p.0, q.0, q.1, q.2, p.2, p.3)

-- Deeds that leave the coordinator as it is.
module _ {C : Type 0} (m : PlanMeaning) (k : Inner) (ds : List (Deed C)) where
  still_steady : (es : List (Deed C)) → announced es ≡ announced ds → superframes es ≡ superframes ds
      → replies es ≡ replies ds → sendings es ≡ sendings ds → Steady m k ds → Steady m k es
  still_steady es announces counts answers frames s = record {
    size = s.size;
    gathered_alike = s.gathered_alike;
    sent_alike = s.sent_alike;
    announces = announces ∙ s.announces;
    counted = rw counts s.counted;
    cleared = s.cleared;
    answered = rw answers s.answered;
    earlier = rw (frames, counts) s.earlier;
  }

  pub idle_steady : Steady m k ds → Steady m k (nothing ∷ ds)
  idle_steady s = still_steady (nothing ∷ ds) refl refl refl refl s

  -- the deeds of devices
  pub device_steady : (x : Deed C) → OfADevice x → Steady m k ds → Steady m k (x ∷ ds)
  device_steady (opening xs) of s = absurd of
  device_steady closing of s = absurd of
  device_steady (hand_up t xs simple x) of s = absurd of
  device_steady (reply xs) of s = absurd of
  device_steady (transmission d t xs) of s = record {
    size = s.size;
    gathered_alike = s.gathered_alike;
    sent_alike = s.sent_alike;
    announces = s.announces;
    counted = s.counted;
    cleared = s.cleared;
    answered = s.answered;
    earlier = λ x a. elim a [
      | inl e ↦ let q : x.superframe ≡ superframes ds = ap (λ (y : Sending). y.superframe) e in omega arith
      | inr there ↦ s.earlier x there
    ];
  }
  device_steady x of s = still_steady (x ∷ ds) refl refl refl refl s

long : length nothing_heard ≡ 32
long = length-replicate {A = ℕ} 32 0

pub begun_steady : (C : Type 0) (m : PlanMeaning) → Steady {C = C} m coordinator.made []
begun_steady C m = record {
  size = long;
  gathered_alike = always_alike m;
  sent_alike = always_alike m;
  announces = refl;
  counted = λ e. absurd cc;
  cleared = λ e. refl;
  answered = λ xs a. absurd a;
  earlier = λ x a. absurd a;
}

-- Setting the mode, opening and closing.

module _ {C : Type 0} (m : PlanMeaning) (k : Inner) (ds : List (Deed C)) where
  mode_so : (mode : Mode) (b : Bool) → k.opened ≡ b → Steady m k ds
      → Steady m (cond b k (in_mode mode k)) (nothing ∷ ds)
  mode_so mode true e s = idle_steady m k ds s
  mode_so mode false e s = record {
    size = s.size;
    gathered_alike = s.gathered_alike;
    sent_alike = s.sent_alike;
    announces = s.announces ∙ cond-false _ _ _ e ∙ sym (cond-false _ _ _ e);
    counted = s.counted;
    cleared = s.cleared;
    answered = s.answered;
    earlier = s.earlier;
  }

  -- the mode changes only while no superframe is open, so the beacon that was announced stays
  pub mode_steady : (mode : Mode) (r : Result (Unit {0}) Fault) → Steady m k ds
      → Steady m (mode_state k mode) (deed (set_mode mode r) ∷ ds)
  mode_steady mode r s = mode_so mode k.opened refl s

-- octets that fit stand at the start of the buffer
fits_whole : (b : Bool) (xs : List ℕ) (l : ℕ) → cond b (Err (fault refusal.Space 0)) (Ok (length xs)) ≡ Ok l
    → length xs ≡ l
fits_whole true xs l e = absurd cc
fits_whole false xs l e = cc

pub fitted : (xs buffer memory : List ℕ) (l : ℕ) → fitting xs buffer ≡ Ok l → memory ≡ left_by (Ok l) xs buffer
    → take l memory ≡ xs
fitted xs buffer memory l e f =
    ap (take l) f ∙ take_at xs (drop (length xs) buffer) l (fits_whole (ltb (length buffer) (length xs)) xs l e)

module _ {C : Type 0} (m : PlanMeaning) (k : Inner) (ds : List (Deed C)) where
  opened_so : (xs : List ℕ) → xs ≡ beacon_of m.numbers k → Steady m k ds → Steady m (begun k) (opening xs ∷ ds)
  opened_so xs e s = record {
    size = s.size;
    gathered_alike = s.gathered_alike;
    sent_alike = s.sent_alike;
    announces = ap Some e;
    counted = λ q. omega arith;
    cleared = λ q. absurd cc;
    answered = s.answered;
    earlier = λ x a. let h = s.earlier x a in omega arith;
  }

  -- an opening that is not refused has written the beacon
  opening_fits : (b : Bool) (r : Result ℕ Fault) (l : ℕ) → cond b (Err (fault refusal.Superframe 0)) r ≡ Ok l
      → r ≡ Ok l
  opening_fits true r l e = absurd cc
  opening_fits false r l e = e

  open_so : (buffer : List ℕ) (o : Result ℕ Fault) (r : Result Opened Fault) (memory : List ℕ)
      → coordinator.opening m.numbers k buffer ≡ o → r ≡ opened_as k.number o
      → memory ≡ left_by o (beacon_of m.numbers k) buffer → Steady m k ds
      → Steady m (cond (is_ok o) (begun k) k) (deed (opens buffer r memory) ∷ ds)
  open_so buffer (Err f) (Err g) memory d e h s = idle_steady m k ds s
  open_so buffer (Err f) (Ok o) memory d e h s = absurd cc
  open_so buffer (Ok l) (Err f) memory d e h s = absurd cc
  open_so buffer (Ok l) (Ok o) memory d e h s =
      let same : o ≡ record { length = l; superframe = superframe_with k.number } = cc in
      let q : o.length ≡ l = ap (λ (x : Opened). x.length) same in
      opened_so (take o.length memory)
      (ap (λ (x : ℕ). take x memory) q
      ∙ fitted (beacon_of m.numbers k) buffer memory l (opening_fits k.opened _ l d) h) s

  pub open_steady : (buffer : List ℕ) (r : Result Opened Fault) (memory : List ℕ) → r ≡ open_answer m.numbers k buffer
      → memory ≡ open_memory m.numbers k buffer → Steady m k ds
      → Steady m (open_state m.numbers k buffer) (deed (opens buffer r memory) ∷ ds)
  open_steady buffer r memory e h s = open_so buffer (coordinator.opening m.numbers k buffer) r memory refl e h s

  closed_so : Steady m k ds → Steady m (ended k) (closing ∷ ds)
  closed_so s = record {
    size = long;
    gathered_alike = always_alike m;
    sent_alike = s.gathered_alike;
    announces = refl;
    counted = λ q. absurd cc;
    cleared = λ q. refl;
    answered = s.answered;
    earlier = s.earlier;
  }

  close_so : (j : ℕ) (b : Bool) (f : Fault × OpenSuperframe) (r : Result (Unit {0}) (Fault × OpenSuperframe))
      → r ≡ cond b (Ok tt) (Err f) → Steady m k ds → Steady m (cond b (ended k) k) (deed (closes j r) ∷ ds)
  close_so j true f (Ok u) e s = closed_so s
  close_so j true f (Err g) e s = absurd cc
  close_so j false f (Ok u) e s = absurd cc
  close_so j false f (Err g) e s = idle_steady m k ds s

  pub close_steady : (j : ℕ) (r : Result (Unit {0}) (Fault × OpenSuperframe)) → r ≡ close_answer k j → Steady m k ds
      → Steady m (close_state k j) (deed (closes j r) ∷ ds)
  close_steady j r e s = close_so j (is_open k j) (fault refusal.Superframe 0, superframe_with j) r e s

-- Hearing a management frame.

abbrev replied : Result Managed Fault → List ℕ
replied (Ok x) = x.reply
replied (Err f) = []

module _ (m : PlanMeaning) (rules : Rules m) (k : Inner) (x : Managed) where
  thanked_as : (o : Option ℕ) → thanked k o ≡ Ok x → ReplyOf m x.reply
  thanked_as None e = absurd cc
  thanked_as (Some i) e = inl (sym (ap replied e))

  discovered_as : (o : Option ℕ) → discovered k o ≡ Ok x → ReplyOf m x.reply
  discovered_as None e = absurd cc
  discovered_as (Some i) e = inr (inl (sym (ap replied e)))

  handing_as : (a i : ℕ) (o : Option Grant) → grant_at m i ≡ o → number_with m a ≡ Some i → handing m k a i o ≡ Ok x
      → ReplyOf m x.reply
  handing_as a i None at named e = absurd cc
  handing_as a i (Some g) at named e =
      let w = (names_addressed m rules a i).0 named in
      let there : grant_at m i ≡ Some w.0 = w.1 in
      let same : w.0 ≡ g = cc in
      let address : g.address ≡ a = ap (λ (y : Grant). y.address) (sym same) ∙ w.2 in
      inr (inr (
        i,
        g,
        at,
        sym (ap replied e)
            ∙ ap (λ (b : ℕ).
            octets_of (command_frame (commands.ConfigurationRequest b (configuration_for m.numbers g))))
            (sym address),
      ))

  requested_as : (a : ℕ) (o : Option ℕ) → number_with m a ≡ o → requested m k a o ≡ Ok x → ReplyOf m x.reply
  requested_as a None named e = absurd cc
  requested_as a (Some i) named e = handing_as a i (grant_at m i) refl named e

  acknowledging_as : (b : Bool) (a : Acknowledged) → acknowledging k b a ≡ Ok x → ReplyOf m x.reply
  acknowledging_as b acknowledgments.Data e = absurd cc
  acknowledging_as b acknowledgments.DiscoverResponse e = absurd cc
  acknowledging_as true acknowledgments.ConfigurationRequest e = thanked_as k.handed e
  acknowledging_as false acknowledgments.ConfigurationRequest e = absurd cc

  commanded_as : (b : Bool) (c : Command) → commanded m k b c ≡ Ok x → ReplyOf m x.reply
  commanded_as true (commands.DiscoverResponse a w) e = absurd cc
  commanded_as false (commands.DiscoverResponse a w) e = discovered_as (number_with m a) e
  commanded_as true (commands.ConfigurationStatus a simple w first width) e = requested_as a (number_with m a) refl e
  commanded_as false (commands.ConfigurationStatus a simple w first width) e = absurd cc
  commanded_as b (commands.ConfigurationRequest a c) e = absurd cc

  message_as : (b : Bool) (y : Message) → managed_by m k b y ≡ Ok x → ReplyOf m x.reply
  message_as b (command_frame c) e = commanded_as b c e
  message_as b (acknowledgment_frame a) e = acknowledging_as b a e
  message_as b (data_frame p) e = absurd cc
  message_as b (online_beacon h n bitmap) e = absurd cc
  message_as b (discovery_beacon h g) e = absurd cc
  message_as b (configuration_beacon h g) e = absurd cc
  message_as b (reset_beacon h) e = absurd cc

  read_as : (t : Result Told Fault) → managed_as m k t ≡ Ok x → ReplyOf m x.reply
  read_as (Ok t) e = message_as (is_configuring (state_of k.mode)) t.message e
  read_as (Err f) e = absurd cc

  open_as : (a b : Bool) (t : Result Told Fault)
      → cond a (Err (fault refusal.Superframe 0)) (cond b (Err (fault refusal.Mode 0)) (managed_as m k t)) ≡ Ok x
      → ReplyOf m x.reply
  open_as true b t e = absurd cc
  open_as false true t e = absurd cc
  open_as false false t e = read_as t e

  pub replies_as : (j : ℕ) (xs : List ℕ) → managing m k j xs ≡ Ok x → ReplyOf m x.reply
  replies_as j xs e = open_as (not (is_open k j)) (not (is_managing (state_of k.mode))) (reading xs) e

module _ {C : Type 0} (m : PlanMeaning) (rules : Rules m) (k : Inner) (ds : List (Deed C)) where
  replied_so : (x : Managed) (xs : List ℕ) → ReplyOf m xs → Steady m k ds → Steady m (noted k x) (reply xs ∷ ds)
  replied_so x xs h s = record {
    size = s.size;
    gathered_alike = s.gathered_alike;
    sent_alike = s.sent_alike;
    announces = s.announces;
    counted = s.counted;
    cleared = s.cleared;
    answered = λ ys a. elim a [
      | inl e ↦ subst (λ (zs : List ℕ). ReplyOf m zs) (sym e) h
      | inr there ↦ s.answered ys there
    ];
    earlier = s.earlier;
  }

  replying_so : (j : ℕ) (xs buffer : List ℕ) (x : Managed) (o r : Result ℕ Fault) (memory : List ℕ)
      → ReplyOf m x.reply → fitting x.reply buffer ≡ o → r ≡ o → memory ≡ left_by o x.reply buffer → Steady m k ds
      → Steady m (cond (is_ok o) (noted k x) k) (deed (hears_management j xs buffer r memory) ∷ ds)
  replying_so j xs buffer x (Err f) (Err g) memory h d e q s = idle_steady m k ds s
  replying_so j xs buffer x (Err f) (Ok l) memory h d e q s = absurd cc
  replying_so j xs buffer x (Ok l) (Err f) memory h d e q s = absurd cc
  replying_so j xs buffer x (Ok l) (Ok n) memory h d e q s =
      let same : n ≡ l = cc in
      let whole : take n memory ≡ x.reply = ap (λ (y : ℕ). take y memory) same ∙ fitted x.reply buffer memory l d q in
      replied_so x (take n memory) (subst (λ (zs : List ℕ). ReplyOf m zs) (sym whole) h) s

  manage_so : (j : ℕ) (xs buffer : List ℕ) (o : Result Managed Fault) (r : Result ℕ Fault) (memory : List ℕ)
      → managing m k j xs ≡ o → r ≡ replying o buffer → memory ≡ reply_memory o buffer → Steady m k ds
      → Steady m (reply_state k o buffer) (deed (hears_management j xs buffer r memory) ∷ ds)
  manage_so j xs buffer (Err f) (Err g) memory d e q s = idle_steady m k ds s
  manage_so j xs buffer (Err f) (Ok l) memory d e q s = absurd cc
  manage_so j xs buffer (Ok x) r memory d e q s =
      replying_so j xs buffer x (fitting x.reply buffer) r memory (replies_as m rules k x j xs d) refl e q s

  pub manage_steady : (j : ℕ) (xs buffer : List ℕ) (r : Result ℕ Fault) (memory : List ℕ)
      → r ≡ manage_answer m k j xs buffer → memory ≡ manage_memory m k j xs buffer → Steady m k ds
      → Steady m (manage_state m k j xs buffer) (deed (hears_management j xs buffer r memory) ∷ ds)
  manage_steady j xs buffer r memory e q s = manage_so j xs buffer (managing m k j xs) r memory refl e q s

-- Hearing a data frame.

granted_at : (m : PlanMeaning) (o : Option ℕ) (g : Grant) → granted m o ≡ Some g → (i : ℕ) × (grant_at m i ≡ Some g)
granted_at m None g e = absurd cc
granted_at m (Some i) g e = (i, e)

-- the grant of a sender is one of the plan
pub sender_granted : (m : PlanMeaning) (k : Inner) (t : ℕ) (g : Grant) → sending m k t ≡ Some g
    → (i : ℕ) × (grant_at m i ≡ Some g)
sender_granted m k t g e = granted_at m (sender_at m k.sent t) g e

module _ {C : Type 0} (m : PlanMeaning) (rules : Rules m) (k : Inner) (ds : List (Deed C)) where
  heard_so : (t : ℕ) (xs : List ℕ) (simple : ℕ) (c : C) (o : Option Grant) (g : Grant) → sending m k t ≡ o
      → o ≡ Some g → k.opened ≡ true → Steady m k ds
      → Steady m (coordinator.accepted m.numbers k t o) (hand_up t xs simple c ∷ ds)
  heard_so t xs simple c None g d e opened s = absurd cc
  heard_so t xs simple c (Some h) g d e opened s =
      let w = sender_granted m k t h d in
      record {
        size = gathering_size m.numbers t k.gathered h ∙ s.size;
        gathered_alike = gathering_alike m rules w.0 h k.gathered w.1 s.size s.gathered_alike t;
        sent_alike = s.sent_alike;
        announces = s.announces;
        counted = s.counted;
        cleared = λ q. absurd cc;
        answered = s.answered;
        earlier = s.earlier;
      }

module _ {C : Type 0} (image : C → List ℕ) (m : PlanMeaning) (rules : Rules m) (k : Inner) (ds : List (Deed C)) where
  pub hear_steady : (j t : ℕ) (xs : List ℕ) (r : Result (Heard C) Fault) → Hears image m k j t xs r → Steady m k ds
      → Steady m (hear_state m k t r) (deed (hears j t xs r) ∷ ds)
  hear_steady j t xs (Err f) e s = idle_steady m k ds s
  hear_steady j t xs (Ok h) e s =
      let w = heard_tells image m k j t xs h e in
      heard_so m rules k ds t xs h.simple h.cargo (sending m k t) w.0 refl w.1 w.2 s
