-- Which frame an arrival was read out of, and in which superframes frames are sent.
use Rattle.std.proofs.Common.{◌≡◌, ℕ, suc, ◌≤◌, Bool, true, false, cond, not, eqb, List, [], ◌∷◌, length}
use Rattle.std.proofs.Common.{is_some, Some, None, Option, sym, refl, ap, ◌∙◌, subst, inl, inr, ⊎_elim, arith}
use Rattle.std.proofs.lemmas.Bool.{both_ways, cases_eq, eq-eqb, ne_eqb, le-ltb}
use Rattle.plan.specs.declared.grant.Grant.{Grant}
use Rattle.plan.specs.Rules.{PlanMeaning, Rules}
use Rattle.repeats.specs.BitAndRepeatTimeslots.{for_retransmission}
use Rattle.repeats.specs.Starts.{repeat_start}
use Rattle.coordinator.specs.declared.state.Inner.{Inner}
use Rattle.device.specs.declared.device.Device.{Device}
use Rattle.device.specs.declared.fate.Fate.{Fate}
use Rattle.network.specs.Deeds.{Deed, opening, hand_up, news, transmission}
use Rattle.network.specs.History.{numbered, Among, Sending, Telling, Arrival, Frame, frame_at, before}
use Rattle.network.specs.History.{superframes, announced, learned, sendings, told, own_sendings, repeated, arrivals}
use Rattle.network.specs.History.{frames}
use Rattle.network.specs.Guarantee.{grant_of, simple_of, EveryArrivalIsOfAFrameOfItsDevice}
use Rattle.network.specs.Guarantee.{OwnFramesStartWithTheGrant, OneOwnFrameAndOneRepeatASuperframe}
use Rattle.network.specs.Guarantee.{RepeatsComeWithTheirFate}
use Rattle.network.specs.Runs.{Devices, KeepsRules}
use Rattle.network.proofs.TheBookGivesTheGuarantee.{numbered_map}
use Rattle.network.proofs.DeviceBook.{telling_of}
use Rattle.network.proofs.FramesCarryTheirAcceptance.{numbered_kept, topped}
use Rattle.network.proofs.OwnCallsKeepTheBook.{Sends}
use Rattle.network.proofs.FramesAreOwnOrRepeats.{own_is_no_repeat, repeats_are_for_retransmission}
use Rattle.network.proofs.RepeatsAreOfTheLastTold.{last_told}
use Rattle.network.proofs.HearingKeepsTheBook.{grant_found}
use Rattle.network.proofs.StateAgreesWithHistory.{Sound, OwnFrame, Standing}

module _ {C : Type 0} (image : C → List ℕ) (m : PlanMeaning) (devices : Devices) (e : ℕ) where
  abbrev r : ℕ → Bool
  r = for_retransmission m.numbers

  -- the frame that is on the air in superframe k, by the superframes in which the device sent in its own timeslot
  -- until now
  abbrev framed_by : List ℕ → ℕ → Sending → Frame
  framed_by ss k y =
      cond (r y.timeslot)
      (record { number = before k ss; own = false; superframe = k; timeslot = y.timeslot; octets = y.octets })
      (record { number = length ss; own = true; superframe = k; timeslot = y.timeslot; octets = y.octets })

  abbrev framed : List (Deed C) → Sending → Frame
  framed ds y = framed_by (own_sendings e r ds) (superframes ds) y

  -- a repeat does not go by what is sent in the same superframe
  repeat_alike : (ss : List ℕ) (k : ℕ) (y : Sending) → r y.timeslot ≡ true → framed_by (k ∷ ss) k y ≡ framed_by ss k y
  repeat_alike ss k y low = rw (low, le-ltb k k (omega arith)) refl

  -- a frame was sent by this device in that superframe, above R or not
  abbrev SentAs : List (Deed C) → Frame → Type 0
  SentAs ds x = (y : Sending) × Among y (sendings ds) × (y.device ≡ e) × (y.superframe ≡ x.superframe)
      × (r y.timeslot ≡ not x.own)

  pub record Credits (ds : List (Deed C)) : Type 0 where
    -- what it sent in this superframe came after its news, and is what is heard of it now
    pub now : (y : Sending) → Among y (sendings ds) → y.device ≡ e → y.superframe ≡ superframes ds
        → (learned e ds ≡ true) × Among (framed ds y) (frames e r ds)
    pub sent : (x : Frame) → Among x (frames e r ds) → SentAs ds x
    pub of_its_frame : EveryArrivalIsOfAFrameOfItsDevice m devices ds e
    pub own_first : OwnFramesStartWithTheGrant m devices ds e
    pub single : OneOwnFrameAndOneRepeatASuperframe m devices ds e
    pub timely : RepeatsComeWithTheirFate m devices ds e

  -- what a deed tells of a device beside what holds of it: how it sends, and which frame was heard under its address
  abbrev pub Grounds : Device C → List (Deed C) → Deed C → Type 0
  Grounds v ds (transmission d t xs) = d ≡ e
      → (g : Grant) × (grant_of m (devices.address e) ≡ Some g) × Sends image m.numbers g t v
  Grounds v ds (hand_up t xs simple x) = simple_of m (devices.address e) ≡ Some simple
      → (y : Sending) × Among y (sendings ds) × (y.device ≡ e) × (y.superframe ≡ superframes ds) × (y.timeslot ≡ t)
      × (y.octets ≡ xs)
  Grounds v ds deed = Unit {0}

  pub begun_credits : Credits []
  begun_credits = record {
    now = λ y none. absurd none;
    sent = λ x none. absurd none;
    of_its_frame = λ x h. absurd h;
    own_first = λ x none. absurd none;
    single = tt;
    timely = λ x none. absurd none;
  }

  module _ (ds : List (Deed C)) (c : Credits ds) where
    -- nothing was sent yet in a superframe that opens
    opening_credits : (xs : List ℕ) → ((x : Sending) → Among x (sendings ds) → x.superframe ≤ superframes ds)
        → Credits (opening xs ∷ ds)
    opening_credits xs earlier = record {
      now = λ y among device is. let before = earlier y among in absurd (omega arith);
      sent = c.sent;
      of_its_frame = c.of_its_frame;
      own_first = c.own_first;
      single = c.single;
      timely = c.timely;
    }

    -- news come before what is sent in a superframe
    news_credits : (d : ℕ) (b : Option (List ℕ)) (φ : Option Fate) → learned d ds ≡ false → Credits (news d b φ ∷ ds)
    news_credits d b φ unaware = elim (cases_eq d e) [
      | inl same ↦ record {
        now = λ y among device is. absurd
            (both_ways _ (subst (λ (z : ℕ). learned z ds ≡ false) same unaware) (c.now y among device is).0);
        sent = c.sent;
        of_its_frame = c.of_its_frame;
        own_first = c.own_first;
        single = c.single;
        timely = λ x among repeat.
            let w = c.timely x among repeat in (w.0, numbered_kept _ (told e ds) x.number w.0 w.1, w.2, w.3);
      }
      | inr differ ↦
          (let q = ne_eqb d e differ in
          record {
            now = rw q c.now;
            sent = c.sent;
            of_its_frame = c.of_its_frame;
            own_first = c.own_first;
            single =
                c.single;
            timely = rw q c.timely;
          })
    ]

    -- what is heard under its address is the frame that it sent there
    heard_more : (t : ℕ) (xs : List ℕ) (simple : ℕ) (z : C) (o : Option ℕ)
        → (o ≡ Some simple → Among (frame_at e r ds t (length (own_sendings e r ds)) xs) (frames e r ds))
        → ((x : Arrival C) → Among x (arrivals e r o ds) → Among x.frame (frames e r ds))
        → (x : Arrival C) → Among x (arrivals e r o (hand_up t xs simple z ∷ ds)) → Among x.frame (frames e r ds)
    heard_more t xs simple z None its before x h = before x h
    heard_more t xs simple z (Some a) its before x h = elim (cases_eq simple a) [
      | inl same ↦ ⊎_elim
          (λ is. subst (λ (y : Arrival C). Among y.frame (frames e r ds)) (sym is) (its (ap Some (sym same))))
          (before x)
          (rw (eq-eqb simple a same) at h)
      | inr differ ↦ before x (rw (ne_eqb simple a differ) at h)
    ]

    hand_up_credits : (v : Device C) (t : ℕ) (xs : List ℕ) (simple : ℕ) (z : C) → Grounds v ds (hand_up t xs simple z)
        → Credits (hand_up t xs simple z ∷ ds)
    hand_up_credits v t xs simple z grounds = record {
      now = c.now;
      sent = c.sent;
      of_its_frame = heard_more t xs simple z (simple_of m (devices.address e)) its c.of_its_frame;
      own_first = c.own_first;
      single = c.single;
      timely = c.timely;
    }
      where
        its : simple_of m (devices.address e) ≡ Some simple
            → Among (frame_at e r ds t (length (own_sendings e r ds)) xs) (frames e r ds)
        its found =
            let y = grounds found in
            let there = (c.now y.0 y.1 y.2 y.3).1 in
            subst (λ (l : List ℕ). Among (frame_at e r ds t (length (own_sendings e r ds)) l) (frames e r ds)) y.5
            (subst (λ (u : ℕ). Among (frame_at e r ds u (length (own_sendings e r ds)) y.0.octets)
            (frames e r ds)) y.4 there)

    -- the frame of another device
    elsewhere_credits : (d t : ℕ) (xs : List ℕ) → (d ≡ e → ⊥) → Credits (transmission d t xs ∷ ds)
    elsewhere_credits d t xs differ =
        let q = ne_eqb d e differ in
        record {
          now = rw q
              (λ y among device is.
              ⊎_elim (λ new. absurd (differ (sym (ap (λ (z : Sending). z.device) new) ∙ device)))
              (λ old. c.now y old device is) among);
          sent = rw q (λ x among. let w = c.sent x among in (w.0, inr w.1, w.2, w.3, w.4));
          of_its_frame = rw q c.of_its_frame;
          own_first = rw q c.own_first;
          single = rw q c.single;
          timely = rw q c.timely;
        }

    -- a frame of this device: in its own timeslot, where it sent none since the news, or a repeat that is due
    module _ (rules : Rules m) (g : Grant) (found : grant_of m (devices.address e) ≡ Some g)
        (gathered bitmap : List ℕ) (last : ℕ) (v : Device C)
        (s : Sound image m.numbers e g true gathered bitmap last v ds) (aware : learned e ds ≡ true) (d t : ℕ)
        (xs : List ℕ) (same : d ≡ e) where
      abbrev this : Sending
      this = record { device = d; superframe = superframes ds; timeslot = t; octets = xs }

      abbrev own_frame : Frame
      own_frame =
          record {
            number = suc (length (own_sendings e r ds));
            own = true;
            superframe = superframes ds;
            timeslot =
                t;
            octets = xs;
          }

      abbrev again_frame : Frame
      again_frame =
          record { number = repeated e r ds; own = false; superframe = superframes ds; timeslot = t; octets = xs }

      -- what it sent in its own timeslot is in none for retransmission, and a repeat is in one
      own_apart : (y : Sending) → OwnFrame image m.numbers g v y → r y.timeslot ≡ false
      own_apart y w = let at = grant_found m rules (devices.address e) g found in ap r w.timeslot
          ∙ own_is_no_repeat m rules at.0 g at.1

      again_there : (u : ℕ) → repeat_start m.numbers bitmap g ≡ Some u → r u ≡ true
      again_there u starts =
          let at = grant_found m rules (devices.address e) g found in
          repeats_are_for_retransmission m rules at.0 g at.1 bitmap u starts

      -- the frames on the air are among those sent, as these and the own sendings are after this one
      placed : (ss : List ℕ) (fs : List Frame) → own_sendings e r (transmission d t xs ∷ ds) ≡ ss
          → frames e r (transmission d t xs ∷ ds) ≡ fs
          → (y : Sending) → Among (framed_by ss (superframes ds) y) fs
          → Among (framed (transmission d t xs ∷ ds) y) (frames e r (transmission d t xs ∷ ds))
      placed ss fs own sent y among =
          subst (λ (l : List ℕ). Among (framed_by l (superframes ds) y) (frames e r (transmission d t xs ∷ ds)))
          (sym own)
          (subst (λ (l : List Frame). Among (framed_by ss (superframes ds) y) l) (sym sent) among)

      own_credits : v.sent ≡ None → t ≡ g.first → Credits (transmission d t xs ∷ ds)
      own_credits none is =
          let q : eqb d e ≡ true = eq-eqb d e same in
          let at = grant_found m rules (devices.address e) g found in
          let high : r t ≡ false = ap r is ∙ own_is_no_repeat m rules at.0 g at.1 in
          record {
            now = λ y among device k. (
              aware,
              placed (superframes ds ∷ own_sendings e r ds) (own_frame ∷ frames e r ds) (rw (q, high) refl)
                  (rw (q, high) refl) y
                  (⊎_elim (λ new. inl (newest y high new)) (λ old. inr (older y old device k)) among),
            );
            sent = rw (q, high) (λ x among. ⊎_elim
                (λ new. (
                  this,
                  inl refl,
                  same,
                  sym (ap (λ (z : Frame). z.superframe) new),
                  high
                      ∙ sym (ap (λ (z : Frame). not z.own) new),
                ))
                (λ old. let w = c.sent x old in (w.0, inr w.1, w.2, w.3, w.4))
                among);
            of_its_frame = rw (q, high) (λ x h. inr (c.of_its_frame x h));
            own_first =
                rw (q, high)
                (λ x among own. ⊎_elim (λ new. (g, found, ap (λ (z : Frame). z.timeslot) new ∙ is))
                (λ old. c.own_first x old own) among);
            single = rw (q, high) (alone, c.single);
            timely = rw (q, high) (λ x among repeat. ⊎_elim
                (λ new. let own = ap (λ (z : Frame). z.own) new in absurd (both_ways _ repeat own))
                (λ old. c.timely x old repeat)
                among);
          }
        where
          only_again : (y : Sending) → Among y (sendings ds) → y.device ≡ e → y.superframe ≡ superframes ds
              → r y.timeslot ≡ true
          only_again y among device k =
              ⊎_elim (λ w. let some = w.sent in absurd cc) (λ w. again_there y.timeslot w.to_repeat.starts)
              (s.frames refl y among device k).1

          alone : (y : Frame) → Among y (frames e r ds) → y.superframe ≡ superframes ds → y.own ≡ true → ⊥
          alone y among k own =
              let w = c.sent y among in
              let low = only_again w.0 w.1 w.2 (w.3 ∙ k) in
              both_ways _ (w.4 ∙ ap not own) low

          newest : (y : Sending) → r t ≡ false → y ≡ this
              → framed_by (superframes ds ∷ own_sendings e r ds) (superframes ds) y ≡ own_frame
          newest y high new = ap (framed_by (superframes ds ∷ own_sendings e r ds) (superframes ds)) new
              ∙ rw high refl

          older : (y : Sending) → Among y (sendings ds) → y.device ≡ e → y.superframe ≡ superframes ds
              → Among (framed_by (superframes ds ∷ own_sendings e r ds) (superframes ds) y) (frames e r ds)
          older y among device k =
              subst (λ (z : Frame). Among z (frames e r ds))
              (sym (repeat_alike (own_sendings e r ds) (superframes ds) y (only_again y among device k)))
              (c.now y among device k).1

      again_credits : (x : C) → v.repeat ≡ Some (record { start = t; cargo = x }) → Credits (transmission d t xs ∷ ds)
      again_credits x some =
          let q : eqb d e ≡ true = eq-eqb d e same in
          let due = s.due (record { start = t; cargo = x }) some refl aware in
          let low : r t ≡ true = again_there t due.0.starts in
          let number = repeated e r ds in
          let lines : number ≡ length s.book =
          last_told r e true (learned e ds) refl aware ds v.waiting v.sent _ _ s.book s.agrees in
          let top = due.0.top in
          let line : numbered s.book number ≡ Some top = topped top due.0.rest s.book number due.0.book_is lines in
          let fated : numbered (told e ds) number ≡ Some (telling_of top) =
          ap (λ (l : List Telling). numbered l number) s.agrees.tells
          ∙ numbered_map telling_of s.book number top line in
          record {
            now = λ y among device k. (
              aware,
              placed (own_sendings e r ds) (again_frame ∷ frames e r ds) (rw (q, low) refl)
                  (rw (q, low) refl) y
                  (⊎_elim (λ new. inl (newest y low new)) (λ old. inr (c.now y old device k).1) among),
            );
            sent = rw (q, low) (λ y among. ⊎_elim
                (λ new. (
                  this,
                  inl refl,
                  same,
                  sym (ap (λ (z : Frame). z.superframe) new),
                  low
                      ∙ sym (ap (λ (z : Frame). not z.own) new),
                ))
                (λ old. let w = c.sent y old in (w.0, inr w.1, w.2, w.3, w.4))
                among);
            of_its_frame = rw (q, low) (λ y h. inr (c.of_its_frame y h));
            own_first =
                rw (q, low)
                (λ y among own. ⊎_elim (λ new. absurd (both_ways _ (ap (λ (z : Frame). z.own) new) own))
                (λ old. c.own_first y old own) among);
            single = rw (q, low) (alone, c.single);
            timely = rw (q, low) (λ y among repeat. ⊎_elim
                (λ new. (
                  telling_of top,
                  subst (λ (z : Frame). numbered (told e ds) z.number ≡ Some (telling_of top))
                      (sym new) fated,
                  due.0.fate,
                  due.2 ∙ sym (ap (λ (z : Frame). z.superframe) new),
                ))
                (λ old. c.timely y old repeat)
                among);
          }
        where
          only_own : (y : Sending) → Among y (sendings ds) → y.device ≡ e → y.superframe ≡ superframes ds
              → r y.timeslot ≡ false
          only_own y among device k = ⊎_elim (λ w. own_apart y w) (λ w. let spent = w.spent in absurd cc)
              (s.frames refl y among device k).1

          alone : (y : Frame) → Among y (frames e r ds) → y.superframe ≡ superframes ds → y.own ≡ false → ⊥
          alone y among k own =
              let w = c.sent y among in
              let high = only_own w.0 w.1 w.2 (w.3 ∙ k) in
              both_ways _ high (w.4 ∙ ap not own)

          newest : (y : Sending) → r t ≡ true → y ≡ this → framed ds y ≡ again_frame
          newest y low new = ap (framed ds) new ∙ rw low refl

      sent_credits : Sends image m.numbers g t v → Credits (transmission d t xs ∷ ds)
      sent_credits how = ⊎_elim (λ w. own_credits w.0 w.1) (λ w. again_credits w.0 w.1) how

  -- every deed keeps it, by what holds before the deed
  pub next_credits : Rules m → (k : Inner) (v : Device C) (ds : List (Deed C))
      → (is_some (announced ds) ≡ true → k.opened ≡ true)
      → ((x : Sending) → Among x (sendings ds) → x.superframe ≤ superframes ds)
      → Standing image m.numbers e (grant_of m (devices.address e)) k v ds
      → (deed : Deed C) → KeepsRules devices.count ds deed → Grounds v ds deed → Credits ds → Credits (deed ∷ ds)
  next_credits rules k v ds opened earlier s (opening xs) keeps grounds c = opening_credits ds c xs earlier
  next_credits rules k v ds opened earlier s (hand_up t xs simple x) keeps grounds c =
      hand_up_credits ds c v t xs simple x grounds
  next_credits rules k v ds opened earlier s (news d None φ) keeps grounds c = news_credits ds c d None φ keeps.1
  next_credits rules k v ds opened earlier s (news d (Some b) φ) keeps grounds c =
      news_credits ds c d (Some b) φ keeps.1
  next_credits rules k v ds opened earlier s (transmission d t xs) keeps grounds c = elim (cases_eq d e) [
    | inl same ↦ (
        let w = grounds same in
        let sound = subst (λ (o : Option Grant). Standing image m.numbers e o k v ds) w.1 s in
        let then = subst (λ (b : Bool). Sound image m.numbers e w.0 b k.gathered k.sent k.last v ds)
        (opened keeps.0) sound in
        sent_credits ds c rules w.0 w.1 k.gathered k.sent k.last v then
        (subst (λ (z : ℕ). learned z ds ≡ true) same keeps.1) d t xs same w.2)
    | inr differ ↦ elsewhere_credits ds c d t xs differ
  ]
  next_credits rules k v ds opened earlier s deed keeps grounds c = record {
    now = c.now;
    sent = c.sent;
    of_its_frame = c.of_its_frame;
    own_first = c.own_first;
    single = c.single;
    timely = c.timely;
  }
