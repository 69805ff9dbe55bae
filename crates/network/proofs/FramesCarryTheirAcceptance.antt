-- Which acceptance a frame carries: in its own timeslot the next one, and in a timeslot for retransmission the one
-- whose fate was told last.
use Rattle.std.proofs.Common.{◌≡◌, ℕ, suc, Bool, true, false, eqb, List, [], ◌∷◌, ◌++◌, map, filter, length, is_some}
use Rattle.std.proofs.Common.{Some, None, Option, sym, refl, ap, ◌∙◌, subst, inl, inr, ⊎_elim, arith}
use lib.ListN.{length-map}
use Rattle.std.specs.List.{cons_option}
use Rattle.std.proofs.lemmas.Bool.{cases_eq, eq-eqb, ne_eqb}
use Rattle.plan.specs.declared.grant.Grant.{Grant}
use Rattle.plan.specs.Rules.{PlanMeaning, Rules}
use Rattle.repeats.specs.BitAndRepeatTimeslots.{for_retransmission}
use Rattle.coordinator.specs.declared.state.Inner.{Inner}
use Rattle.device.specs.declared.device.Device.{Device}
use Rattle.device.specs.declared.fate.Fate.{Fate}
use Rattle.device.specs.declared.fate.Fate.TheVariants as fate
use Rattle.network.specs.Deeds.{Deed, news, acceptance, transmission}
use Rattle.network.specs.History.{numbered, Sending, Telling, Repetition, superframes, announced, learned, sendings}
use Rattle.network.specs.History.{accepted, told, is_own, own_sendings, own_frames, repeated}
use Rattle.network.specs.Guarantee.{grant_of, OwnFramesCarryTheirAcceptances, RepeatsCarryWhatWasToldRepeated}
use Rattle.network.specs.Runs.{Devices, KeepsRules}
use Rattle.network.proofs.TheBookGivesTheGuarantee.{numbered_top, numbered_cases, numbered_more, numbered_append}
use Rattle.network.proofs.TheBookGivesTheGuarantee.{numbered_map}
use Rattle.network.proofs.DeviceBook.{Line, telling_of, listed, since}
use Rattle.network.proofs.FramesAreOwnOrRepeats.{own_is_no_repeat, repeats_are_for_retransmission}
use Rattle.network.proofs.HearingKeepsTheBook.{grant_found}
use Rattle.network.proofs.RepeatsAreOfTheLastTold.{last_told}
use Rattle.network.proofs.StateAgreesWithHistory.{Sound, OwnFrame, AgainFrame, Standing, frame_with}

-- entries keep their numbers where another may be put in front
pub numbered_kept : {A : Type 0} (o : Option A) (xs : List A) (k : ℕ) (z : A) → numbered xs k ≡ Some z
    → numbered (cons_option o xs) k ≡ Some z
numbered_kept None xs k z h = h
numbered_kept (Some x) xs k z h = numbered_more x xs k z h

-- the frames in its own timeslot are as many as the superframes in which a device sent there
as_many : {C : Type 0} (again : ℕ → Bool) (e : ℕ) (ds : List (Deed C))
    → length (own_frames e again ds) ≡ length (own_sendings e again ds)
as_many again e ds = let xs = filter (is_own e again) (sendings ds) in length-map xs (λ (x : Sending). x.octets)
    ∙ sym (length-map xs (λ (x : Sending). x.superframe))

-- acceptances by a book
module _ {C : Type 0} where
  -- what was sent is the acceptance after those of the book
  flying_accepted : (waiting sent : Option C) (x : C) (book : List (Line C)) (k : ℕ) → sent ≡ Some x
      → k ≡ suc (length book)
      → numbered (listed waiting ++ (listed sent ++ map (λ y. y.cargo) book)) k ≡ Some x
  flying_accepted waiting sent x book k flies is =
      numbered_append (listed waiting) _ k x
      (subst (λ (o : Option C). numbered (listed o ++ map (λ y. y.cargo) book) k ≡ Some x) (sym flies)
      (numbered_top x (map (λ y. y.cargo) book) k (is ∙ ap suc (sym (length-map book (λ y. y.cargo))))))

  -- the own sendings before it are as many as the lines of the book
  before_flying : (s b : ℕ) (sent : Option C) (x : C) (book : List (Line C)) (ss : List ℕ) → sent ≡ Some x
      → s ∷ ss ≡ since b sent ++ map (λ y. y.sent) book → length ss ≡ length book
  before_flying s b None x book ss flies e = absurd cc
  before_flying s b (Some y) x book ss flies e = let a = ap length e in
      let c = length-map book (λ (l : Line C). l.sent) in omega arith

  -- the top line of the book
  pub topped : (top : Line C) (rest book : List (Line C)) (k : ℕ) → book ≡ top ∷ rest → k ≡ length book
      → numbered book k ≡ Some top
  topped top rest book k is e = ap (λ (l : List (Line C)). numbered l k) is
      ∙ numbered_top top rest k (e ∙ ap length is)

  -- a line's cargo is the acceptance with its number
  lined_accepted : (waiting sent : Option C) (y : Line C) (book : List (Line C)) (k : ℕ) → numbered book k ≡ Some y
      → numbered (listed waiting ++ (listed sent ++ map (λ l. l.cargo) book)) k ≡ Some y.cargo
  lined_accepted waiting sent y book k h =
      numbered_append (listed waiting) _ k y.cargo
      (numbered_append (listed sent) _ k y.cargo (numbered_map (λ l. l.cargo) book k y h))

module _ {C : Type 0} (image : C → List ℕ) (m : PlanMeaning) (devices : Devices) (e : ℕ) where
  -- which acceptances the frames of a device carry
  pub record Carries (ds : List (Deed C)) : Type 0 where
    pub own : OwnFramesCarryTheirAcceptances m devices ds e image
    pub again : RepeatsCarryWhatWasToldRepeated m devices ds e image

  abbrev r : ℕ → Bool
  r = for_retransmission m.numbers

  pub begun_carries : Carries []
  begun_carries = record { own = λ k xs h. (absurd cc); again = λ y none. absurd none }

  module _ (ds : List (Deed C)) (c : Carries ds) where
    -- an acceptance or a telling is put in front of the earlier ones
    acceptance_carries : (d : ℕ) (x : C) → Carries (acceptance d x ∷ ds)
    acceptance_carries d x = record {
      own = λ k xs h. (let w = c.own k xs h in (w.0, numbered_kept _ (accepted e ds) k w.0 w.1, w.2));
      again = λ y among.
          (let w = c.again y among in
          (w.0, w.1, numbered_kept _ (accepted e ds) y.number w.0 w.2, w.3, w.4, w.5, w.6));
    }

    news_carries : (d : ℕ) (b : Option (List ℕ)) (φ : Option Fate) → Carries (news d b φ ∷ ds)
    news_carries d b φ = record {
      own = c.own;
      again = λ y among.
          (let w = c.again y among in (w.0, w.1, w.2, w.3, numbered_kept _ (told e ds) y.number w.1 w.4, w.5, w.6));
    }

    -- the frame of another device
    elsewhere_carries : (d t : ℕ) (xs : List ℕ) → (d ≡ e → ⊥) → Carries (transmission d t xs ∷ ds)
    elsewhere_carries d t xs differ = let q = ne_eqb d e differ in record { own = rw q c.own; again = rw q c.again }

    module _ (rules : Rules m) (k : Inner) (v : Device C) (opened : k.opened ≡ true) (aware : learned e ds ≡ true)
        (d t : ℕ) (xs : List ℕ) (same : d ≡ e) where
      abbrev this : Sending
      this = record { device = d; superframe = superframes ds; timeslot = t; octets = xs }

      -- what a repeat carries
      abbrev Carried : Repetition → Type 0
      Carried y =
          (x : C) × (z : Telling) × (numbered (accepted e ds) y.number ≡ Some x)
          × (y.octets ≡ frame_with image m.numbers x)
          × (numbered (told e ds) y.number ≡ Some z) × (z.fate ≡ fate.Repeated) × (y.number ≡ y.told)

      module _ (g : Grant) (found : grant_of m (devices.address e) ≡ Some g)
          (s : Sound image m.numbers e g k.opened k.gathered k.sent k.last v (transmission d t xs ∷ ds)) where
        -- in its own timeslot
        own_carries : OwnFrame image m.numbers g v this → Carries (transmission d t xs ∷ ds)
        own_carries w =
            let at = grant_found m rules (devices.address e) g found in
            let q : eqb d e ≡ true = eq-eqb d e same in
            let high : r t ≡ false = ap r w.timeslot ∙ own_is_no_repeat m rules at.0 g at.1 in
            let lines : length (own_frames e r ds) ≡ length s.book =
            as_many r e ds ∙ before_flying (superframes ds) _ v.sent w.cargo s.book (own_sendings e r ds) w.sent
            (rw (q, high) at s.agrees.sends) in
            record {
              own = rw (q, high) (λ j ys h. elim (numbered_cases xs (own_frames e r ds) j ys h) [
                | inl z ↦ (
                  w.cargo,
                  ap (λ (l : List C). numbered l j) s.agrees.accepts
                      ∙ flying_accepted v.waiting v.sent w.cargo s.book j w.sent (z.0 ∙ ap suc lines),
                  z.1 ∙ w.octets,
                )
                | inr older ↦ c.own j ys older
              ]);
              again = rw (q, high) c.again;
            }

        -- in a timeslot for retransmission
        again_carries : AgainFrame image m.numbers g k.sent k.last v s.book this → Carries (transmission d t xs ∷ ds)
        again_carries w =
            let at = grant_found m rules (devices.address e) g found in
            let q : eqb d e ≡ true = eq-eqb d e same in
            let low : r t ≡ true = repeats_are_for_retransmission m rules at.0 g at.1 k.sent t w.to_repeat.starts in
            let top = w.to_repeat.top in
            let number : ℕ = repeated e r ds in
            let lines : number ≡ length s.book =
            rw (q, low) at
            (last_told r e k.opened (learned e ds) opened aware
            (transmission d t xs ∷ ds) v.waiting v.sent _ _ s.book s.agrees) in
            let tells : length (told e ds) ≡ length s.book =
            ap length s.agrees.tells ∙ length-map s.book telling_of in
            let line : numbered s.book number ≡ Some top =
            topped top w.to_repeat.rest s.book number w.to_repeat.book_is lines in
            let newest : Carried (record { number = number; told = length (told e ds); octets = xs }) = (
              top.cargo,
              telling_of top,
              ap (λ (l : List C). numbered l number) s.agrees.accepts
                  ∙ lined_accepted v.waiting v.sent top s.book number line,
              w.octets ∙ ap (frame_with image m.numbers) (sym w.to_repeat.cargo),
              ap (λ (l : List Telling). numbered l number) s.agrees.tells
                  ∙ numbered_map telling_of s.book number top line,
              w.to_repeat.fate,
              lines ∙ sym tells,
            ) in
            record {
              own = rw (q, low) c.own;
              again = rw (q, low)
                  (λ y among. ⊎_elim (λ is. subst Carried (sym is) newest) (λ older. c.again y older) among);
            }

        sent_carries : Carries (transmission d t xs ∷ ds)
        sent_carries = ⊎_elim own_carries again_carries (s.frames opened this (inl refl) same refl).1

      by_grant : (o : Option Grant) → grant_of m (devices.address e) ≡ o
          → Standing image m.numbers e o k v (transmission d t xs ∷ ds) → Carries (transmission d t xs ∷ ds)
      by_grant None found s = absurd (s.no_sendings this (inl refl) same)
      by_grant (Some g) found s = sent_carries g found s

    -- every deed keeps it, by what holds after the deed
    pub next_carries : Rules m → (k : Inner) (v : Device C) (deed : Deed C) → KeepsRules devices.count ds deed
        → (is_some (announced (deed ∷ ds)) ≡ true → k.opened ≡ true)
        → Standing image m.numbers e (grant_of m (devices.address e)) k v (deed ∷ ds) → Carries (deed ∷ ds)
    next_carries rules k v (news d b φ) keeps opened s = news_carries d b φ
    next_carries rules k v (acceptance d x) keeps opened s = acceptance_carries d x
    next_carries rules k v (transmission d t xs) keeps opened s = elim (cases_eq d e) [
      | inl same ↦ by_grant rules k v (opened keeps.0)
          (subst (λ (z : ℕ). learned z ds ≡ true) same keeps.1) d t xs same (grant_of m (devices.address e)) refl s
      | inr differ ↦ elsewhere_carries d t xs differ
    ]
    next_carries rules k v deed keeps opened s = record { own = c.own; again = c.again }
