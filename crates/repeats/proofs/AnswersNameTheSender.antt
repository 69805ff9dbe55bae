-- The answers name the one grant whose repeat, or whose frame, starts at a timeslot.
use Rattle.std.proofs.Common.{◌≡◌, ℕ, true, false, List, Some, None, Option, sym, refl, ap, ◌∙◌, inl, inr, ⊎_elim, arith}
use Rattle.std.proofs.lemmas.Bool.{both_ways, cases_Bool, cond-true, cond-false, eqb-true, eq-eqb}
use Rattle.plan.specs.declared.grant.Grant.{Grant}
use Rattle.plan.specs.Rules.{PlanMeaning, Rules, grant_at}
use Rattle.plan.proofs.Lawful.{grant_within, names_the_one}
use Rattle.repeats.specs.BitAndRepeatTimeslots.{for_retransmission}
use Rattle.repeats.specs.Starts.{repeat_start, starts_at, repeater_at, beginner_at, sender_at}
use Rattle.repeats.specs.Laws.{BitsAlike, NamesRepeater, NamesSender}
use Rattle.repeats.proofs.BitsAndRepeatsLieApart.{own_is_not_for_retransmission}
use Rattle.repeats.proofs.RepeatsAreForRetransmission.{repeat_is_for_retransmission}
use Rattle.repeats.proofs.OneGrantAtMostBegins.{names_beginner}
use Rattle.repeats.proofs.RepeatsAreApartAndInOrder.{apart}

starts_tells : (t : ℕ) (o : Option ℕ) → (starts_at t o ≡ true → o ≡ Some t) × (o ≡ Some t → starts_at t o ≡ true)
starts_tells t None = (λ e. absurd (both_ways false refl e), λ e. let z : ◌≡◌ {A = ℕ} 0 1 = cc in absurd (omega arith))
starts_tells t (Some s) = (λ e. ap Some (eqb-true s t e), λ e. let q : s ≡ t = cc in eq-eqb s t q)

module _ (m : PlanMeaning) (xs : List ℕ) (rules : Rules m) (alike : BitsAlike m xs) where
  -- one repeat at most starts at a timeslot
  starts_once : (t i j : ℕ) (g h : Grant) → grant_at m i ≡ Some g → grant_at m j ≡ Some h
      → repeat_start m.numbers xs g ≡ Some t → repeat_start m.numbers xs h ≡ Some t → i ≡ j
  starts_once t i j g h here there e f =
      let v = grant_within m rules i g here in
      let w = grant_within m rules j h there in
      apart m xs rules alike t i j g h here there (t, e, omega arith, omega arith) (t, f, omega arith, omega arith)

  pub names_repeater : (t : ℕ) → NamesRepeater m xs t (repeater_at m xs t)
  unfolding repeater_at
  names_repeater t =
      names_the_one m rules (λ g. starts_at t (repeat_start m.numbers xs g))
      (λ g. repeat_start m.numbers xs g ≡ Some t) (λ g. starts_tells t (repeat_start m.numbers xs g)) (starts_once t)

  pub names_sender : (t : ℕ) → NamesSender m xs t (sender_at m xs t)
  unfolding sender_at
  names_sender t i = elim (cases_Bool (for_retransmission m.numbers t)) [
    | inr own ↦
        let e = cond-false _ (repeater_at m xs t) (beginner_at m t) own in
        let n = names_beginner m rules t i in (
          λ f. let w = n.0 (sym e ∙ f) in (w.0, w.1, inl w.2),
          λ w. e ∙ n.1 (w.0, w.1, ⊎_elim (λ q. q) (λ q. absurd (own_timeslot w.0 w.1 q own)) w.2),
        )
    | inl repeat ↦
        let e = cond-true _ (repeater_at m xs t) (beginner_at m t) repeat in
        let n = names_repeater t i in (
          λ f. let w = n.0 (sym e ∙ f) in (w.0, w.1, inr w.2),
          λ w. e ∙ n.1 (w.0, w.1, ⊎_elim (λ q. absurd (repeat_timeslot w.0 w.1 q repeat)) (λ q. q) w.2),
        )
  ]
    where
      own_timeslot : (g : Grant) → grant_at m i ≡ Some g → repeat_start m.numbers xs g ≡ Some t
          → for_retransmission m.numbers t ≡ false → ⊥
      own_timeslot g at q own =
          let w = grant_within m rules i g at in
          both_ways _ own (repeat_is_for_retransmission m.numbers xs g t (t, q, omega arith, omega arith))

      repeat_timeslot : (g : Grant) → grant_at m i ≡ Some g → g.first ≡ t → for_retransmission m.numbers t ≡ true → ⊥
      repeat_timeslot g at q repeat =
          let w = grant_within m rules i g at in
          both_ways _ (own_is_not_for_retransmission m rules i g at t (omega arith, omega arith)) repeat
