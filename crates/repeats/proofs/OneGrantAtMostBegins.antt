-- At a timeslot one grant at most begins, and the answer names it.
use Rattle.std.proofs.Common.{◌≡◌, ℕ, eqb, Some, None, Option, sym, refl, ap, ◌∙◌, subst, inl, inr, arith}
use Rattle.std.proofs.lemmas.Option.{same_Some}
use Rattle.std.proofs.lemmas.Bool.{cases_eq, eqb-true, eq-eqb, ne_eqb}
use Rattle.std.specs.Bool.{then_some}
use Rattle.std.specs.Option.{option_map}
use Rattle.plan.specs.declared.grant.Grant.{Grant}
use Rattle.plan.specs.Rules.{PlanMeaning, Rules, grant_at}
use Rattle.plan.specs.Answers.{holder_of, with_grant}
use Rattle.plan.specs.Laws.{Names}
use Rattle.plan.proofs.Lawful.{at_most_one_holder, grant_within, names_the_one, names_holder}
use Rattle.repeats.specs.Starts.{beginner_at}

-- what a number with its grant tells
grant_told : (k i : ℕ) (g : Grant) (o : Option Grant) → option_map {U = ℕ × Grant} (λ h. (k, h)) o ≡ Some (i, g)
    → (k ≡ i) × (o ≡ Some g)
grant_told k i g None e = let z : ◌≡◌ {A = ℕ} 0 1 = cc in absurd (omega arith)
grant_told k i g (Some h) e =
    let q = same_Some {A = ℕ × Grant} (k, h) (i, g) e in
    (ap (λ (p : ℕ × Grant). p.0) q, ap (λ (p : ℕ × Grant). Some p.1) q)

told : (m : PlanMeaning) (i : ℕ) (g : Grant) (o : Option ℕ) → with_grant m o ≡ Some (i, g)
    → (o ≡ Some i) × (grant_at m i ≡ Some g)
told m i g None e = let z : ◌≡◌ {A = ℕ} 0 1 = cc in absurd (omega arith)
told m i g (Some k) e =
    let w = grant_told k i g (grant_at m k) e in (ap Some w.0, subst (λ (j : ℕ). grant_at m j ≡ Some g) w.0 w.1)

module _ (m : PlanMeaning) (rules : Rules m) (t : ℕ) where
  -- one grant at most begins at a timeslot
  pub begins_once : (i j : ℕ) (g h : Grant) → grant_at m i ≡ Some g → grant_at m j ≡ Some h → g.first ≡ t
      → h.first ≡ t → i ≡ j
  begins_once i j g h here there e f =
      let v = grant_within m rules i g here in
      let w = grant_within m rules j h there in
      at_most_one_holder m rules t i j g h here there (omega arith, omega arith) (omega arith, omega arith)

  pub names_beginner : Names m (λ g. g.first ≡ t) (beginner_at m t)
  unfolding beginner_at
  names_beginner =
      names_the_one m rules (λ g. eqb g.first t) (λ g. g.first ≡ t)
      (λ g. (eqb-true g.first t, eq-eqb g.first t)) begins_once

  -- where no grant begins there, the answer is none
  nobody : (o : Option ℕ) → Names m (λ g. g.first ≡ t) o
      → ((i : ℕ) (g : Grant) → grant_at m i ≡ Some g → g.first ≡ t → ⊥) → None ≡ o
  nobody None names never = refl
  nobody (Some i) names never = let w = (names i).0 refl in absurd (never i w.0 w.1 w.2)

  -- where no grant holds the timeslot, none begins there
  pub unheld : with_grant m (holder_of m t) ≡ None → None ≡ beginner_at m t
  unheld none = nobody (beginner_at m t) names_beginner (λ i g at e.
      let v = grant_within m rules i g at in
      let h = (names_holder m rules t i).1 (g, at, (omega arith, omega arith)) in
      let z : ◌≡◌ {A = ℕ} 0 1 = cc in
      omega arith)

  -- the grant that holds it begins there, or none does
  pub held_begins : (i : ℕ) (g : Grant) → with_grant m (holder_of m t) ≡ Some (i, g)
      → then_some (eqb g.first t) i ≡ beginner_at m t
  held_begins i g e =
      let at = told m i g (holder_of m t) e in
      elim (cases_eq g.first t) [
        | inl q ↦ rw (eq-eqb g.first t q) (sym ((names_beginner i).1 (g, at.1, q)))
        | inr n ↦ rw (ne_eqb g.first t n) (nobody (beginner_at m t) names_beginner (λ k h there q.
            let v = grant_within m rules k h there in
            let f = (names_holder m rules t k).1 (h, there, (omega arith, omega arith)) in
            let number : k ≡ i = cc in
            let also : grant_at m i ≡ Some h = subst (λ (l : ℕ). grant_at m l ≡ Some h) number there in
            let same : h ≡ g = cc in
            n (sym (ap (λ (x : Grant). x.first) same) ∙ q)))
      ]
