-- What follows from the rules of a plan.
use Rattle.std.proofs.Common.{◌≡◌, ℕ, ◌+◌, ◌<◌, ◌≤◌, Bool, true, eqb, ◌⊎◌, Some, None, Option, sym, refl, ap, ◌∙◌, subst, inl, inr, ⊎_elim, arith}
use Rattle.std.proofs.lemmas.Bool.{both_ways, cases_lt, eqb-true, eq-eqb}
use Rattle.plan.specs.declared.grant.Grant.{Grant}
use Rattle.plan.specs.Rules.{PlanMeaning, count_of, grant_at, Holds, GrantKeeps, Rules}
use Rattle.plan.specs.Answers.{passing, first_grant, holding, holder_of, number_with}
use Rattle.plan.specs.Laws.{AtMostOneHolder, AddressesDiffer, GrantWith, Names, NamesHolder, NamesAddressed, Alike}
use Rattle.plan.specs.TestsDecideTheRules.{holding_decides}
use Rattle.plan.specs.LeastNumberThatPasses.{First, first_tells}
use Rattle.plan.specs.GrantsByNumber.{numbered, passed, passes_there}

module _ (m : PlanMeaning) (rules : Rules m) where
  pub at_most_one_holder : AtMostOneHolder m
  at_most_one_holder t i j g h here there a b = rules.apart i j g h here there (inr (inr (t, a, b)))

  pub addresses_differ : AddressesDiffer m
  addresses_differ i j g h here there same =
      rules.apart i j g h here there (⊎_elim (λ e. inl e) (λ e. inr (inl e)) same)

  -- a grant's own rules
  pub grant_keeps : (i : ℕ) (g : Grant) → grant_at m i ≡ Some g → GrantKeeps m.numbers g
  grant_keeps i g at = rules.own i g at

  -- its timeslots come after those for retransmission, and up to the last one
  pub grant_within : (i : ℕ) (g : Grant) → grant_at m i ≡ Some g
      → (m.numbers.retransmission < g.first) × (1 ≤ g.width) × (g.first + g.width ≤ m.numbers.timeslots + 1)
  grant_within i g at =
      let k = rules.own i g at in
      let n = rules.framed.numbers in
      elim k.timeslots [
        | inl s ↦ (omega arith, omega arith, omega arith)
        | inr s ↦
            (omega arith, omega arith, omega arith)
      ]

  -- of two grants, one ends before the other begins
  pub disjoint : (i j : ℕ) (g h : Grant) → grant_at m i ≡ Some g → grant_at m j ≡ Some h → (i ≡ j → ⊥)
      → (g.first + g.width ≤ h.first) ⊎ (h.first + h.width ≤ g.first)
  disjoint i j g h here there differ =
      let v = (rules.own i g here).width in
      let w = (rules.own j h there).width in
      elim (cases_lt h.first (g.first + g.width)) [
        | inr e ↦ inl e
        | inl e ↦ elim (cases_lt g.first (h.first + h.width)) [
          | inr f ↦ inr f
          | inl f ↦ elim (cases_lt g.first h.first) [
            | inl b ↦ absurd
                (differ (at_most_one_holder h.first i j g h here there (omega arith, omega arith)
                (omega arith, omega arith)))
            | inr b ↦ absurd
                (differ (at_most_one_holder g.first i j g h here there (omega arith, omega arith)
                (omega arith, omega arith)))
          ]
        ]
      ]

  -- a test that one grant at most passes names that grant
  module _ (p : Grant → Bool) (P : Grant → Type 0) (tells : (g : Grant) → (p g ≡ true → P g) × (P g → p g ≡ true))
      (once : (i j : ℕ) (g h : Grant) → grant_at m i ≡ Some g → grant_at m j ≡ Some h → P g → P h → i ≡ j) where
    told : (i : ℕ) → passing p (grant_at m i) ≡ true → GrantWith m P i
    told i e = let there = passed p (grant_at m i) e in (there.0, there.1, (tells there.0).0 there.2)

    passes : (i : ℕ) → GrantWith m P i → passing p (grant_at m i) ≡ true
    passes i w = passes_there p _ _ w.1 ∙ (tells w.0).1 w.2

    the_one : (o : Option ℕ) → First (λ i. passing p (grant_at m i)) (count_of m) o → Names m P o
    the_one None f i = (
      λ e. let z : ◌≡◌ {A = ℕ} 0 1 = cc in absurd (omega arith),
      λ w. let n = numbered m i w.0 w.1 in absurd (both_ways _ (f i n.0 n.1) (passes i w)),
    )
    the_one (Some k) f i = (
      λ e. let same : k ≡ i = cc in subst (GrantWith m P) same (told k f.2),
      λ w. let there = told k f.2 in ap Some (once k i there.0 w.0 there.1 w.1 there.2 w.2),
    )

    pub names_the_one : Names m P (first_grant m p)
    names_the_one = the_one (first_grant m p) (first_tells (λ i. passing p (grant_at m i)) (count_of m))

  -- the holder of a timeslot is the grant that holds it
  pub names_holder : (t : ℕ) → NamesHolder m t (holder_of m t)
  unfolding holder_of
  names_holder t =
      names_the_one (holding t) (λ g. Holds g t) (holding_decides t)
      (λ i j g h here there a b. at_most_one_holder t i j g h here there a b)

  -- the number found for a full address is that of the grant that has it
  pub names_addressed : (a : ℕ) → NamesAddressed m a (number_with m a)
  unfolding number_with
  names_addressed a =
      names_the_one (λ g. eqb g.address a) (λ g. g.address ≡ a) (λ g. (eqb-true g.address a, eq-eqb g.address a))
      (λ i j g h here there e f. addresses_differ i j g h here there (inl (e ∙ sym f)))

-- plans of one meaning answer alike
pub alike : (m o : PlanMeaning) (i t : ℕ) → m ≡ o → Alike m o i t
alike m o i t e =
    subst (λ (x : PlanMeaning). Alike m x i t) e (record { numbers = refl; count = refl; grant = refl; holder = refl })
