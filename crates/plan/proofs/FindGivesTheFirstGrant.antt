-- What `find` over the grants of a plan tells.
use Rattle.std.proofs.Common.{◌≡◌, ℕ, ◌+◌, ◌≤◌, Bool, true, false, List, [], ◌∷◌, Some, None, Option, sym, refl, ap, ◌∙◌, subst, arith}
use Rattle.std.specs.Fn.{CalledAt}
use Rattle.std.specs.Iterator.{YieldsThen, FindsItem}
use Rattle.std.specs.List.{FoldsTo}
use Rattle.std.specs.Option.{option_map, IfSome}
use denote.Param.Members.{Mut}
use denote.Ref.{Bor}
use Rattle.plan.specs.declared.grant.Grant.{Grant}
use Rattle.plan.specs.declared.grants.Grants.{Grants}
use Rattle.plan.specs.Rules.{PlanMeaning, count_of, grant_at}
use Rattle.plan.specs.Answers.{first_of, first_grant, passing}
use Rattle.plan.specs.LeastNumberThatPasses.{none_more, first_found, first_none}
use Rattle.plan.specs.GrantsByNumber.{numbered, passes_there}
use Rattle.plan.specs.StepsThroughGrants.{grants_steps}

module _ {P F : Type 0} {g : Mut F (Bor (ℕ × Grant) × Unit {0}) Bool} (meaning : P → PlanMeaning) (m : PlanMeaning)
    (f : F) (test : Grant → Bool)
    (tells : (x : ℕ × Grant) (b : Bool) (q : F) → CalledAt g f x b q → (q ≡ f) × (b ≡ test x.1)) where
  abbrev hit : ℕ → Bool
  hit i = passing test (grant_at m i)

  -- the next grant has the next number
  next : (s : Grants P) → meaning s.plan.now ≡ m → (x : ℕ × Grant) (t : Grants P)
      → grants_steps meaning s (Some x) t
      → (meaning t.plan.now ≡ m) × (x.0 ≡ s.given + 1) × (grant_at m (s.given + 1) ≡ Some x.1) × (t.given ≡ s.given + 1)
  next s at x t k =
      (ap meaning k.0 ∙ at, k.1.0, ap (λ (o : PlanMeaning). grant_at o (s.given + 1)) (sym at) ∙ k.1.1, k.1.2)

  last : (s : Grants P) → meaning s.plan.now ≡ m → ((i : ℕ) → 1 ≤ i → i ≤ s.given → hit i ≡ false)
      → (r : Option (ℕ × Grant)) (u : Grants P) → grants_steps meaning s r u
      → IfSome r (λ x. (h : F) × CalledAt g f x true h) → option_map (λ x. x.0) r ≡ first_of hit (count_of m)
  last s at before None u k called =
      let c = ap count_of at in
      sym (first_none hit (count_of m) (s.given) before (omega arith))
  last s at before (Some x) u k called =
      let n = next s at x u k in
      let within = numbered m (s.given + 1) x.1 n.2 in
      ap Some n.1 ∙ sym
      (first_found hit (count_of m) (s.given) before (omega arith)
      (passes_there test _ _ n.2 ∙ sym (tells x true called.0 called.1).1))

  go : (xs : List (ℕ × Grant)) (s : Grants P) (p j : F) (r : Option (ℕ × Grant)) (u : Grants P)
      → meaning s.plan.now ≡ m → p ≡ f → ((i : ℕ) → 1 ≤ i → i ≤ s.given → hit i ≡ false)
      → YieldsThen (grants_steps meaning) s xs r u → FoldsTo (λ p x q. CalledAt g p x false q) p xs j
      → IfSome r (λ x. (h : F) × CalledAt g j x true h) → option_map (λ x. x.0) r ≡ first_of hit (count_of m)
  go [] s p j r u at same before (t, here, k) folds called =
      last s at before r u (subst (λ t. grants_steps meaning t r u) (sym here) k)
      (subst (λ j. IfSome r (λ x. (h : F) × CalledAt g j x true h)) (sym folds ∙ same) called)
  go (x ∷ xs) s p j r u at same before (t, ys, k) folds called =
      let n = next s at x ys.0 ys.1 in
      let miss = tells x false folds.0 (subst (λ p. CalledAt g p x false folds.0) same folds.1) in
      let here : hit (s.given + 1) ≡ false = passes_there test _ _ n.2 ∙ sym miss.1 in
      go xs ys.0 folds.0 j r u n.0 miss.0 (λ i low high. none_more hit (s.given) before here i low (omega arith))
      (t, ys.2, k) folds.2 called

  -- the number of the first grant that passes, or none
  pub first_by_find : (s : Grants P) (r : Option (ℕ × Grant)) (u : Grants P) → meaning s.plan.now ≡ m → s.given ≡ 0
      → FindsItem (grants_steps meaning) g s f r u → option_map (λ x. x.0) r ≡ first_grant m test
  first_by_find s r u at start found =
      go found.0 s f found.1 r u at refl (λ i low high. absurd (omega arith)) found.2 found.3 found.4
