-- What `find` over the numbers from 1 to n tells.
use Rattle.std.proofs.Common.{◌≡◌, ℕ, ◌+◌, ◌-◌, ◌<◌, Bool, true, false, Some, None, Option, MatchOption, IsTrue, sym, refl, ap, ◌∙◌, subst, arith}
use Rattle.std.specs.Fn.{CalledAt}
use Rattle.std.specs.Iterator.Runs.{Run, SomeRun, CallKeepsClosure, NoItemPasses, EndsAtFirstPassing, ItemsCountUp}
use Rattle.std.specs.Option.{option_map, IfSome, IsSomeAnd}
use Rattle.std.specs.Range.{range_inclusive_start, range_inclusive_end, range_inclusive_exhausted}
use Rattle.std.specs.declared.ops.RangeInclusive.{RangeInclusive}
use Rattle.std.proofs.iter.runs.Sources.{nat_range_inclusive_steps, inclusive_listed}
use denote.Param.Members.{Mut}
use denote.Ref.{Bor}
use Rattle.plan.specs.Answers.{first_of}
use Rattle.plan.specs.LeastNumberThatPasses.{First, first_is}

-- the number at a place of a run
at_place : (o : Option ℕ) (x : ℕ) → option_map (λ y. y) o ≡ Some x → o ≡ Some x
at_place None x e = e
at_place (Some y) x e = e

module _ {F : Type 0} {g : Mut F (Bor ℕ × Unit {0}) Bool} (s : RangeInclusive ℕ) (f : F) (test : ℕ → Bool) (n : ℕ)
    (start : range_inclusive_start s ≡ 1) (end : range_inclusive_end s ≡ n)
    (fresh : range_inclusive_exhausted s ≡ false)
    (tells : (x : ℕ) (b : Bool) (q : F) → CalledAt g f x b q → (q ≡ f) × (b ≡ test x)) where
  keeps : CallKeepsClosure g f
  keeps a r q k = (tells a.0.now r q (record { shown = a.0; shows = refl; called = k })).0

  counts : (u : Run nat_range_inclusive_steps) → u.from ≡ s → ItemsCountUp u 1 (n + 1)
  counts u e =
      let l = inclusive_listed u u.seen in
      let h = (l.4 (ap range_inclusive_exhausted e ∙ fresh)).0 in
      let a : l.0 ≡ 1 = l.2 ∙ ap range_inclusive_start e ∙ start in
      let b : l.1 ≡ n + 1 = l.3 ∙ ap (λ t. range_inclusive_end t + 1) e ∙ ap (λ (m : ℕ). m + 1) end in
      subst (λ (b : ℕ). ItemsCountUp u 1 b) b (subst (λ (a : ℕ). ItemsCountUp u a l.1) a h)

  -- the number i stands at place i - 1
  placed : (u : Run nat_range_inclusive_steps) → u.from ≡ s → (k i : ℕ) → i ≡ k + 1 → k < u.len → u.at k ≡ Some i
  placed u e k i z within = at_place _ i ((counts u e).3 k within ∙ ap Some (omega arith))

  first : (r : Option ℕ)
      → SomeRun nat_range_inclusive_steps s
      (λ u. MatchOption r (IsTrue u.whole × NoItemPasses u g f) (EndsAtFirstPassing u g f)) → First test n r
  first None run = λ i low high.
      let u = run.0 in
      let long = (counts u run.1).1 run.2.0 in
      let there = placed u run.1 (i - 1) i (omega arith) (omega arith) in
      let called = subst (λ o. IfSome o (λ x. CalledAt g f x false f)) there (run.2.1 keeps (i - 1)) in
      sym (tells i false f called).1
  first (Some k) run =
      let u = run.0 in
      let at = run.2 in
      let few = (counts u run.1).0 in
      let there = placed u run.1 at.0 (at.0 + 1) refl (omega arith) in
      let same : k ≡ at.0 + 1 = cc (at.2, there) in
      let hit = at.3 keeps in (
        omega arith,
        omega arith,
        sym (tells k true f hit.0).1,
        λ i low high.
            let before = placed u run.1 (i - 1) i (omega arith) (omega arith) in
            let called = subst (λ o. IsSomeAnd o (λ x. CalledAt g f x false f)) before (hit.1 (i - 1) (omega arith)) in
            sym (tells i false f called).1,
      )

  -- the least number that passes, or none
  pub first_by_find : (r : Option ℕ)
      → SomeRun nat_range_inclusive_steps s
      (λ u. MatchOption r (IsTrue u.whole × NoItemPasses u g f) (EndsAtFirstPassing u g f)) → r ≡ first_of test n
  first_by_find r run = sym (first_is test n r (first r run))
