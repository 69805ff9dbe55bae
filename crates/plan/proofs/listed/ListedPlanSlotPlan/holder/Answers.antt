use Rattle.std.proofs.Common.{◌≡◌, ℕ, ◌+◌, ◌-◌, ◌<◌, ◌≤◌, true, false, List, length, Some, None, Option, MatchOption, sym, ap, ◌∙◌, arith, rules}
use Rattle.std.specs.List.{AllWithin, HoldsAt}
use Rattle.std.specs.Option.{option_map}
use Rattle.std.proofs.lemmas.Iterator.{IsFirst-from_position, YieldsList-from_slice}
use Rattle.std.proofs.lemmas.Bool.Decides.{same_from_decides}
use Rattle.plan.specs.declared.grant.Grant.{Grant}
use Rattle.plan.specs.declared.numbers.Numbers.{Numbers}
use Rattle.plan.specs.GrantsByPlace.{blank}
use Rattle.plan.specs.Rules.{plan_of, numbered_in}
use Rattle.plan.specs.Answers.{holder_of, holding, passing}
use Rattle.plan.specs.TestsDecideTheRules.{holding_decides}
use Rattle.plan.specs.LeastNumberThatPasses.{first_found, first_none}
use Rattle.plan.specs.GrantsByNumber.{test_number, test_at}
use Rattle.plan.proofs.listed.ListedPlanSlotPlan.holder.Goals as goal

-- the first grant that holds t, by its place
module _ (ns : Numbers) (gs vs : List Grant) (same : gs ≡ vs) (t : ℕ) where
  clear : (k : ℕ) → k ≤ length gs → AllWithin (λ g. holding t g ≡ false) gs 0 k → (i : ℕ) → 1 ≤ i → i ≤ k
      → passing (holding t) (numbered_in gs i) ≡ false
  clear k within before i low high =
      test_number gs (holding t) i low (omega arith) ∙ before (i - 1) blank (omega arith) (omega arith)

  placed : (r : Option ℕ)
      → MatchOption r (AllWithin (λ g. holding t g ≡ false) gs 0 (length gs))
      (λ i. (i < length gs) × HoldsAt (λ g. holding t g ≡ true) gs i × AllWithin (λ g. holding t g ≡ false) gs 0 i)
      → option_map (λ i. i + 1) r ≡ holder_of (plan_of ns vs) t
  unfolding holder_of
  placed None none =
      sym (first_none (λ i. passing (holding t) (numbered_in gs i)) (length gs) (length gs)
      (clear (length gs) (omega arith) none) (omega arith))
      ∙ ap (λ (l : List Grant). holder_of (plan_of ns l) t) same
  placed (Some k) (below, hit, before) =
      sym (first_found (λ i. passing (holding t) (numbered_in gs i))
      (length gs) k (clear k (omega arith) before) below (test_at gs (holding t) k below ∙ hit blank))
      ∙ ap (λ (l : List Grant). holder_of (plan_of ns l) t) same

pub returns : goal.returns
returns c =
    let gs = c.deref.result.now in
    let first = IsFirst-from_position _ _ c.position.result (λ g. holding c.args.t g ≡ true)
    (λ g. holding c.args.t g ≡ false) c.position.ensures.ran (YieldsList-from_slice gs cc)
    (λ x q k. search (rules, same_from_decides, holding_decides))
    (λ x q k. search (rules, same_from_decides, holding_decides)) in
    let e : c.map.result ≡ option_map (λ i. i + 1) c.position.result = search rules in
    e ∙ placed c.args.self.now.numbers gs _ c.deref.ensures.value c.args.t c.position.result first
