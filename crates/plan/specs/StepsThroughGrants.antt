-- Steps through the grants of a plan.
use Rattle.std.specs.Prelude.{◌≡◌, ℕ, ◌+◌, ◌≤◌, Some, Option, MatchOption}
use Rattle.plan.specs.declared.grant.Grant.{Grant}
use Rattle.plan.specs.declared.grants.Grants.{Grants}
use Rattle.plan.specs.Rules.{PlanMeaning, count_of, grant_at}

-- behind n grants comes the next with its number, so that n + 1 are given, or none where there is no more
abbrev pub step : PlanMeaning → ℕ → Option (ℕ × Grant) → ℕ → Type 0
step m n r k =
    MatchOption r ((count_of m ≤ n) × (k ≡ n)) (λ x. (x.0 ≡ n + 1) × (grant_at m (n + 1) ≡ Some x.1) × (k ≡ n + 1))

-- one step of the iterator over the grants of a plan: the plan stays
abbrev pub grants_steps : {P : Type 0} → (P → PlanMeaning) → Grants P → Option (ℕ × Grant) → Grants P → Type 0
grants_steps meaning s r t = (t.plan.now ≡ s.plan.now) × step (meaning s.plan.now) s.given r t.given
