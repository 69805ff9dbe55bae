use Rattle.std.proofs.Common.{◌≡◌, ℕ, ◌≤◌, false}
use Rattle.plan.specs.Rules.{plan_of}
use Rattle.plan.specs.Verdicts.{breaking}
use Rattle.plan.proofs.listed.ListedPlan.new.Given as goal

abbrev pub invariant-loop-i : goal.invariant-loop-i
invariant-loop-i l = (k : ℕ) → 1 ≤ k → k ≤ l.i → breaking (plan_of l.numbers l.g-items) k ≡ false
