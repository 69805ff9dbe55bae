use Rattle.std.proofs.Common.{◌≡◌, Some, None, Option, sym, ap, ◌∙◌, inl, inr, arith, MatchOption}
use Rattle.plan.specs.declared.grant.Grant.{Grant}
use Rattle.plan.specs.EvenPlans.{even_meaning}
use Rattle.plan.proofs.EvenGrantsNeverClash.{even_count, even_at, even_keeps}
use Rattle.plan.specs.VerdictsFollowTheRules.{lawful}
use Rattle.plan.specs.GrantsByNumber.{no_grant_at}
use Rattle.plan.proofs.even.EvenPlanSlotPlan.grant.Goals as goal
use Rattle.plan.proofs.even.EvenPlanSlotPlan.grant.Goals.{then-i-eq0-via-then-i-eq0, then-i-eq0-via-else-i-eq0+then-i-self}

pub returns-then-i-eq0 : goal.returns-then-i-eq0
returns-then-i-eq0 c =
    let p = c.args.self.now in
    let n = even_count p.numbers p.grants in
    sym (no_grant_at (even_meaning p) c.args.i
    (elim c.then-i-eq0.branch [
      | then-i-eq0-via-then-i-eq0 w ↦ inl (omega arith)
      | then-i-eq0-via-else-i-eq0+then-i-self w ↦ inr (omega arith)
    ]))

-- a grant that keeps its rules is made
there : (o : Option Grant) (g : Grant) (P : Type 0) → P → MatchOption o (P → ⊥) (λ h. h ≡ g) → o ≡ Some g
there None g P p c = absurd (c p)
there (Some h) g P p c = ap Some c

pub returns : goal.returns
returns c =
    let p = c.args.self.now in
    let rules = lawful (even_meaning p) p.lawful in
    there _ _ _ (even_keeps p.numbers p.grants rules c.args.i (omega arith) (omega arith)) c.grant.ensures
    ∙ sym (even_at p.numbers p.grants c.args.i (omega arith) (omega arith))
