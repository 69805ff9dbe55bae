use Rattle.std.proofs.Common.{◌≡◌, ℕ, ◌-◌, ◌/◌, ◌<◌, sym, ap, ◌∙◌, inl, inr, arith}
use Rattle.std.proofs.lemmas.Bool.{cases_lt}
use Rattle.plan.specs.EvenPlans.{even_meaning}
use Rattle.plan.specs.VerdictsFollowTheRules.{lawful}
use Rattle.plan.specs.declared.even.EvenPlan.{EvenPlan}
use Rattle.plan.proofs.EvenGrantsNeverClash.{even_keeps}
use Rattle.plan.proofs.HolderOfAnEvenPlan.{held_in_none, held_by_none, held_where}
use Rattle.plan.proofs.even.EvenPlanSlotPlan.holder.Goals as goal

pub returns-in_err-checked_sub : goal.returns-in_err-checked_sub
returns-in_err-checked_sub c =
    let p = c.args.self.now in
    c.from_residual.ensures ∙ sym (held_by_none p.numbers p.grants c.args.t (omega arith))

pub returns-in_err-behind : goal.returns-in_err-behind
returns-in_err-behind c =
    let p = c.args.self.now in
    c.from_residual-in_err-behind.ensures ∙ sym (held_by_none p.numbers p.grants c.args.t (omega arith))

-- grants without timeslots break a rule, so that there is none
narrow : (p : EvenPlan) → (0 < p.grants.width → ⊥) → p.grants.count ≡ 0
narrow p none = elim (cases_lt 0 p.grants.count) [
  | inl some ↦
      let k = (even_keeps p.numbers p.grants (lawful (even_meaning p) p.lawful) 1 (omega arith) some).width in
      absurd (none k)
  | inr few ↦ omega arith
]

pub returns-in_err-checked_div : goal.returns-in_err-checked_div
returns-in_err-checked_div c =
    let p = c.args.self.now in
    let few = narrow p c.in_err-checked_div.ensures in
    c.from_residual-in_err-checked_div.ensures ∙ sym (held_in_none p.numbers p.grants c.args.t few)

pub returns : goal.returns
returns c =
    let p = c.args.self.now in
    let behind : c.in_ok-behind.behind ≡ c.args.t - p.numbers.retransmission - 1 =
    omega (arith, c.in_ok-checked_sub.ensures, c.in_ok-behind.ensures) in
    let wide = c.in_ok-checked_div.ensures in
    let before = c.from-before.ensures ∙ wide.1 ∙ ap (λ (n : ℕ). n / p.grants.width) behind in
    c.then_some.ensures
    ∙ held_where p.numbers p.grants c.args.t wide.0
    (omega (arith, c.in_ok-checked_sub.ensures, c.in_ok-behind.ensures)) c.from-before.result before
