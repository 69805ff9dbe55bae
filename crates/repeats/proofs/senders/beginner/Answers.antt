use Rattle.std.proofs.Common.{sym, ◌∙◌}
use Rattle.repeats.proofs.OneGrantAtMostBegins.{unheld, held_begins}
use Rattle.repeats.proofs.senders.beginner.Goals as goal

pub returns-in_err-i : goal.returns-in_err-i
returns-in_err-i g c =
    let m = g.P.SlotPlan.meaning c.args.plan.now in
    let rules = g.met.P.SlotPlan.keeps c.args.plan.now in
    c.from_residual.ensures ∙ unheld m rules c.args.t (sym c.grant_holding.ensures.answer ∙ c.in_err-i.was)

pub returns : goal.returns
returns g c =
    let m = g.P.SlotPlan.meaning c.args.plan.now in
    let rules = g.met.P.SlotPlan.keeps c.args.plan.now in
    c.then_some.ensures
    ∙ held_begins m rules c.args.t c.in_ok-i.i c.in_ok-i.grant (sym c.grant_holding.ensures.answer ∙ c.in_ok-i.was)
