use Rattle.std.proofs.Common.{not, rules}
use Rattle.std.proofs.lemmas.Bool.Decides.{same_from_decides}
use Rattle.plan.specs.Verdicts.{grant_kept}
use Rattle.plan.specs.TestsDecideTheRules.{grant_decided}
use Rattle.plan.specs.EvenGrants.{even_grant}
use Rattle.plan.proofs.FindGivesTheLeastNumber.{first_by_find}
use Rattle.plan.proofs.even_grants.EvenGrants.first_to_break.Goals as goal

pub returns : goal.returns
returns c =
    let ns = c.args.numbers in
    let g = c.args.self in
    first_by_find c.new.result _
    (λ i. not (grant_kept ns
    (even_grant ns g.width g.address g.simple i))) g.count c.new.ensures.start c.new.ensures.end c.new.ensures.exhausted
    (λ x b q k. search (rules, same_from_decides, grant_decided)) c.find.result c.find.ensures.runs
