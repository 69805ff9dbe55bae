use Rattle.std.proofs.Common.{refl, ◌∙◌, arith, rules}
use Rattle.std.proofs.lemmas.Iterator.{YieldsList-from_range}
use Rattle.std.proofs.lemmas.Iterator.Consumers.{YieldsList-at, YieldsList-from_filter, count_from_yields_List}
use borrow.Author.Tests.{tests}
use Rattle.repeats.specs.Bitmaps.{missed}
use Rattle.repeats.proofs.AllAndFilterOverARange.{counted}
use Rattle.repeats.proofs.group_acknowledgment.GroupAcknowledgment.zeros_before.Goals as goal

pub returns : goal.returns
returns c =
    let p = missed c.args.self.numbers c.args.self.octets.now in
    let t = c.args.t in
    let e = count_from_yields_List c.filter.result c.count.result c.count.ensures.ran
    (YieldsList-from_filter _ p
    (YieldsList-at c.filter.ensures.source
    (YieldsList-from_range 0 t t refl (omega arith))) c.filter.ensures.closure
    (λ x b q k. search (rules, tests))) in
    e ∙ counted p t
