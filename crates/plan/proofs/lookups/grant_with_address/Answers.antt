use Rattle.std.proofs.Common.{◌≡◌, eqb, sym, ap, subst, ◌∙◌, rules}
use Rattle.std.specs.Option.{option_map}
use Rattle.plan.specs.Answers.{number_with}
use Rattle.plan.specs.Laws.{NamesAddressed}
use Rattle.plan.proofs.Lawful.{addresses_differ, names_addressed}
use Rattle.plan.proofs.FindGivesTheFirstGrant.{first_by_find}
use Rattle.plan.proofs.lookups.grant_with_address.Goals as goal

pub returns : goal.returns
unfolding number_with
returns g c =
    let m = g.P.SlotPlan.meaning c.args.plan.now in
    let lawful = g.met.P.SlotPlan.keeps c.args.plan.now in
    let found = first_by_find g.P.SlotPlan.meaning m _ (λ x. eqb x.address c.args.address)
    (λ x b q k. search rules) c.of.result c.find.result c.find.new.self
    (ap g.P.SlotPlan.meaning c.of.ensures.plan) c.of.ensures.given c.find.ensures.ran in
    let number : c.map.result ≡ option_map (λ x. x.0) c.find.result = search rules in
    let e : c.map.result ≡ number_with m c.args.address = number ∙ found in
    record {
      answer = e;
      names = subst (NamesAddressed m c.args.address) (sym e) (names_addressed m lawful c.args.address);
      differ = addresses_differ m lawful;
    }
