use Rattle.std.proofs.Common.{◌≡◌, sym, ap, ◌∙◌, subst, rules}
use Rattle.std.specs.Option.{option_map}
use Rattle.plan.specs.declared.grant.Grant.{Grant}
use Rattle.plan.specs.declared.numbers.Numbers.{Numbers}
use Rattle.plan.specs.Answers.{first_grant}
use Rattle.plan.proofs.FindGivesTheFirstGrant.{first_by_find}
use Rattle.repeats.specs.Laws.{NamesRepeater}
use Rattle.repeats.specs.Starts.{repeat_start, starts_at, repeater_at}
use Rattle.repeats.proofs.AnswersNameTheSender.{names_repeater}
use Rattle.repeats.proofs.RepeatsAreApartAndInOrder.{in_order, apart}
use Rattle.repeats.proofs.RepeatsAreForRetransmission.{repeat_is_for_retransmission}
use Rattle.repeats.proofs.senders.repeater.Goals as goal

pub returns : goal.returns
unfolding repeater_at
returns g c =
    let m = g.P.SlotPlan.meaning c.args.plan.now in
    let lawful = g.met.P.SlotPlan.keeps c.args.plan.now in
    let xs = c.args.octets.now in
    let t = c.args.t in
    let found = first_by_find g.P.SlotPlan.meaning m _
    (λ (x : Grant). starts_at t (repeat_start c.numbers.result xs x))
    (λ x b q k. search rules) c.of.result c.find.result c.find.new.self
    (ap g.P.SlotPlan.meaning c.of.ensures.plan) c.of.ensures.given c.find.ensures.ran in
    let number : c.map.result ≡ option_map (λ x. x.0) c.find.result = search rules in
    let e : c.map.result ≡ repeater_at m xs t = number ∙ found
    ∙ ap (λ (n : Numbers). first_grant m (λ x. starts_at t (repeat_start n xs x))) c.numbers.ensures in
    record {
      answer = e;
      names = λ alike. subst (NamesRepeater m xs t) (sym e) (names_repeater m xs lawful alike t);
      apart = apart m xs lawful;
      within = λ t i x at. repeat_is_for_retransmission m.numbers xs x t;
      order = in_order m xs lawful;
    }
