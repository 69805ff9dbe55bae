use Rattle.std.proofs.Common.{◌≡◌, ℕ, Some, None, Option, sym, refl, ap, ◌∙◌, subst, rules}
use Rattle.std.specs.Option.{option_map}
use Rattle.plan.specs.declared.grant.Grant.{Grant}
use Rattle.plan.specs.Rules.{PlanMeaning}
use Rattle.plan.specs.Answers.{holder_of, with_grant}
use Rattle.plan.specs.Laws.{NamesHolder}
use Rattle.plan.proofs.Lawful.{names_holder}
use Rattle.plan.proofs.lookups.grant_holding.Goals as goal

-- the number in an answer
abbrev number : Option (ℕ × Grant) → Option ℕ
number r = option_map (λ x. x.0) r

-- a holder is there, so that its number stays
kept : (m : PlanMeaning) (t : ℕ) (o : Option ℕ) → NamesHolder m t o → number (with_grant m o) ≡ o
kept m t None names = refl
kept m t (Some i) names = ap (λ (x : Option Grant). number (option_map (λ g. (i, g)) x)) ((names i).0 refl).1

pub returns-clause-names : goal.returns-clause-names
returns-clause-names g c =
    let m = g.P.SlotPlan.meaning c.args.plan.now in
    let named = names_holder m (g.met.P.SlotPlan.keeps c.args.plan.now) c.args.t in
    let answer : c.and_then.result ≡ with_grant m (holder_of m c.args.t) = search rules in
    subst (NamesHolder m c.args.t) (sym (ap number answer ∙ kept m c.args.t (holder_of m c.args.t) named)) named
