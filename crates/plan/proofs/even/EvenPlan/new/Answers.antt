use Rattle.std.proofs.Common.{◌≡◌, ◌≤◌, Bool, true, is_some, Some, None, Decides, sym, refl, ap, ◌∙◌, arith}
use Rattle.std.proofs.lemmas.Bool.Decides.{not_from_Decides}
use Rattle.plan.specs.declared.even_grants.EvenGrants.{EvenGrants}
use Rattle.plan.specs.declared.numbers.Numbers.{Numbers}
use Rattle.plan.specs.Rules.{Framed, NumbersKeep}
use Rattle.plan.specs.VerdictsFollowTheRules.{only_verdict, verdict_frame}
use Rattle.plan.proofs.EvenGrantsNeverClash.{plan, even_count, even_verdict}
use Rattle.plan.proofs.even.EvenPlan.new.Goals as goal
use Rattle.plan.proofs.even.EvenPlan.new.Goals.{then-not-keep-via-then-not-keep, then-not-keep-via-else-not-keep+then-grants-gt128}

framed : (ns : Numbers) (gs : EvenGrants) (b : Bool) → Decides b (NumbersKeep ns) → b ≡ true → gs.count ≤ 128
    → Framed (plan ns gs)
framed ns gs b d e few = record { numbers = d.0 e; few = let c = even_count ns gs in omega arith }

pub returns-then-not-keep : goal.returns-then-not-keep
returns-then-not-keep c =
    let m = plan c.args.numbers c.args.grants in
    let n = even_count c.args.numbers c.args.grants in
    let broken : Framed m → ⊥ = λ f. elim c.then-not-keep.branch [
      | then-not-keep-via-then-not-keep w ↦ not_from_Decides _ c.keep.ensures w.if-not-keep.true f.numbers
      | then-not-keep-via-else-not-keep+then-grants-gt128 w ↦ omega (arith, f.few)
    ] in
    let e = ap Some c.at.ensures ∙ sym (verdict_frame m broken) in
    record { answer = e; kept = tt; only = only_verdict m _ e }

pub returns-in-Some : goal.returns-in-Some
returns-in-Some c =
    let m = plan c.args.numbers c.args.grants in
    let sound = framed c.args.numbers c.args.grants _ c.keep.ensures c.if-not-keep.false (omega arith) in
    let e = ap Some c.at-in-Some.ensures
    ∙ sym (even_verdict c.args.numbers c.args.grants (Some c.in-Some.i) sound
    (sym c.in-Some.is ∙ c.first_to_break.ensures)) in
    record { answer = e; kept = tt; only = only_verdict m _ e }

pub invariant_of-result : goal.invariant_of-result
invariant_of-result c =
    let sound = framed c.args.numbers c.args.grants _ c.keep.ensures c.if-not-keep.false (omega arith) in
    record {
      counted = even_count c.args.numbers c.args.grants;
      lawful = ap is_some
          (even_verdict c.args.numbers c.args.grants None sound (sym c.in-None.is ∙ c.first_to_break.ensures));
    }

pub returns-in-None : goal.returns-in-None
returns-in-None c =
    let m = plan c.args.numbers c.args.grants in
    let sound = framed c.args.numbers c.args.grants _ c.keep.ensures c.if-not-keep.false (omega arith) in
    let e = sym (even_verdict c.args.numbers c.args.grants None sound (sym c.in-None.is ∙ c.first_to_break.ensures)) in
    record { answer = e; kept = refl; only = only_verdict m None e }
