use Rattle.std.proofs.Common.{◌≡◌, ℕ, ◌+◌, ◌<◌, ◌≤◌, Bool, true, false, List, length, get_or, take, is_some, Some, None, vec_items, Decides, sym, refl, ap, ◌∙◌, subst, arith}
use Rattle.std.proofs.lemmas.Bool.{or_left, or_right, or_from, not_from_true, not_from_false}
use Rattle.std.proofs.lemmas.Bool.Decides.{not_from_Decides, same_from_decides}
use Rattle.plan.specs.declared.grant.Grant.{Grant}
use Rattle.plan.specs.declared.numbers.Numbers.{Numbers}
use Rattle.plan.specs.Rules.{plan_of, Framed, NumbersKeep, GrantKeeps}
use Rattle.plan.specs.GrantsByPlace.{blank, ClashIn}
use Rattle.plan.specs.Verdicts.{verdict, grant_kept, clashing_before, breaking}
use Rattle.plan.specs.TestsDecideTheRules.{grant_decided}
use Rattle.plan.specs.LeastNumberThatPasses.{none_more}
use Rattle.plan.specs.VerdictsFollowTheRules.{only_verdict, verdict_frame, verdict_grant, verdict_none, breaking_at, clashing_tells}
use Rattle.plan.proofs.listed.ListedPlan.new.Goals as goal
use Rattle.plan.proofs.listed.ListedPlan.new.Goals.{then-not-keep-via-then-not-keep, then-not-keep-via-else-not-keep+then-len-gt128, then-not-keeps-via-then-not-keeps, then-not-keeps-via-else-not-keeps+then-clashes_with_one}

pub returns-then-not-keep : goal.returns-then-not-keep
returns-then-not-keep c =
    let m = plan_of c.args.numbers (vec_items c.args.grants) in
    let broken : Framed m → ⊥ = λ f. elim c.then-not-keep.branch [
      | then-not-keep-via-then-not-keep w ↦ not_from_Decides _ c.keep.ensures w.if-not-keep.true f.numbers
      | then-not-keep-via-else-not-keep+then-len-gt128 w ↦ omega arith
    ] in
    let e = ap Some c.at.ensures ∙ sym (verdict_frame m broken) in
    record { answer = e; kept = tt; only = only_verdict m _ e }

-- whether the next grant breaks a rule, by the two tests of it
module _ (ns : Numbers) (gs hs : List Grant) (k : ℕ) (below : k < length gs) (same : hs ≡ take k gs) (kept : Bool)
    (decided : Decides kept (GrantKeeps ns (get_or gs k blank))) where
  abbrev g : Grant
  g = get_or gs k blank

  tested : grant_kept ns g ≡ kept
  tested = same_from_decides _ kept (grant_decided ns g) decided

  clashed : (b : Bool) → Decides b (ClashIn hs g) → clashing_before gs k g ≡ b
  clashed b d =
      same_from_decides _ b (clashing_tells gs k g (omega arith))
      (subst (λ (l : List Grant). Decides b (ClashIn l g)) same d)

  breaks_alone : kept ≡ false → breaking (plan_of ns gs) (k + 1) ≡ true
  breaks_alone e = breaking_at ns gs k g below refl ∙ or_left _ _ (not_from_false _ (tested ∙ e))

  breaks_with : (b : Bool) → Decides b (ClashIn hs g) → b ≡ true → breaking (plan_of ns gs) (k + 1) ≡ true
  breaks_with b e t = breaking_at ns gs k g below refl ∙ or_right _ _ (clashed b e ∙ t)

  breaks_none : (b : Bool) → kept ≡ true → Decides b (ClashIn hs g) → b ≡ false
      → breaking (plan_of ns gs) (k + 1) ≡ false
  breaks_none b y e f = breaking_at ns gs k g below refl ∙ or_from _ _ (not_from_true _ (tested ∙ y)) (clashed b e ∙ f)

framed : (ns : Numbers) (gs : List Grant) (b : Bool) → Decides b (NumbersKeep ns) → b ≡ true → length gs ≤ 128
    → Framed (plan_of ns gs)
framed ns gs b d e few = record { numbers = d.0 e; few = few }

pub returns-then-not-keeps : goal.returns-then-not-keeps
returns-then-not-keeps c =
    let ns = c.args.numbers in
    let gs = c.deref-g-items.result.now in
    let here = c.deref-g-items.ensures.value in
    let k = c.loop-i.i in
    let sound = framed ns gs _ c.keep.ensures c.if-not-keep.false (omega arith) in
    let bad : breaking (plan_of ns gs) (k + 1) ≡ true = elim c.then-not-keeps.branch [
      | then-not-keeps-via-then-not-keeps w ↦ breaks_alone ns gs
          (take k gs) k c.loop-i-test.true refl _ c.keeps.ensures w.if-not-keeps.true
      | then-not-keeps-via-else-not-keeps+then-clashes_with_one w ↦
          breaks_with ns gs (take k w.deref.result.now) k c.loop-i-test.true
          (ap (take k) (w.deref.ensures.value
          ∙ sym here)) _ c.keeps.ensures _ w.clashes_with_one.ensures w.if-clashes_with_one.true
    ] in
    let e = ap Some c.at-then-not-keeps.ensures
    ∙ sym (verdict_grant (plan_of ns gs) k sound c.loop-i.invariant c.loop-i-test.true bad)
    ∙ ap (λ (l : List Grant). verdict (plan_of ns l)) here in
    record { answer = e; kept = tt; only = only_verdict (plan_of ns (vec_items c.args.grants)) _ e }

pub loop-i-preserved : goal.loop-i-preserved
loop-i-preserved c =
    let gs = c.deref-g-items.result.now in
    none_more (breaking (plan_of c.args.numbers gs)) c.loop-i.i c.loop-i.invariant
    (breaks_none c.args.numbers gs (take c.loop-i.i c.deref.result.now) c.loop-i.i c.loop-i-test.true
    (ap (take c.loop-i.i)
    (c.deref.ensures.value
    ∙ sym c.deref-g-items.ensures.value)) _ c.keeps.ensures _ c.if-not-keeps.false c.clashes_with_one.ensures c.if-clashes_with_one.false)

-- no grant breaks a rule
ended : (ns : Numbers) (gs vs : List Grant) (k : ℕ) → gs ≡ vs → Framed (plan_of ns gs)
    → ((i : ℕ) → 1 ≤ i → i ≤ k → breaking (plan_of ns gs) i ≡ false) → length gs ≤ k → verdict (plan_of ns vs) ≡ None
ended ns gs vs k same sound before past =
    ap (λ (l : List Grant). verdict (plan_of ns l)) (sym same) ∙ verdict_none (plan_of ns gs) k sound before past

pub invariant_of-result : goal.invariant_of-result
invariant_of-result c =
    let sound = framed c.args.numbers c.deref-g-items.result.now _ c.keep.ensures c.if-not-keep.false (omega arith) in
    record {
      lawful =
          ap is_some (ended c.args.numbers _ _ c.loop-i.i c.deref-g-items.ensures.value sound c.loop-i.invariant c.loop-i-test.false);
    }

pub returns : goal.returns
returns c =
    let sound = framed c.args.numbers c.deref-g-items.result.now _ c.keep.ensures c.if-not-keep.false (omega arith) in
    let e = sym (ended c.args.numbers _ _ c.loop-i.i c.deref-g-items.ensures.value sound c.loop-i.invariant c.loop-i-test.false) in
    record { answer = e; kept = refl; only = only_verdict (plan_of c.args.numbers (vec_items c.args.grants)) None e }
