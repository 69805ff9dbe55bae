-- The repeats of two grants share no timeslot, and the earlier grant is served first.
use Rattle.std.proofs.Common.{◌≡◌, ℕ, ◌+◌, ◌<◌, ◌≤◌, true, not, List, Some, refl, ap, ◌∙◌, subst, inl, inr, arith}
use Rattle.std.proofs.lemmas.Bool.{and_from, and_parts, cases_order, lt-ltb}
use Rattle.plan.specs.declared.grant.Grant.{Grant}
use Rattle.plan.specs.Rules.{PlanMeaning, Rules, grant_at}
use Rattle.plan.proofs.Lawful.{disjoint}
use Rattle.repeats.specs.BitAndRepeatTimeslots.{has_bit}
use Rattle.repeats.specs.Bitmaps.{acknowledged, missed}
use Rattle.repeats.specs.Starts.{zeros, may_repeat, wants_repeat}
use Rattle.repeats.specs.Laws.{BitsAlike, RepeatsApart, ServedInOrder}
use Rattle.repeats.proofs.BitsAndRepeatsLieApart.{own_has_bit}
use Rattle.repeats.proofs.CountsOfNumbersBelow.{count_up, count_run}
use Rattle.repeats.proofs.WhenRepeatsStart.{started, unserved, too_late}
use Rattle.repeats.proofs.OneGrantAtMostBegins.{begins_once}

module _ (m : PlanMeaning) (xs : List ℕ) (rules : Rules m) (alike : BitsAlike m xs) where
  -- all timeslots of a grant that is to repeat have bit zero
  all_missed : (i : ℕ) (g : Grant) → grant_at m i ≡ Some g → wants_repeat m.numbers xs g ≡ true → (t : ℕ)
      → g.first ≤ t → t < g.first + g.width → missed m.numbers xs t ≡ true
  all_missed i g at wants t low high =
      let first = (and_parts (may_repeat m.numbers g) (missed m.numbers xs g.first) wants).1 in
      let bit = (and_parts (has_bit m.numbers g.first) (not (acknowledged m.numbers xs g.first)) first).1 in
      and_from _ _ (lt-ltb _ _ (own_has_bit m rules i g at t (low, high))) (ap not (alike i g at t (low, high)) ∙ bit)

  -- an earlier grant takes its share of timeslots before a later one counts
  earlier : (i j : ℕ) (g h : Grant) → grant_at m i ≡ Some g → grant_at m j ≡ Some h
      → wants_repeat m.numbers xs g ≡ true → g.first < h.first
      → zeros m.numbers xs g.first + g.width ≤ zeros m.numbers xs h.first
  earlier i j g h here there wants before =
      let run = count_run (missed m.numbers xs) g.first g.width (all_missed i g here wants) in
      elim (disjoint m rules i j g h here there differ) [
        | inl e ↦ let up = count_up (missed m.numbers xs) (g.first + g.width) h.first e in omega arith
        | inr e ↦ absurd (omega arith)
      ]
    where
      differ : i ≡ j → ⊥
      differ e =
          let also : grant_at m j ≡ Some g = subst (λ (k : ℕ). grant_at m k ≡ Some g) e here in
          let same : g ≡ h = cc in
          let f = ap (λ (x : Grant). x.first) same in
          omega arith

  pub in_order : ServedInOrder m xs
  in_order i j g h here there wants also before =
      let d = earlier i j g h here there wants before in
      record {
        wholly = λ s u e f.
            let a = started m.numbers xs g s e in
            let b = started m.numbers xs h u f in
            omega arith;
        unserved = λ e. let late = unserved m.numbers xs g wants e in too_late m.numbers xs h (omega arith);
      }

  pub apart : RepeatsApart m xs
  apart t i j g h here there a b =
      let x = started m.numbers xs g a.0 a.1 in
      let y = started m.numbers xs h b.0 b.1 in
      elim (cases_order g.first h.first) [
        | inl e ↦ begins_once m rules h.first i j g h here there e refl
        | inr (inl before) ↦ let o = (in_order i j g h here there x.0 y.0 before).wholly a.0 b.0 a.1 b.1 in
            absurd (omega arith)
        | inr (inr after) ↦ let o = (in_order j i h g there here y.0 x.0 after).wholly b.0 a.0 b.1 a.1 in
            absurd (omega arith)
      ]
