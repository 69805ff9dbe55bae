-- Grants that follow one another evenly never clash, so that the verdict goes by the first that breaks a rule by
-- itself.
use Rattle.std.proofs.Common.{◌≡◌, ℕ, ◌+◌, ◌-◌, ◌*◌, ◌<◌, ◌≤◌, false, not, is_some, Some, Option, sym, refl, ap, ◌∙◌, inl, inr, mul-le-mul_right, add-mul, one-mul, arith}
use Rattle.std.specs.Option.{option_map}
use Rattle.std.proofs.lemmas.List.FromFn.{length-map-range_with_len, get_or-map-range_with_len}
use Rattle.std.proofs.lemmas.Bool.{cases_Bool}
use Rattle.frame.specs.declared.faults.Refusal.TheVariants as refusal
use Rattle.frame.specs.Refusals.{fault}
use Rattle.plan.specs.declared.even_grants.EvenGrants.{EvenGrants}
use Rattle.plan.specs.declared.grant.Grant.{Grant}
use Rattle.plan.specs.declared.numbers.Numbers.{Numbers}
use Rattle.plan.specs.Rules.{PlanMeaning, count_of, grant_at, Clash, GrantKeeps, Framed, Rules}
use Rattle.plan.specs.GrantsByPlace.{blank}
use Rattle.plan.specs.Answers.{first_of, passing}
use Rattle.plan.specs.Verdicts.{grant_kept, clashing, clashing_before, breaking, verdict}
use Rattle.plan.specs.EvenGrants.{even_grant, even_plan}
use Rattle.plan.specs.TestsDecideTheRules.{grant_decided, clash_decided}
use Rattle.plan.specs.LeastNumberThatPasses.{first_none, first_alike}
use Rattle.plan.specs.VerdictsFollowTheRules.{framed_verdict}
use Rattle.plan.specs.GrantsByNumber.{a_grant_at, passes_there}

-- as many widths as there are grants up to one, and one more
pub next_width : (i w : ℕ) → 1 ≤ i → (i - 1) * w + w ≡ i * w
next_width i w h =
    let z : i ≡ (i - 1) + 1 = omega arith in
    sym (ap (λ (n : ℕ). n * w) z ∙ add-mul (i - 1) 1 w ∙ ap (λ (n : ℕ). (i - 1) * w + n) (one-mul w))

module _ (ns : Numbers) (gs : EvenGrants) where
  -- the plan, and grant i
  abbrev pub plan : PlanMeaning
  plan = even_plan ns gs.count gs.width gs.address gs.simple

  abbrev pub nth : ℕ → Grant
  nth i = even_grant ns gs.width gs.address gs.simple i

  -- how many there are
  pub even_count : count_of plan ≡ gs.count
  even_count = length-map-range_with_len nth 1 gs.count

  -- grant i is the one of that number
  pub even_at : (i : ℕ) → 1 ≤ i → i ≤ gs.count → grant_at plan i ≡ Some (nth i)
  even_at i low high =
      let c = even_count in
      a_grant_at plan i blank low (omega arith)
      ∙ ap Some (get_or-map-range_with_len nth 1 gs.count (i - 1) i blank (omega arith) (omega arith))

  -- each grant of a lawful plan keeps its rules
  pub even_keeps : Rules plan → (i : ℕ) → 1 ≤ i → i ≤ gs.count → GrantKeeps ns (nth i)
  even_keeps r i low high = r.own i (nth i) (even_at i low high)

  -- of two grants with timeslots, the earlier ends before the later begins, so that they never clash
  never_clash : (j i : ℕ) → 1 ≤ j → j < i → 1 ≤ gs.width → Clash (nth j) (nth i) → ⊥
  never_clash j i low below some (inl e) = omega arith
  never_clash j i low below some (inr (inl e)) = omega arith
  never_clash j i low below some (inr (inr e)) =
      omega (arith, next_width j gs.width low, mul-le-mul_right {m = j} {n = i - 1} gs.width (omega arith))

  apart_before : (i : ℕ) → i ≤ gs.count → 1 ≤ gs.width → clashing_before plan.grants (i - 1) (nth i) ≡ false
  unfolding clashing_before
  apart_before i high some =
      ap is_some (first_none (λ j. passing (λ h. clashing h (nth i)) (grant_at plan j)) (i - 1)
      (i - 1) clear (omega arith))
    where
      clear : (j : ℕ) → 1 ≤ j → j ≤ i - 1 → passing (λ h. clashing h (nth i)) (grant_at plan j) ≡ false
      clear j low below =
          passes_there _ _ _ (even_at j low (omega arith))
          ∙ elim (cases_Bool (clashing (nth j) (nth i))) [
            | inl e ↦ absurd (never_clash j i low (omega arith) some ((clash_decided _ _).0 e))
            | inr e ↦ e
          ]

  -- a grant breaks a rule exactly where it does by itself
  pub even_breaking : (i : ℕ) → 1 ≤ i → i ≤ gs.count → breaking plan i ≡ not (grant_kept ns (nth i))
  unfolding breaking
  even_breaking i low high =
      passes_there _ _ _ (even_at i low high)
      ∙ elim (cases_Bool (grant_kept ns (nth i))) [
        | inl e ↦
            let k = (grant_decided ns (nth i)).0 e in
            rw e (apart_before i high k.width)
        | inr e ↦ rw e refl
      ]

  -- the verdict goes by the first grant that breaks a rule by itself
  pub even_verdict : (r : Option ℕ) → Framed plan → r ≡ first_of (λ i. not (grant_kept ns (nth i))) gs.count
      → verdict plan ≡ option_map (fault refusal.Plan) r
  even_verdict r framed e =
      let c = even_count in
      framed_verdict plan r framed
      (ap (first_of (breaking plan)) c
      ∙ first_alike (breaking plan) (λ i. not (grant_kept ns (nth i))) gs.count even_breaking ∙ sym e)
