-- Marking a grant's timeslots acknowledges the grant, and leaves what is acknowledged of every other.
use Rattle.std.proofs.Common.{◌≡◌, ℕ, ◌<◌, Bool, true, false, cond, ◌&&◌, ◌||◌, eqb, ltb, List, length, Some}
use Rattle.std.proofs.Common.{sym, refl, ap, ◌∙◌, inl, inr, arith}
use Rattle.std.proofs.lemmas.Bool.{lt-ltb}
use Rattle.plan.specs.declared.grant.Grant.{Grant}
use Rattle.plan.specs.declared.numbers.Numbers.{Numbers}
use Rattle.plan.specs.Rules.{PlanMeaning, Rules, grant_at}
use Rattle.plan.specs.Answers.{holding}
use Rattle.plan.specs.TestsDecideTheRules.{held_now, held_later, held_before}
use Rattle.plan.proofs.Lawful.{disjoint, grant_within}
use Rattle.repeats.specs.BitAndRepeatTimeslots.{before_bits, place, timeslot_with}
use Rattle.repeats.specs.Bitmaps.{bit, acknowledged, marked_with}
use Rattle.repeats.specs.Laws.{BitsAlike}
use Rattle.repeats.proofs.BitsAndRepeatsLieApart.{own_has_bit}
use Rattle.repeats.proofs.EachGrantsBitsAreAlike.{stays_alike}
use Rattle.repeats.proofs.MarkingSetsTheGrantsBits.{length-with_timeslots, marks}

pub marked_size : (n : Numbers) (xs : List ℕ) (g : Grant) → length (marked_with n xs g) ≡ length xs
marked_size n xs g = length-with_timeslots n xs g.first g.width

either : (a b : Bool) (x : ℕ) → a ≡ true → eqb (cond (a && b) 1 x) 1 ≡ (b || eqb x 1)
either a true x e = rw e refl
either a false x e = rw e refl

-- what is acknowledged in a marked bitmap: what the grant holds, and what was before
module _ (n : Numbers) (xs : List ℕ) (g : Grant) (len : length xs ≡ 32) where
  acknowledged_then : (t : ℕ) → before_bits n < t → place n t < 256
      → acknowledged n (marked_with n xs g) t ≡ (holding t g || acknowledged n xs t)
  acknowledged_then t above fit =
      let there : timeslot_with n (place n t) ≡ t = omega arith in
      let r = lt-ltb _ _ above in
      let ys : List ℕ = marked_with n xs g in
      let e : eqb (bit ys (place n t)) 1 ≡ (holding t g || eqb (bit xs (place n t)) 1) =
      ap (λ (x : ℕ). eqb x 1) (marks n xs g len (place n t))
      ∙ ap (λ (s : ℕ). eqb (cond (ltb (place n t) 256 && holding s g) 1 (bit xs (place n t))) 1) there
      ∙ either (ltb (place n t) 256) (holding t g) (bit xs (place n t)) (lt-ltb _ _ fit) in
      ap (λ (b : Bool). b && eqb (bit ys (place n t)) 1) r ∙ e
      ∙ sym (ap (λ (b : Bool). holding t g || (b && eqb (bit xs (place n t)) 1)) r)

module _ (m : PlanMeaning) (rules : Rules m) where
  pub marked_own : (i : ℕ) (g : Grant) (xs : List ℕ) → grant_at m i ≡ Some g → length xs ≡ 32
      → acknowledged m.numbers (marked_with m.numbers xs g) g.first ≡ true
  marked_own i g xs at len =
      let w = grant_within m rules i g at in
      let few = rules.framed.numbers.timeslots in
      acknowledged_then m.numbers xs g len g.first (own_has_bit m rules i g at g.first (omega arith, omega arith))
      (omega arith)
      ∙ ap (λ (b : Bool). b || acknowledged m.numbers xs g.first) (held_now g.first g (omega arith, omega arith))

  pub marked_other : (i j : ℕ) (g h : Grant) (xs : List ℕ) → grant_at m i ≡ Some g → grant_at m j ≡ Some h
      → (i ≡ j → ⊥) → length xs ≡ 32 → acknowledged m.numbers
      (marked_with m.numbers xs g) h.first ≡ acknowledged m.numbers xs h.first
  marked_other i j g h xs here there differ len =
      let v = grant_within m rules i g here in
      let w = grant_within m rules j h there in
      let few = rules.framed.numbers.timeslots in
      let not_held : holding h.first g ≡ false = elim (disjoint m rules i j g h here there differ) [
        | inl e ↦ held_before h.first g e
        | inr e ↦ held_later h.first g (omega arith)
      ] in
      acknowledged_then m.numbers xs g len h.first (own_has_bit m rules j h there h.first (omega arith, omega arith))
      (omega arith)
      ∙ ap (λ (b : Bool). b || acknowledged m.numbers xs h.first) not_held

  pub marked_alike : (i : ℕ) (g : Grant) (xs : List ℕ) → grant_at m i ≡ Some g → length xs ≡ 32 → BitsAlike m xs
      → BitsAlike m (marked_with m.numbers xs g)
  marked_alike i g xs at len alike =
      stays_alike m.numbers xs (marked_with m.numbers xs g) g (marks m.numbers xs g len) m i rules refl at alike
