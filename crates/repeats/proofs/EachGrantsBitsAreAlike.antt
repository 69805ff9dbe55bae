-- Bitmaps in which each grant's bits are alike.
use Rattle.std.proofs.Common.{◌≡◌, ℕ, ◌/◌, ◌%◌, ◌^◌, ◌<◌, Bool, true, false, cond, ◌&&◌, ◌||◌, eqb, ltb, List, length, get_or, Some, sym, refl, ap, ◌∙◌, subst, inl, inr, arith}
use native.Mathlib.Nat.{zero-div}
use lib.ListN.{length-replicate, get_or-replicate}
use Rattle.std.proofs.lemmas.List.{get_or_past}
use Rattle.std.proofs.lemmas.Bool.{and_right, cases_lt, lt-ltb}
use Rattle.plan.specs.declared.grant.Grant.{Grant}
use Rattle.plan.specs.declared.numbers.Numbers.{Numbers}
use Rattle.plan.specs.Rules.{PlanMeaning, Rules, grant_at, Holds}
use Rattle.plan.specs.Answers.{holding}
use Rattle.plan.specs.TestsDecideTheRules.{holding_decides}
use Rattle.plan.proofs.Lawful.{at_most_one_holder, grant_within}
use Rattle.repeats.specs.BitAndRepeatTimeslots.{before_bits, place, timeslot_with}
use Rattle.repeats.specs.Bitmaps.{bit, acknowledged, nothing_heard, Marks}
use Rattle.repeats.specs.Laws.{BitsAlike, AlwaysAlike, StaysAlike}
use Rattle.repeats.proofs.BitsAndRepeatsLieApart.{own_has_bit}

zero_octet : (i : ℕ) → get_or nothing_heard i 0 ≡ 0
zero_octet i = elim (cases_lt i 32) [
  | inl h ↦ get_or-replicate 32 i 0 0 h
  | inr h ↦ let e : length nothing_heard ≡ 32 = length-replicate {A = ℕ} 32 0 in
      get_or_past nothing_heard i 0 (omega arith)
]

pub zero_bit : (k : ℕ) → bit nothing_heard k ≡ 0
zero_bit k = ap (λ (x : ℕ). x / 2 ^ (k % 8) % 2) (zero_octet (k / 8)) ∙ ap (λ (x : ℕ). x % 2) (zero-div (2 ^ (k % 8)))

unheard : (n : Numbers) (t : ℕ) → acknowledged n nothing_heard t ≡ false
unheard n t = and_right _ _ (ap (λ (x : ℕ). eqb x 1) (zero_bit (place n t)))

pub always_alike : AlwaysAlike nothing_heard
always_alike m i g at t held = unheard m.numbers t ∙ sym (unheard m.numbers g.first)

-- what is acknowledged in a marked bitmap: what the grant holds, and what was before
module _ (n : Numbers) (xs ys : List ℕ) (g : Grant) (marked : Marks n xs g ys) where
  either : (a b : Bool) (x : ℕ) → a ≡ true → eqb (cond (a && b) 1 x) 1 ≡ (b || eqb x 1)
  either a true x e = rw e refl
  either a false x e = rw e refl

  acknowledged_then : (t : ℕ) → before_bits n < t → place n t < 256
      → acknowledged n ys t ≡ (holding t g || acknowledged n xs t)
  acknowledged_then t above fit =
      let there : timeslot_with n (place n t) ≡ t = omega arith in
      let r = lt-ltb _ _ above in
      let e : eqb (bit ys (place n t)) 1 ≡ (holding t g || eqb (bit xs (place n t)) 1) =
      ap (λ (x : ℕ). eqb x 1) (marked (place n t))
      ∙ ap (λ (s : ℕ). eqb (cond (ltb (place n t) 256 && holding s g) 1 (bit xs (place n t))) 1) there
      ∙ either (ltb (place n t) 256) (holding t g) (bit xs (place n t)) (lt-ltb _ _ fit) in
      ap (λ (b : Bool). b && eqb (bit ys (place n t)) 1) r ∙ e
      ∙ sym (ap (λ (b : Bool). holding t g || (b && eqb (bit xs (place n t)) 1)) r)

-- a grant holds all timeslots of a grant of the plan, or none
held_alike : (m : PlanMeaning) (i j : ℕ) (g h : Grant) (t s : ℕ) → Rules m → grant_at m i ≡ Some g
    → grant_at m j ≡ Some h → Holds h t → Holds h s → holding t g ≡ true → holding s g ≡ true
held_alike m i j g h t s rules here there at-t at-s e =
    let number = at_most_one_holder m rules t i j g h here there ((holding_decides t g).0 e) at-t in
    let also : grant_at m j ≡ Some g = subst (λ (k : ℕ). grant_at m k ≡ Some g) number here in
    let same : h ≡ g = cc in
    (holding_decides s g).1 (subst (λ (x : Grant). Holds x s) same at-s)

same_tests : (a b : Bool) → (a ≡ true → b ≡ true) → (b ≡ true → a ≡ true) → a ≡ b
same_tests true b f g = sym (f refl)
same_tests false true f g = g refl
same_tests false false f g = refl

stays : (m : PlanMeaning) (i : ℕ) (xs ys : List ℕ) (g : Grant) → Rules m → grant_at m i ≡ Some g
    → Marks m.numbers xs g ys → BitsAlike m xs → BitsAlike m ys
stays m i xs ys g rules here marked alike j h there t held =
    let w = grant_within m rules j h there in
    let few = rules.framed.numbers.timeslots in
    let begin : Holds h h.first = (omega arith, omega arith) in
    let has = own_has_bit m rules j h there in
    let q = same_tests (holding t g) (holding h.first g)
    (held_alike m i j g h t h.first rules here there held begin)
    (held_alike m i j g h h.first t rules here there begin held) in
    acknowledged_then m.numbers xs ys g marked t (has t held) (omega arith)
    ∙ ap (λ (b : Bool). b || acknowledged m.numbers xs t) q
    ∙ ap (λ (b : Bool). holding h.first g || b) (alike j h there t held)
    ∙ sym (acknowledged_then m.numbers xs ys g marked h.first (has h.first begin) (omega arith))

-- marking keeps each grant's bits alike
pub stays_alike : (n : Numbers) (xs ys : List ℕ) (g : Grant) → Marks n xs g ys → StaysAlike n xs g ys
stays_alike n xs ys g marked m i rules e here alike =
    stays m i xs ys g rules here (subst (λ (k : Numbers). Marks k xs g ys) (sym e) marked) alike
