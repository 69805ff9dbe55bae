-- A full frame ends inside its grant's timeslots.
use Rattle.std.proofs.Common.{◌≡◌, ℕ, ◌+◌, ◌-◌, ◌*◌, ◌≤◌, inl, inr, add-mul, one-mul, mul-add, mul_left_comm, arith}
use native.Mathlib.Nat.{min-le_right}
use Rattle.std.proofs.lemmas.Nat.{mul-le}
use Rattle.std.proofs.lemmas.Bool.{cases_lt}
use Rattle.std.proofs.lemmas.Bool.Decides.{nat_tests}
use Rattle.plan.specs.declared.grant.Grant.{Grant}
use Rattle.plan.specs.Rules.{PlanMeaning, Rules, GrantKeeps, carried}
use Rattle.times.specs.Laws.{FullFramesEndInside}
use Rattle.times.specs.Symbols.{spacing, frame_symbols, timeslot_symbols}

spacing_low : (m : ℕ) → 12 ≤ spacing m
spacing_low m = grind (arith, nat_tests)

spacing_high : (m : ℕ) → spacing m ≤ 40
spacing_high m = grind (arith, nat_tests)

spacing_grows : (a b : ℕ) → a ≤ b → spacing a ≤ spacing b
spacing_grows a b h = grind (arith, nat_tests)

-- w timeslots are long enough for a frame with what w timeslots carry
fits : (w n k : ℕ) → 1 ≤ w → k ≤ w * n → frame_symbols (k + 3) ≤ w * timeslot_symbols n
fits w n k one few =
    let s = spacing (n + 3) in
    let high = spacing_high (k + 3) in
    let low = spacing_low (n + 3) in
    let a = mul-add w (12 + 2 * (n + 3)) s in
    let b = mul-add w 12 (2 * (n + 3)) in
    let c = mul_left_comm w 2 (n + 3) in
    let d = mul-add w n 3 in
    elim (cases_lt 1 w) [
      | inl more ↦ let e = mul-le 2 12 w s more low in omega arith
      | inr single ↦
          let w_one : w ≡ 1 = omega arith in
          let few_one : k ≤ 1 * n = rw w_one at few in
          let grows : spacing (k + 3) ≤ spacing (n + 3) = spacing_grows (k + 3) (n + 3) (omega (arith, one-mul n)) in
          rw w_one (omega (arith, one-mul (timeslot_symbols n), one-mul n))
    ]

pub inside : (m : PlanMeaning) → Rules m → FullFramesEndInside m
inside m rules i g e =
    let keeps : GrantKeeps m.numbers g = rules.own i g e in
    let t = timeslot_symbols m.numbers.size in
    let h = fits g.width m.numbers.size (carried m.numbers.size g) keeps.width
    (min-le_right 124 (g.width * m.numbers.size)) in
    let from : 1 ≤ g.first = starts g keeps in
    let sum : g.first + g.width - 1 ≡ (g.first - 1) + g.width = omega arith in
    rw sum (omega (arith, add-mul (g.first - 1) g.width t))
  where
    starts : (g : Grant) → GrantKeeps m.numbers g → 1 ≤ g.first
    starts g keeps = elim keeps.timeslots [ inl a ↦ omega arith | inr a ↦ omega arith ]
