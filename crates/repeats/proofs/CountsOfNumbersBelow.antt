-- How many numbers below one pass a test.
use Rattle.std.proofs.Common.{◌≡◌, ℕ, zero, suc, ◌+◌, ◌-◌, ◌<◌, ◌≤◌, Bool, true, false, cond, List, ap, ◌∙◌, inl, inr, add-zero, add-suc, arith}
use Rattle.std.proofs.lemmas.Bool.{cases_Bool, and_parts, ltb-true}
use Rattle.plan.specs.declared.numbers.Numbers.{Numbers}
use Rattle.repeats.specs.BitAndRepeatTimeslots.{before_bits}
use Rattle.repeats.specs.Bitmaps.{missed}
use Rattle.repeats.specs.Starts.{count_below, zeros}

module _ (p : ℕ → Bool) where
  -- one more number adds one where it passes, and nothing where it does not
  pub count_hit : (n : ℕ) → p n ≡ true → count_below p (suc n) ≡ count_below p n + 1
  count_hit n e = ap (λ (b : Bool). count_below p n + cond b 1 0) e

  pub count_skip : (n : ℕ) → p n ≡ false → count_below p (suc n) ≡ count_below p n
  count_skip n e = ap (λ (b : Bool). count_below p n + cond b 1 0) e ∙ add-zero (count_below p n)

  -- the count never falls
  count_grows : (n d : ℕ) → count_below p n ≤ count_below p (n + d)
  count_grows n zero = let e = ap (count_below p) (add-zero n) in omega arith
  count_grows n (suc d) =
      let e = ap (count_below p) (add-suc n d) in
      let h = count_grows n d in
      elim (cases_Bool (p (n + d))) [
        | inl q ↦ let s = count_hit (n + d) q in omega arith
        | inr q ↦ let s = count_skip (n + d) q in omega arith
      ]

  pub count_up : (a b : ℕ) → a ≤ b → count_below p a ≤ count_below p b
  count_up a b h =
      let e : a + (b - a) ≡ b = omega arith in let s = ap (count_below p) e in let g = count_grows a (b - a) in
      omega arith

  -- a run of numbers that all pass adds its length
  pub count_run : (a w : ℕ) → ((t : ℕ) → a ≤ t → t < a + w → p t ≡ true) → count_below p (a + w) ≡ count_below p a + w
  count_run a zero h = let e = ap (count_below p) (add-zero a) in omega arith
  count_run a (suc w) h =
      let e = ap (count_below p) (add-suc a w) in
      let r = count_run a w (λ t low high. h t low (omega arith)) in
      let s = count_hit (a + w) (h (a + w) (omega arith) (omega arith)) in
      omega arith

-- there are fewer zeros below a timeslot than timeslots
pub zeros_few : (n : Numbers) (xs : List ℕ) (t : ℕ) → zeros n xs t ≤ t - 1
zeros_few n xs zero = omega arith
zeros_few n xs (suc t) =
    let h = zeros_few n xs t in
    elim (cases_Bool (missed n xs t)) [
      | inl q ↦
          let s = count_hit (missed n xs) t q in
          let above : before_bits n < t = ltb-true _ _ (and_parts _ _ q).0 in
          omega arith
      | inr q ↦ let s = count_skip (missed n xs) t q in omega arith
    ]
