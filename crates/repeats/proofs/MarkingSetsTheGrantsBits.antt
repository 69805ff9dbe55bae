-- What setting a bit does to each bit.
use Rattle.std.proofs.Common.{◌≡◌, ℕ, zero, suc, ◌+◌, ◌-◌, ◌*◌, ◌/◌, ◌%◌, ◌^◌, ◌<◌, ◌≤◌, Bool, false, cond, ◌&&◌, eqb, ltb, leb, ◌⊎◌, List, length, set, sym, refl, ap, ◌∙◌, inl, inr, add-suc, arith, length-set}
use native.Mathlib.Nat.{zero-div, div-eq_of_lt}
use lib.Bits.{bit_or, or_zero_r, shifted_even}
use Rattle.std.proofs.lemmas.Nat.{pow-add, pow_below, shl-shr, or_shr, or_mod, mod_below}
use Rattle.std.proofs.lemmas.List.{get_or-set_same, get_or-set_other, set_past, get_or_past}
use Rattle.std.proofs.lemmas.Bool.{cases_eq, cases_lt, cases_order, cond-true, cond-false, eq-eqb, ne_eqb, lt-ltb, le-ltb, and_right}
use Rattle.std.proofs.lemmas.Bool.Decides.{nat_tests}
use Rattle.frame.specs.Octets.{bits, octet}
use Rattle.plan.specs.declared.grant.Grant.{Grant}
use Rattle.plan.specs.declared.numbers.Numbers.{Numbers}
use Rattle.repeats.specs.BitAndRepeatTimeslots.{before_bits, place, timeslot_with}
use Rattle.repeats.specs.Bitmaps.{bit, with_bit, with_timeslot, with_timeslots, marked_with, Marks}

-- a power of two has the one bit
power_same : (k : ℕ) → 2 ^ k / 2 ^ k % 2 ≡ 1
power_same k = let e : 2 ^ k / 2 ^ k ≡ 1 = ap (λ (x : ℕ). x / 2 ^ k) (omega arith) ∙ shl-shr 1 k in rw e refl

power_below : (k i : ℕ) → i < k → 2 ^ k / 2 ^ i % 2 ≡ 0
power_below k i h =
    let d : ℕ = k - i - 1 in
    let e : k ≡ suc d + i = omega arith in
    let split : 2 ^ k ≡ 2 ^ suc d * 2 ^ i = ap (λ (x : ℕ). 2 ^ x) e ∙ pow-add 2 (suc d) i in
    let q : 2 ^ k / 2 ^ i ≡ 2 ^ suc d = ap (λ (x : ℕ). x / 2 ^ i) split ∙ shl-shr (2 ^ suc d) i in
    ap (λ (x : ℕ). x % 2) q ∙ ap (λ (x : ℕ). x % 2) (omega arith) ∙ shifted_even 1 d

power_above : (k i : ℕ) → k < i → 2 ^ k / 2 ^ i % 2 ≡ 0
power_above k i h = let e = div-eq_of_lt (pow_below k i h) in rw e refl

digit : (y : ℕ) → (y % 2 ≡ 0) ⊎ (y % 2 ≡ 1)
digit y = let h = mod_below y 2 (omega arith) in elim (cases_eq (y % 2) 0) [ inl e ↦ inl e | inr n ↦ inr (omega arith) ]

or_one : (y : ℕ) → bit_or (y % 2) 1 ≡ 1
or_one y = elim (digit y) [ inl e ↦ rw e refl | inr e ↦ rw e refl ]

or_digits : (x k i : ℕ) → bit_or x (2 ^ k) / 2 ^ i % 2 ≡ bit_or (x / 2 ^ i % 2) (2 ^ k / 2 ^ i % 2)
or_digits x k i = ap (λ (y : ℕ). y % 2) (or_shr x (2 ^ k) i) ∙ or_mod (x / 2 ^ i) (2 ^ k / 2 ^ i) 1

-- setting bit k of a number leaves its other bits
pub or_bit : (x k i : ℕ) → bits i 1 (bit_or x (2 ^ k)) ≡ cond (eqb i k) 1 (bits i 1 x)
or_bit x k i =
    or_digits x k i
    ∙ elim (cases_order i k) [
      | inl e ↦ ap (λ (j : ℕ). bit_or (x / 2 ^ i % 2) (2 ^ k / 2 ^ j % 2)) e
          ∙ ap (bit_or (x / 2 ^ i % 2)) (power_same k) ∙ or_one (x / 2 ^ i) ∙ sym (cond-true _ _ _ (eq-eqb i k e))
      | inr (inl h) ↦ ap (bit_or (x / 2 ^ i % 2)) (power_below k i h) ∙ or_zero_r _
          ∙ sym (cond-false _ _ _ (ne_eqb i k (λ e. omega arith)))
      | inr (inr h) ↦ ap (bit_or (x / 2 ^ i % 2)) (power_above k i h) ∙ or_zero_r _
          ∙ sym (cond-false _ _ _ (ne_eqb i k (λ e. omega arith)))
    ]

same_tests : (j k : ℕ) → j / 8 ≡ k / 8 → eqb (j % 8) (k % 8) ≡ eqb j k
same_tests j k e = elim (cases_eq j k) [
  | inl q ↦ eq-eqb _ _ (omega arith) ∙ sym (eq-eqb j k q)
  | inr n ↦ ne_eqb (j % 8) (k % 8) (λ f. n (omega arith)) ∙ sym (ne_eqb j k n)
]

-- past the end every bit is zero
pub bit_past : (xs : List ℕ) (k : ℕ) → length xs ≤ k / 8 → bit xs k ≡ 0
bit_past xs k h = let e = get_or_past xs (k / 8) 0 h in let z = zero-div (2 ^ (k % 8)) in rw (e, z) refl

-- setting bit k of a bitmap leaves its other bits
pub with_bit_bits : (xs : List ℕ) (k j : ℕ) → k / 8 < length xs → bit (with_bit xs k) j ≡ cond (eqb j k) 1 (bit xs j)
with_bit_bits xs k j h =
    let v : ℕ = bit_or (octet xs (k / 8)) (2 ^ (k % 8)) in
    elim (cases_eq (j / 8) (k / 8)) [
      | inl e ↦
          ap (λ (i : ℕ). bits (j % 8) 1 (octet (set xs (k / 8) v) i)) e
          ∙ ap (bits (j % 8) 1) (get_or-set_same xs (k / 8) v 0 h)
          ∙ or_bit (octet xs (k / 8)) (k % 8) (j % 8)
          ∙ ap (λ (b : Bool). cond b 1 (bits (j % 8) 1 (octet xs (k / 8)))) (same_tests j k e)
          ∙ ap (λ (i : ℕ). cond (eqb j k) 1 (bits (j % 8) 1 (octet xs i))) (sym e)
      | inr n ↦
          ap (bits (j % 8) 1) (get_or-set_other xs (k / 8) (j / 8) v 0 n)
          ∙ sym (cond-false _ _ _ (ne_eqb j k (λ e. n (ap (λ (i : ℕ). i / 8) e))))
    ]

pub length-with_timeslot : (n : Numbers) (xs : List ℕ) (t : ℕ) → length (with_timeslot n xs t) ≡ length xs
length-with_timeslot n xs t = elim (cases_lt (before_bits n) t) [
  | inl h ↦ ap length (cond-true _ _ _ (lt-ltb _ _ h)) ∙ length-set xs _ _
  | inr h ↦ ap length (cond-false _ _ _ (le-ltb _ _ h))
]

pub length-with_timeslots : (n : Numbers) (xs : List ℕ) (f c : ℕ) → length (with_timeslots n xs f c) ≡ length xs
length-with_timeslots n xs f zero = refl
length-with_timeslots n xs f (suc c) =
    length-with_timeslot n (with_timeslots n xs f c) (f + c) ∙ length-with_timeslots n xs f c

-- acknowledging timeslot t sets its bit, and leaves the others
slot_bits : (n : Numbers) (xs : List ℕ) (t k : ℕ) → length xs ≡ 32
    → bit (with_timeslot n xs t) k ≡ cond (ltb k 256 && eqb t (timeslot_with n k)) 1 (bit xs k)
slot_bits n xs t k len = elim (cases_lt (before_bits n) t) [
  | inl h ↦ ap (λ (ys : List ℕ). bit ys k) (cond-true _ _ _ (lt-ltb _ _ h)) ∙ (elim (cases_lt (place n t) 256) [
    | inl s ↦ with_bit_bits xs (place n t) k (omega arith) ∙ ap (λ (b : Bool). cond b 1 (bit xs k)) (there h s)
    | inr s ↦
        ap (λ (ys : List ℕ). bit ys k) (set_past xs _ _ (omega arith))
        ∙ sym (cond-false _ _ _ (past s))
  ])
  | inr h ↦ ap (λ (ys : List ℕ). bit ys k) (cond-false _ _ _ (le-ltb _ _ h))
      ∙ sym (cond-false _ _ _ (and_right _ _ (ne_eqb t _ (λ e. omega arith))))
]
  where
    there : before_bits n < t → place n t < 256 → eqb k (place n t) ≡ (ltb k 256 && eqb t (timeslot_with n k))
    there h s = grind (arith, nat_tests)

    past : 256 ≤ place n t → (ltb k 256 && eqb t (timeslot_with n k)) ≡ false
    past s = grind (arith, nat_tests)

one_further : (a : Bool) (f c s b : ℕ)
    → cond (a && eqb (f + c) s) 1 (cond (a && (leb f s && ltb s (f + c))) 1 b) ≡ cond
    (a && (leb f s && ltb s (f + suc c))) 1 b
one_further a f c s b = let e = add-suc f c in grind (arith, nat_tests)

-- the same of a run of timeslots
pub slots_bits : (n : Numbers) (xs : List ℕ) (f c k : ℕ) → length xs ≡ 32
    → bit (with_timeslots n xs f c) k ≡ cond
    (ltb k 256 && (leb f (timeslot_with n k) && ltb (timeslot_with n k) (f + c))) 1 (bit xs k)
slots_bits n xs f zero k len = grind (arith, nat_tests)
slots_bits n xs f (suc c) k len =
    slot_bits n (with_timeslots n xs f c) (f + c) k (length-with_timeslots n xs f c ∙ len)
    ∙ ap (cond (ltb k 256 && eqb (f + c) (timeslot_with n k)) 1) (slots_bits n xs f c k len)
    ∙ one_further (ltb k 256) f c (timeslot_with n k) (bit xs k)

-- marking sets the bits of the grant's timeslots, and leaves the others
pub marks : (n : Numbers) (xs : List ℕ) (g : Grant) → length xs ≡ 32 → Marks n xs g (marked_with n xs g)
marks n xs g len k = slots_bits n xs g.first g.width k len
