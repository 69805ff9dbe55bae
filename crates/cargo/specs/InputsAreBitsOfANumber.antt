-- Inputs as bits of a number.
use Rattle.std.specs.Prelude.{◌≡◌, ℕ, zero, suc, ◌+◌, ◌*◌, ◌/◌, ◌%◌, ◌^◌, ◌<◌, ◌≤◌, Bool, true, false, not, List, [], ◌∷◌, length, take, drop, set, ◌==◌, bit_xor, nat_lt, slice_index_or, slice_set, refl}
use Rattle.std.proofs.Common.{sym, ap, ◌∙◌, inl, inr, pow-suc, div-one, mul_assoc, arith}
use Rattle.std.specs.Bool.{beq}
use Rattle.std.proofs.Math.Nat.{pow-succ', div-div-eq-div-mul, div-eq_of_lt}
use Rattle.std.specs.Int.Bits.{xor_zero_r}
use Rattle.std.proofs.lemmas.Nat.{div_below, le-div, pow_pos, xor_shr, xor_mod}
use Rattle.std.proofs.lemmas.Bool.{true≢false, false≢true, cases_lt, eq-eqb, ne_eqb, lt-ltb, le-ltb}
use Rattle.std.proofs.lemmas.Bool.Decides.{nat_tests}
use Rattle.cargo.specs.Inputs.{bit, number, inputs_in}

pub bit_small : (on : Bool) → bit on < 2
bit_small true = omega arith
bit_small false = omega arith

bit_back : (on : Bool) → (bit on == 1) ≡ on
bit_back true = refl
bit_back false = refl

low_bit : (n : ℕ) → bit (n % 2 == 1) ≡ n % 2
low_bit n = grind (arith, nat_tests)

pub length_inputs_in : (count n : ℕ) → length (inputs_in count n) ≡ count
length_inputs_in zero n = refl
length_inputs_in (suc count) n = ap suc (length_inputs_in count (n / 2))

pub number_inputs_in : (count n : ℕ) → n < 2 ^ count → number (inputs_in count n) ≡ n
number_inputs_in zero n h = omega arith
number_inputs_in (suc count) n h =
    let rest : number (inputs_in count (n / 2)) ≡ n / 2 =
    number_inputs_in count (n / 2) (div_below n 2 (2 ^ count) (omega arith) (rw (← pow-suc 2 count) h)) in
    let low = low_bit n in
    omega arith

pub inputs_in_number : (inputs : List Bool) → inputs_in (length inputs) (number inputs) ≡ inputs
inputs_in_number [] = refl
inputs_in_number (on ∷ inputs) =
    let small = bit_small on in
    let low : (bit on + 2 * number inputs) % 2 ≡ bit on = omega arith in
    let high : (bit on + 2 * number inputs) / 2 ≡ number inputs = omega arith in
    rw (low, high, bit_back on) (ap (λ (l : List Bool). on ∷ l) (inputs_in_number inputs))

pub number_below : (inputs : List Bool) → number inputs < 2 ^ length inputs
number_below [] = omega arith
number_below (on ∷ inputs) =
    let small = bit_small on in
    let rest = number_below inputs in
    rw (pow-suc 2 (length inputs)) (omega arith)

-- bit k of the number is input k
pub number_bit : (inputs : List Bool) (k : ℕ) → number inputs / 2 ^ k % 2 ≡ bit (slice_index_or inputs k false)
number_bit [] k = rw (div-eq_of_lt (pow_pos k))
number_bit (on ∷ inputs) zero =
    let small = bit_small on in
    rw div-one (omega arith)
number_bit (on ∷ inputs) (suc k) =
    let small = bit_small on in
    let high : (bit on + 2 * number inputs) / 2 ≡ number inputs = omega arith in
    rw (pow-succ' 2 k, ← div-div-eq-div-mul (bit on + 2 * number inputs) 2 (2 ^ k), high) (number_bit inputs k)

-- the first k inputs and those behind them
pub number_split : (k : ℕ) (inputs : List Bool)
    → number inputs ≡ number (take k inputs) + 2 ^ k * number (drop k inputs)
number_split zero inputs = omega arith
number_split (suc k) [] = omega arith
number_split (suc k) (on ∷ inputs) =
    let rest = number_split k inputs in
    rw (pow-succ' 2 k, mul_assoc 2 (2 ^ k) (number (drop k inputs))) (omega arith)

other_bit : (n : ℕ) → n < 2 → (bit_xor n 1 == 1) ≡ not (n == 1)
other_bit zero h = refl
other_bit (suc zero) h = refl
other_bit (suc (suc n)) h = absurd (omega arith)

-- changing one bit changes one input
pub flipped : (k count n : ℕ) → k < count
    → inputs_in count (bit_xor n (2 ^ k)) ≡ slice_set (inputs_in count n) k
    (not (slice_index_or (inputs_in count n) k false))
flipped k zero n h = absurd (omega arith)
flipped zero (suc count) n h =
    let low : bit_xor n 1 % 2 ≡ bit_xor (n % 2) 1 = xor_mod n 1 1 in
    let high : bit_xor n 1 / 2 ≡ n / 2 = xor_shr n 1 1 ∙ xor_zero_r (n / 2) in
    rw (low, high, other_bit (n % 2) (omega arith))
flipped (suc k) (suc count) n h =
    let p = 2 ^ k in
    let even : p * 2 % 2 ≡ 0 = omega arith in
    let half : p * 2 / 2 ≡ p = omega arith in
    let low : bit_xor n (p * 2) % 2 ≡ n % 2 = xor_mod n (p * 2) 1 ∙ ap (bit_xor (n % 2)) even ∙ xor_zero_r (n % 2) in
    let high : bit_xor n (p * 2) / 2 ≡ bit_xor (n / 2) p = xor_shr n (p * 2) 1 ∙ ap (bit_xor (n / 2)) half in
    rw (pow-suc 2 k, low, high) (ap (λ (l : List Bool). (n % 2 == 1) ∷ l) (flipped k count (n / 2) (omega arith)))

-- bit k of a number, below the count, is input k
pub input_bit : (k count n : ℕ) → k < count → (n / 2 ^ k % 2 == 1) ≡ slice_index_or (inputs_in count n) k false
input_bit k zero n h = absurd (omega arith)
input_bit zero (suc count) n h = rw div-one
input_bit (suc k) (suc count) n h =
    rw (pow-succ' 2 k, ← div-div-eq-div-mul n 2 (2 ^ k)) (input_bit k count (n / 2) (omega arith))

alike : (a b : Bool) → beq a b ≡ true → a ≡ b
alike true true e = refl
alike true false e = absurd (false≢true e)
alike false true e = absurd (false≢true e)
alike false false e = refl

unlike : (a b : Bool) → beq a b ≡ false → not a ≡ b
unlike true true e = absurd (true≢false e)
unlike true false e = refl
unlike false true e = refl
unlike false false e = absurd (true≢false e)

-- input k is not `on` yet: its bit is changed
pub other_input : (k count n : ℕ) (was on : Bool) → k < count → was ≡ slice_index_or (inputs_in count n) k false
    → beq was on ≡ false → inputs_in count (bit_xor n (2 ^ k)) ≡ slice_set (inputs_in count n) k on
other_input k count n was on h e f =
    flipped k count n h ∙ ap (set (inputs_in count n) k) (ap not (sym e) ∙ unlike was on f)

-- a number has no bit from bit k on where it is below 2 ^ k
pub no_high_bits : (n k : ℕ) → (n / 2 ^ k == 0) ≡ nat_lt n (2 ^ k)
no_high_bits n k =
    elim (cases_lt n (2 ^ k)) [
      | inl h ↦ eq-eqb (n / 2 ^ k) 0 (div-eq_of_lt h) ∙ sym (lt-ltb n (2 ^ k) h)
      | inr h ↦
          let some : 1 ≤ n / 2 ^ k = le-div 1 n (2 ^ k) (pow_pos k) (omega arith) in
          ne_eqb (n / 2 ^ k) 0 (λ e. omega arith) ∙ sym (le-ltb n (2 ^ k) h)
    ]
