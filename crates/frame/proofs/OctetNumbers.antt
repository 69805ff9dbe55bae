-- Numbers in octets, and bits in the octets that are written.
use Rattle.std.proofs.Common.{◌≡◌, ℕ, zero, suc, ◌+◌, ◌*◌, ◌/◌, ◌%◌, ◌^◌, ◌<◌, ◌≤◌, [], ◌∷◌, pow-suc, arith}
use native.Mathlib.Nat.{div-div-eq-div-mul}
use Rattle.std.proofs.lemmas.Nat.{div_below}
use Rattle.frame.specs.Octets.{bits, value, little}

-- a number is what its octets write
pub value_little : (count n : ℕ) → n < 256 ^ count → value (little count n) ≡ n
value_little zero n h = omega arith
value_little (suc count) n h =
    let rest : value (little count (n / 256)) ≡ n / 256 =
    value_little count (n / 256) (div_below n 256 (256 ^ count) (omega arith) (rw (← pow-suc 256 count) h)) in
    omega arith

-- the eight octets of a number, each by one quotient
pub little_eight : (n : ℕ) →
    (n % 256) ∷ (n / 256 % 256) ∷ (n / 65536 % 256) ∷ (n / 16777216 % 256) ∷ (n / 4294967296 % 256) ∷
    (n / 1099511627776 % 256) ∷ (n / 281474976710656 % 256) ∷ (n / 72057594037927936 % 256) ∷ [] ≡ little 8 n
little_eight n = simp div-div-eq-div-mul

-- a state below 8 in bits 0 to 2 and a number below 8 in bits 5 to 7, and nothing between
pub low_bits : (s g : ℕ) → s < 8 → bits 0 3 (s + 32 * g) ≡ s
low_bits s g h = omega arith

pub middle_bit : (s g : ℕ) → s < 8 → bits 4 1 (s + 32 * g) ≡ 0
middle_bit s g h = omega arith

pub high_bits : (s g : ℕ) → s < 8 → g ≤ 7 → bits 5 3 (s + 32 * g) ≡ g
high_bits s g h k = omega arith
