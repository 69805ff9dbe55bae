-- The octets of a full address, highest first.
use Rattle.std.proofs.Common.{◌≡◌, ℕ, ◌/◌, ◌%◌, [], ◌∷◌, reverse}
use native.Mathlib.Nat.{div-div-eq-div-mul}
use Rattle.frame.specs.Octets.{little}

pub highest_first : (n : ℕ) →
    (n / 72057594037927936 % 256) ∷ (n / 281474976710656 % 256) ∷ (n / 1099511627776 % 256) ∷
    (n / 4294967296 % 256) ∷ (n / 16777216 % 256) ∷ (n / 65536 % 256) ∷ (n / 256 % 256) ∷ (n % 256) ∷ [] ≡ reverse (little 8 n)
highest_first n = simp div-div-eq-div-mul
