-- The digits of octets read back as these octets.
use Rattle.std.proofs.Common.{◌≡◌, ℕ, suc, ◌+◌, ◌-◌, ◌*◌, ◌/◌, ◌%◌, ◌<◌, false, eqb, [], ◌∷◌, Some, Option}
use Rattle.std.proofs.Common.{refl, ap, ◌∙◌, inl, inr, arith}
use Rattle.std.proofs.lemmas.Bool.{cases_lt, and_from, and_right, cond-true, cond-false, le-leb, lt-leb, lt-ltb, le-ltb, ne_eqb}
use Rattle.hexadecimal.specs.Grammar.{digit_value, digit_code, octet_of}
use Rattle.hexadecimal.specs.Spelling.{SpellingReadsBack}

-- a digit reads as its number
digit_back : (v : ℕ) → v < 16 → digit_value (digit_code v) ≡ Some v
digit_back v h = elim (cases_lt v 10) [
  | inl low ↦
      let is : 48 + v - 48 ≡ v = omega arith in
      rw (lt-ltb v 10 low)
      (cond-true _ _ _ (and_from _ _ (le-leb 48 (48 + v) (omega arith)) (le-leb (48 + v) 57 (omega arith)))
      ∙ ap {B = Option ℕ} Some is)
  | inr high ↦
      let is : 87 + v - 97 + 10 ≡ v = omega arith in
      rw (le-ltb v 10 high)
      (cond-false _ _ _ (and_right _ _ (lt-leb (87 + v) 57 (omega arith)))
      ∙ cond-true _ _ _ (and_from _ _ (le-leb 97 (87 + v) (omega arith)) (le-leb (87 + v) 102 (omega arith)))
      ∙ ap {B = Option ℕ} Some is)
]

-- and is no space
no_space : (v : ℕ) → eqb (digit_code v) 32 ≡ false
no_space v = elim (cases_lt v 10) [
  | inl low ↦ rw (lt-ltb v 10 low) (ne_eqb _ _ (λ e. absurd (omega arith)))
  | inr high ↦ rw (le-ltb v 10 high) (ne_eqb _ _ (λ e. absurd (omega arith)))
]

octet_back : (x : ℕ) → x < 256 → octet_of (digit_code (x / 16)) (digit_code (x % 16)) ≡ Some x
octet_back x h =
    let is : 16 * (x / 16) + x % 16 ≡ x = omega arith in
    rw (digit_back (x / 16) (omega arith), digit_back (x % 16) (omega arith)) (ap {B = Option ℕ} Some is)

pub spelled_back : SpellingReadsBack
spelled_back [] all = refl
spelled_back (x ∷ xs) all =
    rw (no_space (x / 16), octet_back x (all 0 0 (omega arith)), spelled_back xs (λ k d h. all (suc k) d (omega arith))) refl
