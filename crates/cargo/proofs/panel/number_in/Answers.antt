use Rattle.std.proofs.Common.{◌≡◌, ℕ, ◌≤◌, List, [], ◌∷◌, ◌++◌, length, drop, refl, ap, ◌∙◌, w64, arith}
use Rattle.std.specs.Int.{from_le_bytes}
use Rattle.frame.specs.Octets.{value}
use Rattle.cargo.proofs.panel.number_in.Goals as goal

-- octets at the start of eight zeros
abbrev among_zeros : List ℕ → ℕ → List ℕ
among_zeros xs n = xs ++ drop n (0 ∷ 0 ∷ 0 ∷ 0 ∷ 0 ∷ 0 ∷ 0 ∷ 0 ∷ [])

with_zeros : (xs : List ℕ) → length xs ≤ 8 → from_le_bytes w64 (among_zeros xs (length xs)) ≡ value xs
with_zeros [] h = refl
with_zeros (a ∷ []) h = omega arith
with_zeros (a ∷ b ∷ []) h = omega arith
with_zeros (a ∷ b ∷ c ∷ []) h = omega arith
with_zeros (a ∷ b ∷ c ∷ d ∷ []) h = omega arith
with_zeros (a ∷ b ∷ c ∷ d ∷ e ∷ []) h = omega arith
with_zeros (a ∷ b ∷ c ∷ d ∷ e ∷ f ∷ []) h = omega arith
with_zeros (a ∷ b ∷ c ∷ d ∷ e ∷ f ∷ g ∷ []) h = omega arith
with_zeros (a ∷ b ∷ c ∷ d ∷ e ∷ f ∷ g ∷ i ∷ []) h = omega arith
with_zeros (a ∷ b ∷ c ∷ d ∷ e ∷ f ∷ g ∷ i ∷ j ∷ xs) h = absurd (omega arith)

pub returns : goal.returns
returns c =
    let xs = c.args.octets.now in
    c.from_le_bytes.ensures
    ∙ ap (λ (l : List ℕ). from_le_bytes w64 (among_zeros l (length xs))) c.copy_from_slice.ensures.after
    ∙ with_zeros xs c.requires
