-- The grants of a plan by their numbers.
use Rattle.std.specs.Prelude.{◌≡◌, ℕ, ◌+◌, ◌-◌, ◌<◌, ◌≤◌, Bool, true, false, ◌⊎◌, List, length, Some, None, Option, slice_index_or, refl}
use Rattle.std.proofs.Common.{ap, ◌∙◌, inl, inr, arith}
use Rattle.std.proofs.lemmas.Option.{slice_get_past, slice_get-get_or}
use Rattle.std.proofs.lemmas.Bool.{both_ways, cases_order, cases_lt, cond-true, cond-false, eq-eqb, ne_eqb}
use Rattle.plan.specs.declared.grant.Grant.{Grant}
use Rattle.plan.specs.Rules.{PlanMeaning, count_of, numbered_in, grant_at}
use Rattle.plan.specs.Answers.{passing}
use Rattle.plan.specs.GrantsByPlace.{blank}

-- no grant has the number 0, or one past the count
pub no_grant_at : (m : PlanMeaning) (i : ℕ) → (i ≡ 0) ⊎ (count_of m < i) → grant_at m i ≡ None
no_grant_at m i (inl z) = cond-true _ _ _ (eq-eqb i 0 z)
no_grant_at m i (inr far) =
    cond-false _ _ _ (ne_eqb i 0 (λ z. omega arith)) ∙ slice_get_past m.grants (i - 1) (omega arith)

-- every other number has one, which stands in the list
pub a_grant_at : (m : PlanMeaning) (i : ℕ) (d : Grant) → 1 ≤ i → i ≤ count_of m
    → grant_at m i ≡ Some (slice_index_or m.grants (i - 1) d)
a_grant_at m i d low high =
    cond-false _ _ _ (ne_eqb i 0 (λ z. omega arith)) ∙ slice_get-get_or m.grants (i - 1) d (omega arith)

-- a grant's number is at least 1, and at most how many there are
pub numbered : (m : PlanMeaning) (i : ℕ) (g : Grant) → grant_at m i ≡ Some g → (1 ≤ i) × (i ≤ count_of m)
numbered m i g e =
    elim (cases_order i 0) [
      | inl z ↦ never (no_grant_at m i (inl z))
      | inr (inl h) ↦ absurd (omega arith)
      | inr (inr h) ↦ elim
          (cases_lt (count_of m) i) [ inl far ↦ never (no_grant_at m i (inr far)) | inr near ↦ (h, near) ]
    ]
  where
    never : grant_at m i ≡ None → (1 ≤ i) × (i ≤ count_of m)
    never n = let z : ◌≡◌ {A = ℕ} 0 1 = cc in absurd (omega arith)

-- what passes is there
pub passed : (p : Grant → Bool) (o : Option Grant) → passing p o ≡ true → (g : Grant) × (o ≡ Some g) × (p g ≡ true)
passed p None e = absurd (both_ways false refl e)
passed p (Some g) e = (g, refl, e)

pub passes_there : (p : Grant → Bool) (o : Option Grant) (g : Grant) → o ≡ Some g → passing p o ≡ p g
passes_there p o g e = ap (passing p) e

-- a test of the grant with a number, and of the one that stands behind k others
pub test_number : (gs : List Grant) (p : Grant → Bool) (i : ℕ) → 1 ≤ i → i ≤ length gs
    → passing p (numbered_in gs i) ≡ p (slice_index_or gs (i - 1) blank)
test_number gs p i low high =
    ap (passing p) (cond-false _ _ _ (ne_eqb i 0 (λ e. omega arith)) ∙ slice_get-get_or gs (i - 1) blank (omega arith))

pub test_at : (gs : List Grant) (p : Grant → Bool) (k : ℕ) → k < length gs
    → passing p (numbered_in gs (k + 1)) ≡ p (slice_index_or gs k blank)
test_at gs p k h =
    let z : k + 1 - 1 ≡ k = omega arith in
    test_number gs p (k + 1) (omega arith) (omega arith) ∙ ap (λ (n : ℕ). p (slice_index_or gs n blank)) z
