-- The least number that passes a test.
use Rattle.std.specs.Prelude.{◌≡◌, ℕ, zero, suc, ◌+◌, ◌<◌, ◌≤◌, Bool, true, false, cond, Some, None, Option, refl}
use Rattle.std.proofs.Common.{ap, ◌∙◌, inl, inr, arith}
use Rattle.std.specs.Option.{option_or}
use Rattle.std.proofs.lemmas.Bool.{both_ways, cases_eq, cases_order}
use Rattle.plan.specs.Answers.{first_of}

-- what it is to be the least of 1 to n that passes, or none
abbrev pub First : (ℕ → Bool) → ℕ → Option ℕ → Type 0
First p n None = (i : ℕ) → 1 ≤ i → i ≤ n → p i ≡ false
First p n (Some k) = (1 ≤ k) × (k ≤ n) × (p k ≡ true) × ((i : ℕ) → 1 ≤ i → i < k → p i ≡ false)

one_more : (p : ℕ → Bool) (n : ℕ) (o : Option ℕ) → First p n o → (b : Bool) → p (suc n) ≡ b
    → First p (suc n) (option_or o (cond b (Some (suc n)) None))
one_more p n (Some k) h b e = (h.0, omega arith, h.2, h.3)
one_more p n None h true e = (omega arith, omega arith, e, λ i low high. h i low (omega arith))
one_more p n None h false e = λ i low high. elim (cases_eq i (suc n)) [ inl q ↦ rw q e | inr q ↦ h i low (omega arith) ]

pub first_tells : (p : ℕ → Bool) (n : ℕ) → First p n (first_of p n)
first_tells p zero = λ i low high. absurd (omega arith)
first_tells p (suc n) = one_more p n (first_of p n) (first_tells p n) (p (suc n)) refl

first_once : (p : ℕ → Bool) (n : ℕ) (a b : Option ℕ) → First p n a → First p n b → a ≡ b
first_once p n None None x y = refl
first_once p n None (Some k) x y = absurd (both_ways (p k) (x k y.0 y.1) y.2)
first_once p n (Some k) None x y = absurd (both_ways (p k) (y k x.0 x.1) x.2)
first_once p n (Some k) (Some l) x y =
    elim (cases_order k l) [
      | inl e ↦ ap Some e
      | inr (inl h) ↦ absurd (both_ways (p k) (y.3 k x.0 h) x.2)
      | inr (inr h) ↦ absurd (both_ways (p l) (x.3 l y.0 h) y.2)
    ]

pub first_is : (p : ℕ → Bool) (n : ℕ) (o : Option ℕ) → First p n o → first_of p n ≡ o
first_is p n o h = first_once p n (first_of p n) o (first_tells p n) h

-- the steps of a loop that looks for it: at each number, where it is found, and at the end
pub none_more : (p : ℕ → Bool) (n : ℕ) → ((i : ℕ) → 1 ≤ i → i ≤ n → p i ≡ false) → p (n + 1) ≡ false → (i : ℕ)
    → 1 ≤ i → i ≤ n + 1 → p i ≡ false
none_more p n h e i low high = elim (cases_eq i (n + 1)) [ inl q ↦ rw q e | inr q ↦ h i low (omega arith) ]

pub first_found : (p : ℕ → Bool) (n k : ℕ) → ((i : ℕ) → 1 ≤ i → i ≤ k → p i ≡ false) → k < n → p (k + 1) ≡ true
    → first_of p n ≡ Some (k + 1)
first_found p n k h below e =
    first_is p n (Some (k + 1)) (omega arith, omega arith, e, λ i low high. h i low (omega arith))

pub first_none : (p : ℕ → Bool) (n k : ℕ) → ((i : ℕ) → 1 ≤ i → i ≤ k → p i ≡ false) → n ≤ k → first_of p n ≡ None
first_none p n k h past = first_is p n None (λ i low high. h i low (omega arith))

-- tests that agree on the numbers 1 to n have one least number that passes
pub first_alike : (p q : ℕ → Bool) (n : ℕ) → ((i : ℕ) → 1 ≤ i → i ≤ n → p i ≡ q i) → first_of p n ≡ first_of q n
first_alike p q zero same = refl
first_alike p q (suc n) same =
    let before = first_alike p q n (λ i low high. same i low (omega arith)) in
    ap (λ o. option_or o (cond (p (suc n)) (Some (suc n)) None)) before
    ∙ ap (λ b. option_or (first_of q n) (cond b (Some (suc n)) None)) (same (suc n) (omega arith) (omega arith))
