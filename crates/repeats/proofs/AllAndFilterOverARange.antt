-- Tests at each number of a range.
use Rattle.std.proofs.Common.{◌≡◌, ℕ, zero, suc, ◌+◌, ◌<◌, ◌≤◌, Bool, true, length, refl, ap, inl, inr, add-zero, zero-add, add-one, arith}
use Rattle.std.specs.List.{range_with_len, list_all, filter}
use Rattle.std.proofs.lemmas.Bool.{cases_Bool, cases_eq, and_parts, and_from}
use Rattle.repeats.specs.Starts.{count_below}
use Rattle.repeats.proofs.CountsOfNumbersBelow.{count_hit, count_skip}

module _ (p : ℕ → Bool) where
  -- all pass
  pub each_passes : (a n j : ℕ) → list_all p (range_with_len a n) ≡ true → a ≤ j → j < a + n → p j ≡ true
  each_passes a zero j e low high = absurd (omega arith)
  each_passes a (suc n) j e low high =
      let parts = and_parts (p a) (list_all p (range_with_len (a + 1) n)) e in
      elim (cases_eq j a) [
        | inl q ↦ rw q parts.0
        | inr q ↦ each_passes (a + 1) n j parts.1 (omega arith) (omega arith)
      ]

  pub all_pass : (a n : ℕ) → ((j : ℕ) → a ≤ j → p j ≡ true) → list_all p (range_with_len a n) ≡ true
  all_pass a zero h = refl
  all_pass a (suc n) h = and_from (p a) _ (h a (omega arith)) (all_pass (a + 1) n (λ j low. h j (omega arith)))

  -- how many pass
  count_from : (a n : ℕ) → count_below p a + length (filter p (range_with_len a n)) ≡ count_below p (a + n)
  count_from a zero = omega (arith, ap (count_below p) (add-zero a))
  count_from a (suc n) =
      let e : count_below p (a + 1 + n) ≡ count_below p (a + suc n) = ap (count_below p) (omega arith) in
      let s : count_below p (a + 1) ≡ count_below p (suc a) = ap (count_below p) (add-one a) in
      let r = count_from (a + 1) n in
      elim (cases_Bool (p a)) [
        | inl q ↦ let h = count_hit p a q in rw q (omega arith)
        | inr q ↦ let h = count_skip p a q in rw q (omega arith)
      ]

  pub counted : (n : ℕ) → length (filter p (range_with_len 0 n)) ≡ count_below p n
  counted n =
      let e : count_below p (0 + n) ≡ count_below p n = ap (count_below p) (zero-add n) in
      omega (arith, count_from 0 n)
