-- When a grant's repeat starts, and when it does not.
use Rattle.std.proofs.Common.{◌≡◌, ℕ, ◌+◌, ◌<◌, ◌≤◌, true, false, List, Some, None, inl, inr, arith}
use Rattle.std.proofs.lemmas.Bool.{and_from, and_left, and_right, cases_Bool, cases_lt, cond-true, cond-false, le-leb, lt-leb}
use Rattle.plan.specs.declared.grant.Grant.{Grant}
use Rattle.plan.specs.declared.numbers.Numbers.{Numbers}
use Rattle.repeats.specs.BitAndRepeatTimeslots.{before_repeats}
use Rattle.repeats.specs.Starts.{zeros, wants_repeat, repeat_start}

module _ (n : Numbers) (xs : List ℕ) (g : Grant) where
  -- it starts where the grant wants it and it fits
  pub starts : wants_repeat n xs g ≡ true → zeros n xs g.first + g.width ≤ n.retransmission
      → repeat_start n xs g ≡ Some (before_repeats n + zeros n xs g.first + 1)
  unfolding repeat_start
  starts wants fit = cond-true _ _ _ (and_from _ _ wants (le-leb _ _ fit))

  pub too_late : n.retransmission < zeros n xs g.first + g.width → repeat_start n xs g ≡ None
  unfolding repeat_start
  too_late past = cond-false _ _ _ (and_right _ _ (lt-leb _ _ past))

  pub unwanted : wants_repeat n xs g ≡ false → repeat_start n xs g ≡ None
  unfolding repeat_start
  unwanted e = cond-false _ _ _ (and_left _ _ e)

  -- and only there
  pub started : (s : ℕ) → repeat_start n xs g ≡ Some s
      → (wants_repeat n xs g ≡ true) × (zeros n xs g.first + g.width ≤ n.retransmission)
      × (s ≡ before_repeats n + zeros n xs g.first + 1)
  started s e =
      elim (cases_Bool (wants_repeat n xs g)) [
        | inr no-wish ↦ never (unwanted no-wish)
        | inl wants ↦ elim (cases_lt n.retransmission (zeros n xs g.first + g.width)) [
          | inl past ↦ never (too_late past)
          | inr fit ↦ let f = starts wants fit in let same : s ≡ before_repeats n + zeros n xs g.first + 1 = cc in
              (wants, fit, same)
        ]
      ]
    where
      never : repeat_start n xs g ≡ None
          → (wants_repeat n xs g ≡ true) × (zeros n xs g.first + g.width ≤ n.retransmission)
          × (s ≡ before_repeats n + zeros n xs g.first + 1)
      never f = let z : ◌≡◌ {A = ℕ} 0 1 = cc in absurd (omega arith)

  -- a grant that wants to repeat and does not is too late
  pub unserved : wants_repeat n xs g ≡ true → repeat_start n xs g ≡ None
      → n.retransmission < zeros n xs g.first + g.width
  unserved wants e =
      elim (cases_lt n.retransmission (zeros n xs g.first + g.width)) [
        | inl past ↦ past
        | inr fit ↦ let f = starts wants fit in let z : ◌≡◌ {A = ℕ} 0 1 = cc in absurd (omega arith)
      ]
