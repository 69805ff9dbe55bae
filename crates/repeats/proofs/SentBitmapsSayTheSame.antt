-- The octets of a bitmap that a beacon carries say the same of every grant as the whole bitmap.
use Rattle.std.proofs.Common.{◌≡◌, ℕ, zero, suc, ◌+◌, ◌/◌, ◌%◌, ◌<◌, ◌≤◌, Bool, cond, not, ◌&&◌, eqb, List, take, Some, None, sym, refl, ap, ◌∙◌, inl, inr, arith}
use Rattle.std.proofs.lemmas.List.{get_or-take}
use Rattle.std.proofs.lemmas.Bool.{and_left, cases_lt, le-ltb}
use Rattle.frame.specs.Octets.{bits}
use Rattle.plan.specs.declared.grant.Grant.{Grant}
use Rattle.plan.specs.declared.numbers.Numbers.{Numbers}
use Rattle.plan.specs.Rules.{bitmap_octets}
use Rattle.repeats.specs.BitAndRepeatTimeslots.{before_bits, before_repeats, has_bit, place, bit_count}
use Rattle.repeats.specs.Bitmaps.{bit, acknowledged, missed}
use Rattle.repeats.specs.Starts.{zeros, may_repeat, has_room, repeat_start}
use Rattle.repeats.proofs.BitsAndRepeatsLieApart.{place_is_counted}

-- what a beacon carries of a bitmap
abbrev pub sent : Numbers → List ℕ → List ℕ
sent n xs = take (bitmap_octets n) xs

pub bit_sent : (n : Numbers) (xs : List ℕ) (k : ℕ) → k < bit_count n → bit (sent n xs) k ≡ bit xs k
bit_sent n xs k h = ap (bits (k % 8) 1) (get_or-take (bitmap_octets n) xs (k / 8) 0 (omega arith))

module _ (n : Numbers) (xs : List ℕ) where
  pub acknowledged_sent : (t : ℕ) → t ≤ n.timeslots → acknowledged n (sent n xs) t ≡ acknowledged n xs t
  acknowledged_sent t h = elim (cases_lt (before_bits n) t) [
    | inl above ↦ ap (λ (x : ℕ). has_bit n t && eqb x 1) (bit_sent n xs (place n t) (place_is_counted n t above h))
    | inr below ↦ and_left _ _ (le-ltb _ _ below) ∙ sym (and_left _ _ (le-ltb _ _ below))
  ]

  pub missed_sent : (t : ℕ) → t ≤ n.timeslots → missed n (sent n xs) t ≡ missed n xs t
  missed_sent t h = ap (λ (b : Bool). has_bit n t && not b) (acknowledged_sent t h)

  pub zeros_sent : (t : ℕ) → t ≤ n.timeslots + 1 → zeros n (sent n xs) t ≡ zeros n xs t
  zeros_sent zero h = refl
  zeros_sent (suc t) h =
      ap (λ (z : ℕ). z + cond (missed n (sent n xs) t) 1 0) (zeros_sent t (omega arith))
      ∙ ap (λ (b : Bool). zeros n xs t + cond b 1 0) (missed_sent t (omega arith))

  -- so both ends work out one repeat
  pub repeat_start_sent : (g : Grant) → g.first ≤ n.timeslots → repeat_start n (sent n xs) g ≡ repeat_start n xs g
  unfolding repeat_start
  repeat_start_sent g h =
      ap (λ (b : Bool). cond ((may_repeat n g && b) && has_room n (zeros n (sent n xs) g.first) g.width)
      (Some (before_repeats n + zeros n (sent n xs) g.first + 1)) None) (missed_sent g.first h)
      ∙ ap (λ (z : ℕ). cond ((may_repeat n g && missed n xs g.first) && has_room n z g.width)
      (Some (before_repeats n + z + 1)) None) (zeros_sent g.first (omega arith))
