-- The timeslots that have a bit and those for retransmission lie apart: all that the proofs know of the two offsets.
use Rattle.std.proofs.Common.{◌≡◌, ℕ, ◌+◌, ◌-◌, ◌<◌, ◌≤◌, false, List, Some, arith}
use Rattle.std.proofs.lemmas.Bool.{and_right, lt-leb}
use Rattle.plan.specs.declared.grant.Grant.{Grant}
use Rattle.plan.specs.declared.numbers.Numbers.{Numbers}
use Rattle.plan.specs.Rules.{PlanMeaning, Rules, grant_at, Holds}
use Rattle.plan.proofs.Lawful.{grant_within}
use Rattle.repeats.specs.BitAndRepeatTimeslots.{before_bits, before_repeats, place, bit_count, for_retransmission}
use Rattle.repeats.specs.Starts.{zeros}
use Rattle.repeats.proofs.CountsOfNumbersBelow.{zeros_few}

module _ (m : PlanMeaning) (rules : Rules m) (i : ℕ) (g : Grant) (at : grant_at m i ≡ Some g) (t : ℕ)
    (held : Holds g t) where
  -- a grant's own timeslots have a bit
  pub own_has_bit : before_bits m.numbers < t
  unfolding before_bits
  own_has_bit = let w = grant_within m rules i g at in omega arith

  -- and none of them is for retransmission
  pub own_is_not_for_retransmission : for_retransmission m.numbers t ≡ false
  unfolding before_repeats
  own_is_not_for_retransmission =
      let w = grant_within m rules i g at in
      let past : before_repeats m.numbers + m.numbers.retransmission < t = omega arith in
      and_right _ _ (lt-leb _ _ past)

module _ (n : Numbers) where
  -- the bits of a plan's timeslots are counted
  pub place_is_counted : (t : ℕ) → before_bits n < t → t ≤ n.timeslots → place n t < bit_count n
  unfolding before_bits
  place_is_counted t above within = omega arith

  -- the number of the timeslot in which a repeat starts does not pass a number of its octet
  pub repeat_starts_low : (xs : List ℕ) (t : ℕ) → before_repeats n + zeros n xs t ≤ t - 1
  unfolding before_repeats
  repeat_starts_low xs t = let few = zeros_few n xs t in omega arith
