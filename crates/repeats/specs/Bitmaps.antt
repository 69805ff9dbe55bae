-- Group acknowledgment bitmaps: a bit for each base timeslot that is not for retransmission, one where it is
-- acknowledged.
use Rattle.std.specs.Prelude.{◌≡◌, ℕ, zero, suc, ◌+◌, ◌/◌, ◌%◌, ◌^◌, ◌≤◌, Bool, cond, not, ◌&&◌, List, length, replicate, ◌==◌, bit_or, nat_lt, slice_set}
use Rattle.frame.specs.Octets.{bits, octet}
use Rattle.plan.specs.declared.grant.Grant.{Grant}
use Rattle.plan.specs.declared.numbers.Numbers.{Numbers}
use Rattle.plan.specs.Rules.{bitmap_octets}
use Rattle.plan.specs.Answers.{holding}
use Rattle.repeats.specs.BitAndRepeatTimeslots.{has_bit, place, timeslot_with, bit_count}

-- bit k: the one of weight 2 ^ (k % 8) in octet k / 8, and 0 past the end
abbrev pub bit : List ℕ → ℕ → ℕ
bit xs k = bits (k % 8) 1 (octet xs (k / 8))

-- whether timeslot t has a bit, and the bit is one
abbrev pub acknowledged : Numbers → List ℕ → ℕ → Bool
acknowledged n xs t = has_bit n t && bit xs (place n t) == 1

-- whether timeslot t has a bit, and the bit is zero
abbrev pub missed : Numbers → List ℕ → ℕ → Bool
missed n xs t = has_bit n t && not (acknowledged n xs t)

-- octets are a beacon's bitmap: as many as its bits need, and every bit that no timeslot has is zero
pub record Fits (n : Numbers) (xs : List ℕ) : Type 0 where
  pub size : length xs ≡ bitmap_octets n
  pub padding : (k : ℕ) → bit_count n ≤ k → bit xs k ≡ 0

-- the bitmap of 32 octets in which nothing is acknowledged
abbrev pub nothing_heard : List ℕ
nothing_heard = replicate 32 0

-- a bitmap with bit k set, and as it was where it has no such bit
abbrev pub with_bit : List ℕ → ℕ → List ℕ
with_bit xs k = slice_set xs (k / 8) (bit_or (octet xs (k / 8)) (2 ^ (k % 8)))

-- a bitmap with timeslot t acknowledged, if it has a bit
abbrev pub with_timeslot : Numbers → List ℕ → ℕ → List ℕ
with_timeslot n xs t = cond (has_bit n t) (with_bit xs (place n t)) xs

-- the same of the timeslots from f on, `count` of them
abbrev pub with_timeslots : Numbers → List ℕ → ℕ → ℕ → List ℕ
with_timeslots n xs f zero = xs
with_timeslots n xs f (suc count) = with_timeslot n (with_timeslots n xs f count) (f + count)

-- a bitmap with a grant's timeslots acknowledged
abbrev pub marked_with : Numbers → List ℕ → Grant → List ℕ
marked_with n xs g = with_timeslots n xs g.first g.width

-- what marking does to each bit of 32 octets: those of the grant's timeslots are one, and the others are as they were
abbrev pub Marks : Numbers → List ℕ → Grant → List ℕ → Type 0
Marks n xs g ys = (k : ℕ) → bit ys k ≡ cond (nat_lt k 256 && holding (timeslot_with n k) g) 1 (bit xs k)
