-- Which base timeslots have a bit of the group acknowledgment, and which are for retransmission.
use Rattle.std.specs.Prelude.{ℕ, ◌+◌, ◌-◌, Bool, ◌&&◌, nat_le, nat_lt}
use Rattle.plan.specs.declared.numbers.Numbers.{Numbers}

-- how many base timeslots lie in front of the first that has a bit: those for retransmission
unfoldable pub before_bits : Numbers → ℕ
before_bits n = n.retransmission

-- how many lie in front of those for retransmission: none
unfoldable pub before_repeats : Numbers → ℕ
before_repeats n = 0

-- whether base timeslot t has a bit
abbrev pub has_bit : Numbers → ℕ → Bool
has_bit n t = nat_lt (before_bits n) t

-- the number of its bit: the first timeslot that has one has bit 0
abbrev pub place : Numbers → ℕ → ℕ
place n t = t - before_bits n - 1

-- the base timeslot that has bit k
abbrev pub timeslot_with : Numbers → ℕ → ℕ
timeslot_with n k = before_bits n + 1 + k

-- how many base timeslots have a bit: all but those for retransmission
abbrev pub bit_count : Numbers → ℕ
bit_count n = n.timeslots - n.retransmission

-- whether base timeslot t is one of those for retransmission
abbrev pub for_retransmission : Numbers → ℕ → Bool
for_retransmission n t = nat_lt (before_repeats n) t && nat_le t (before_repeats n + n.retransmission)
