-- Every timeslot in which a grant repeats is one of those for retransmission.
use Rattle.std.proofs.Common.{◌≡◌, ℕ, ◌+◌, ◌<◌, ◌≤◌, true, List, arith}
use Rattle.std.proofs.lemmas.Bool.{and_from, le-leb, lt-ltb}
use Rattle.plan.specs.declared.grant.Grant.{Grant}
use Rattle.plan.specs.declared.numbers.Numbers.{Numbers}
use Rattle.repeats.specs.BitAndRepeatTimeslots.{before_repeats, for_retransmission}
use Rattle.repeats.specs.Laws.{RepeatsIn}
use Rattle.repeats.proofs.WhenRepeatsStart.{started}

pub repeat_is_for_retransmission : (n : Numbers) (xs : List ℕ) (g : Grant) (t : ℕ) → RepeatsIn n xs g t
    → for_retransmission n t ≡ true
repeat_is_for_retransmission n xs g t r =
    let s = started n xs g r.0 r.1 in
    let above : before_repeats n < t = omega arith in
    let within : t ≤ before_repeats n + n.retransmission = omega arith in
    and_from _ _ (lt-ltb _ _ above) (le-leb _ _ within)
