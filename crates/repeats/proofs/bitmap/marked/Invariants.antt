use Rattle.std.proofs.Common.{◌≡◌, ◌-◌, length}
use Rattle.repeats.specs.Bitmaps.{with_timeslots}
use Rattle.repeats.proofs.bitmap.marked.Given as goal

abbrev pub invariant-loop-t : goal.invariant-loop-t
invariant-loop-t l =
    (length l.marked ≡ 32) × (l.marked ≡ with_timeslots l.numbers l.initial.marked l.first (l.t - l.first))
