use Rattle.std.proofs.Common.{◌≡◌, ◌++◌, length, take, drop}
use Rattle.frame.specs.Writing.{joined}
use Rattle.frame.proofs.buffer.put.Given as goal

abbrev pub invariant-loop-part : goal.invariant-loop-part
invariant-loop-part l =
    let written = joined (take l.part-index l.parts) in
    (l.at ≡ length written) × (l.buffer ≡ written ++ drop l.at l.fn.buffer)
