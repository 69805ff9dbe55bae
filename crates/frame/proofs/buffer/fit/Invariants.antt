use Rattle.std.proofs.Common.{◌≡◌, ◌+◌, length, take}
use Rattle.frame.specs.Writing.{joined}
use Rattle.frame.proofs.buffer.fit.Given as goal

abbrev pub invariant-loop-part : goal.invariant-loop-part
invariant-loop-part l = length (joined (take l.part-index l.parts)) + l.left ≡ length l.buffer
