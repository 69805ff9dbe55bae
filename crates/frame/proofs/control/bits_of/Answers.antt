-- A mask of `count` ones takes the remainder by 2 ^ count.
use Rattle.std.proofs.lemmas.Nat.{one_shl, and_mask}
use Rattle.frame.proofs.control.bits_of.Goals as goal

pub returns : goal.returns
returns c = rw (one_shl c.args.count 8 c.requires.1) (and_mask _ c.args.count)
