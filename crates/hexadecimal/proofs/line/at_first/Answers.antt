-- The first byte comes after no octets.
use Rattle.std.proofs.Common.{[], refl, arith}
use Rattle.hexadecimal.proofs.line.at_first.Goals as goal

pub returns-in_default : goal.returns-in_default
returns-in_default c = c.between.ensures [] [] refl (λ _ e. omega arith)
