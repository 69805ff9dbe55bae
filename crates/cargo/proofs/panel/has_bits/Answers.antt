use Rattle.cargo.specs.InputsAreBitsOfANumber.{no_high_bits}
use Rattle.cargo.proofs.panel.has_bits.Goals as goal

pub returns-else-count-eq64 : goal.returns-else-count-eq64
returns-else-count-eq64 c = no_high_bits c.args.number c.args.count
