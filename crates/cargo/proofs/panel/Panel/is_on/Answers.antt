use Rattle.cargo.specs.InputsAreBitsOfANumber.{input_bit}
use Rattle.cargo.proofs.panel.Panel.is_on.Goals as goal

pub returns : goal.returns
returns c = input_bit c.args.k c.args.self.count c.args.self.inputs c.requires
