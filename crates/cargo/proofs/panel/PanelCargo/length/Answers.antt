use Rattle.std.proofs.Common.{sym}
use Rattle.cargo.specs.EachPanelHasItsOwnImage.{image_size}
use Rattle.cargo.proofs.panel.PanelCargo.length.Goals as goal

pub returns : goal.returns
returns c = rw c.octets_for.ensures (sym (image_size c.args.self.now))
