use Rattle.std.proofs.Common.{rules}
use Rattle.coordinator.specs.Steps.{as_configured}
use Rattle.coordinator.proofs.state.Inner.acknowledge.Goals as goal

pub returns : goal.returns
returns c = let noted = c.note.ensures as_configured (λ x y by. search rules) in search rules
