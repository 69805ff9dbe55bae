use Rattle.std.proofs.Common.{rules}
use Rattle.coordinator.specs.Steps.{as_requested}
use Rattle.coordinator.proofs.coordinator.Coordinator.request.Goals as goal

pub returns-clause-replied : goal.returns-clause-replied
returns-clause-replied g c = let noted = c.note.ensures as_requested (λ x y by. search rules) in search rules
