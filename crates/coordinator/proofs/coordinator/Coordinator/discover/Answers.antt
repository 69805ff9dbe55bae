use Rattle.std.proofs.Common.{rules}
use Rattle.coordinator.specs.Steps.{as_seen}
use Rattle.coordinator.proofs.coordinator.Coordinator.discover.Goals as goal

pub returns-clause-replied : goal.returns-clause-replied
returns-clause-replied g c = let noted = c.note.ensures as_seen (λ x y by. search rules) in search rules
