-- All claims hold.
use Rattle.known_examples.proofs.EachExampleHolds.{all_hold}
use Rattle.known_examples.proofs.known_cases.Goals as goal

pub returns-clause-hold : goal.returns-clause-hold
returns-clause-hold c = all_hold
