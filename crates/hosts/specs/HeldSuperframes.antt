-- Which superframe a host holds.
use Rattle.std.specs.Prelude.{Bool, true, Some, None, Option}
use Rattle.coordinator.specs.declared.state.Inner.{Inner}
use Rattle.coordinator.specs.declared.open_superframe.OpenSuperframe.{OpenSuperframe}
use Rattle.coordinator.specs.OpenSuperframes.{number_in}
use Rattle.coordinator.specs.Steps.{is_open}

-- what is held is the coordinator's open superframe
abbrev pub holds : Inner → Option OpenSuperframe → Bool
holds s None = true
holds s (Some t) = is_open s (number_in t)
