-- What an open superframe shows.
use Rattle.std.specs.Prelude.{ℕ}
use Rattle.coordinator.specs.declared.open_superframe.OpenSuperframe.{OpenSuperframe}

-- the number of an open superframe
abbrev pub number_in : OpenSuperframe → ℕ
number_in superframe = superframe.number

-- the open superframe with a number
abbrev pub superframe_with : ℕ → OpenSuperframe
superframe_with k = record { number = k }
