-- Grants by their places in a list, from 0 on.
use Rattle.std.specs.Prelude.{ℕ, ◌<◌, List, length, slice_index_or}
use Rattle.plan.specs.declared.grant.Grant.{Grant}
use Rattle.plan.specs.Rules.{Clash}

-- what is read past the end of a list
abbrev pub blank : Grant
blank = record { address = 0; simple = 0; first = 0; width = 0 }

-- a grant of a list clashes with another one
abbrev pub ClashIn : List Grant → Grant → Type 0
ClashIn gs g = (k : ℕ) × (k < length gs) × Clash (slice_index_or gs k blank) g
