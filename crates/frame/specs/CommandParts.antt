-- What the functions that read and write commands tell of parts of one.
use Rattle.std.specs.Prelude.{ℕ, ◌+◌, List, ◌∷◌, ◌++◌}
use Rattle.frame.specs.Fields.{field_length, address}
use Rattle.frame.specs.Formats.{coded_head}
use Rattle.frame.specs.Messages.{Order, command_subtype, control, identifier}
use Rattle.frame.specs.Octets.{between, value, little}

-- where the numbers behind the full address begin
abbrev pub numbers_from : ℕ
numbers_from = coded_head + field_length address

-- the full address that octets of a command have
abbrev pub address_in : List ℕ → ℕ
address_in xs = value (between coded_head numbers_from xs)

-- a command with a full address and numbers behind it
abbrev pub octets_with : Order → ℕ → List ℕ → List ℕ
octets_with o a numbers = control command_subtype ∷ identifier o ∷ (little (field_length address) a ++ numbers)
