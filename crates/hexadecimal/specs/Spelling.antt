-- That the digits of octets read back as these octets.
use Rattle.std.specs.Prelude.{◌≡◌, ℕ, ◌<◌, List, Some, All}
use Rattle.hexadecimal.specs.Grammar.{octets_in, spelling}

abbrev pub SpellingReadsBack : Type 0
SpellingReadsBack = (octets : List ℕ) → All (λ octet. octet < 256) octets → octets_in (spelling octets) ≡ Some octets
