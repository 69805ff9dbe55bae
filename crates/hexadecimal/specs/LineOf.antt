-- What a whole line of a capture is.
use Rattle.std.specs.Prelude.{ℕ, cond, List, [], ◌∷◌, take, Some, None, Option, Ok, Err, Result, ◌==◌}
use Rattle.std.specs.Borrow.{Bor}
use Rattle.hexadecimal.specs.declared.line.NotOctets.{NotOctets}
use Rattle.hexadecimal.specs.Grammar.{octets_in}

-- what a line is: passed over, something else than octets, or these octets
pub data LineTold : Type 0 where
  skipped : LineTold
  not_octets : LineTold
  these_octets : List ℕ → LineTold

-- the text without a carriage return (13) that is its last byte
abbrev pub without_return : List ℕ → List ℕ
without_return [] = []
without_return (byte ∷ []) = cond (byte == 13) [] (byte ∷ [])
without_return (byte ∷ next ∷ rest) = byte ∷ without_return (next ∷ rest)

-- a line by the octets that its text spells
abbrev pub by_octets : Option (List ℕ) → LineTold
by_octets None = not_octets
by_octets (Some spelled) = these_octets spelled

-- a line without its carriage return: skipped where it is empty or begins with '#' (35)
abbrev pub told_by : List ℕ → LineTold
told_by [] = skipped
told_by (byte ∷ rest) = cond (byte == 35) skipped (by_octets (octets_in (byte ∷ rest)))

-- what a line is, from its whole text up to the line feed
abbrev pub line_of : List ℕ → LineTold
line_of text = told_by (without_return text)

-- how many octets of a line are kept: one more than the longest frame has
abbrev pub most_kept : ℕ
most_kept = 126

-- the same with the octets only that are kept
abbrev pub kept : LineTold → LineTold
kept skipped = skipped
kept not_octets = not_octets
kept (these_octets spelled) = these_octets (take most_kept spelled)

-- what an answer says, with the list that its slice points to
abbrev pub seen : Result (Option (Bor (List ℕ))) NotOctets → LineTold
seen (Ok None) = skipped
seen (Ok (Some slice)) = these_octets slice.now
seen (Err e) = not_octets
