-- Which text a reader has read.
use Rattle.std.specs.Prelude.{◌≡◌, ℕ, Bool, true, false, List, [], ◌∷◌, ◌++◌, take, is_some, Some}
use Rattle.hexadecimal.specs.declared.line.Progress.{Progress}
use Rattle.hexadecimal.specs.declared.line.Progress.TheVariants.{Untouched, Comment, Whole, Half, LoneReturn}
use Rattle.hexadecimal.specs.declared.line.Progress.TheVariants.{WholeReturn, Broken}
use Rattle.hexadecimal.specs.declared.line.HexLine.{HexLine}
use Rattle.hexadecimal.specs.Grammar.{digit_value, octets_in}
use Rattle.hexadecimal.specs.LineOf.{line_of, not_octets, most_kept}

-- whether a text has no byte
abbrev pub is_empty : List ℕ → Bool
is_empty [] = true
is_empty (byte ∷ rest) = false

-- what was read where a reader stands at a place: the text, and the whole octets that it spells;
-- a broken line is not octets, whatever follows
abbrev pub Stands : Progress → List ℕ → List ℕ → Type 0
Stands Untouched text spelled = (text ≡ []) × (spelled ≡ [])
Stands Comment text spelled = (rest : List ℕ) × (text ≡ 35 ∷ rest)
Stands Whole text spelled = (is_empty text ≡ false) × (octets_in text ≡ Some spelled)
Stands (Half first) text spelled =
    (front : List ℕ) × (text ≡ front ++ first ∷ []) ×
    (is_some (digit_value first) ≡ true) × (octets_in front ≡ Some spelled)
Stands LoneReturn text spelled = text ≡ 13 ∷ []
Stands WholeReturn text spelled =
    (front : List ℕ) × (text ≡ front ++ 13 ∷ []) × (is_empty front ≡ false) × (octets_in front ≡ Some spelled)
Stands Broken text spelled = (more : List ℕ) → line_of (text ++ more) ≡ not_octets

-- the octets that a reader has kept
abbrev pub stored : HexLine → List ℕ
stored line = line.octets.items

-- a reader that has read this text stands so, and has kept the text's first octets;
-- texts that leave it at one place, as two comments, are alike to it from there on
pub record Read (line : HexLine) (text : List ℕ) : Type 0 where
  pub spelled : List ℕ
  pub stands : Stands line.progress text spelled
  pub keeps : stored line ≡ take most_kept spelled
