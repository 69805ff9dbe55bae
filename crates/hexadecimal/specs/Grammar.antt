-- How a line of a capture spells octets.
use Rattle.std.specs.Prelude.{ℕ, ◌+◌, ◌-◌, ◌*◌, ◌/◌, ◌%◌, Bool, cond, ◌&&◌, List, [], ◌∷◌, ◌++◌, Some, None, Option}
use Rattle.std.specs.Prelude.{◌==◌, nat_le, nat_lt}

-- whether a byte lies from the first to the last, both included
abbrev pub in_range : ℕ → ℕ → ℕ → Bool
in_range first last byte = nat_le first byte && nat_le byte last

-- the number that a digit stands for: '0' to '9' is 48 to 57, 'a' to 'f' 97 to 102, 'A' to 'F' 65 to 70
abbrev pub digit_value : ℕ → Option ℕ
digit_value byte =
    cond (in_range 48 57 byte) (Some (byte - 48))
    (cond (in_range 97 102 byte) (Some (byte - 97 + 10))
    (cond (in_range 65 70 byte) (Some (byte - 65 + 10))
    None))

-- the octet of a high and a low digit, if both are digits
abbrev pub octet_from : Option ℕ → Option ℕ → Option ℕ
octet_from None low = None
octet_from (Some high) None = None
octet_from (Some high) (Some low) = Some (16 * high + low)

-- the octet that two bytes of text spell, the high digit first
abbrev pub octet_of : ℕ → ℕ → Option ℕ
octet_of first second = octet_from (digit_value first) (digit_value second)

-- one octet before others, if all are spelled right
abbrev pub before : Option ℕ → Option (List ℕ) → Option (List ℕ)
before None others = None
before (Some octet) None = None
before (Some octet) (Some others) = Some (octet ∷ others)

-- the octets that a text spells: spaces (32) pass, and two digits side by side make an octet;
-- none where any other byte stands, or a digit without its fellow
abbrev pub octets_in : List ℕ → Option (List ℕ)
octets_in [] = Some []
octets_in (byte ∷ []) = cond (byte == 32) (Some []) None
octets_in (byte ∷ next ∷ rest) =
    cond (byte == 32) (octets_in (next ∷ rest)) (before (octet_of byte next) (octets_in rest))

-- the lower-case digit for a number below sixteen
abbrev pub digit_code : ℕ → ℕ
digit_code value = cond (nat_lt value 10) (48 + value) (87 + value)

-- the two lower-case digits of an octet
abbrev pub octet_digits : ℕ → List ℕ
octet_digits octet = digit_code (octet / 16) ∷ digit_code (octet % 16) ∷ []

-- the digits of octets, one octet after another
abbrev pub spelling : List ℕ → List ℕ
spelling [] = []
spelling (octet ∷ rest) = octet_digits octet ++ spelling rest

-- octets as text: their digits, and '-' (45) for none
abbrev pub text_of : List ℕ → List ℕ
text_of [] = 45 ∷ []
text_of (octet ∷ rest) = spelling (octet ∷ rest)
