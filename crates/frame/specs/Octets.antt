-- Octets and the numbers in them.
use Rattle.std.specs.Prelude.{ℕ, zero, suc, ◌+◌, ◌*◌, ◌/◌, ◌%◌, ◌^◌, List, [], ◌∷◌, slice_index, slice_range}

-- `count` bits of a number, from bit `low` on
abbrev pub bits : ℕ → ℕ → ℕ → ℕ
bits low count x = x / 2 ^ low % 2 ^ count

-- the octet at an index, and 0 past the end
abbrev pub octet : List ℕ → ℕ → ℕ
octet xs i = slice_index xs i

-- the octets from an index up to another one
abbrev pub between : ℕ → ℕ → List ℕ → List ℕ
between from to xs = slice_range xs from to

-- the number that octets write, lowest octet first
abbrev pub value : List ℕ → ℕ
value [] = 0
value (x ∷ xs) = x + 256 * value xs

-- the lowest `count` octets of a number, lowest first
abbrev pub little : ℕ → ℕ → List ℕ
little zero n = []
little (suc count) n = n % 256 ∷ little count (n / 256)
