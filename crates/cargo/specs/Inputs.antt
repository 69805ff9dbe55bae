-- Inputs that are on or off, as bits of a number and as octets.
use Rattle.std.specs.Prelude.{◌≡◌, ℕ, zero, suc, ◌+◌, ◌*◌, ◌/◌, ◌%◌, ◌<◌, Bool, false, cond, List, [], ◌∷◌, length, take, drop, ◌==◌, slice_index_or}
use Rattle.frame.specs.Octets.{bits, octet}

-- an input as a bit: 1 where it is on
abbrev pub bit : Bool → ℕ
bit on = cond on 1 0

-- the number whose bit i is input i
abbrev pub number : List Bool → ℕ
number [] = 0
number (on ∷ inputs) = bit on + 2 * number inputs

-- the inputs that the lowest `count` bits of a number are, bit 0 first
abbrev pub inputs_in : ℕ → ℕ → List Bool
inputs_in zero n = []
inputs_in (suc count) n = (n % 2 == 1) ∷ inputs_in count (n / 2)

-- how many octets that many bits need
abbrev pub octets_for : ℕ → ℕ
octets_for count = (count + 7) / 8

-- inputs in octets, eight to an octet
abbrev pub packed : ℕ → List Bool → List ℕ
packed zero inputs = []
packed (suc n) inputs = number (take 8 inputs) ∷ packed n (drop 8 inputs)

-- the image of a panel with these inputs: how many they are, and the octets that they fill
abbrev pub panel_image : List Bool → List ℕ
panel_image inputs = length inputs ∷ packed (octets_for (length inputs)) inputs

-- octets are laid out as a panel's image: the count, then as many octets as the count needs, where input k is bit k
-- mod 8 of
-- octet k / 8, and a bit that stands for no input is zero
pub record LaidOut (inputs : List Bool) (xs : List ℕ) : Type 0 where
  pub count : octet xs 0 ≡ length inputs
  pub size : length xs ≡ 1 + octets_for (length inputs)
  pub places : (k : ℕ) → k / 8 < octets_for (length inputs)
      → bits (k % 8) 1 (octet xs (1 + k / 8)) ≡ bit (slice_index_or inputs k false)
  pub octets : (j : ℕ) → j < octets_for (length inputs) → octet xs (1 + j) < 256
