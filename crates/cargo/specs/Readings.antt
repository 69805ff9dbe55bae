-- Readings: a signed value of 32 bits and a quality.
use Rattle.std.specs.Prelude.{ℕ, suc, ◌-◌, ◌^◌, List, [], ◌∷◌, ◌++◌, ℤ, pos, negsuc, codes, decimal}
use Rattle.std.specs.Fmt.{signed_decimal}
use Rattle.frame.specs.Octets.{little}
use Rattle.cargo.specs.declared.reading.Reading.{Reading}

-- what a reading tells: its value and its quality
abbrev pub told : Reading → ℤ × ℕ
told r = (r.value, r.quality)

-- a signed number in two's complement of 32 bits; `negsuc n` is -(n + 1)
abbrev pub complement : ℤ → ℕ
complement (pos n) = n
complement (negsuc n) = 2 ^ 32 - suc n

-- the image: four octets of the value, lowest first, and the quality
abbrev pub reading_image : ℤ → ℕ → List ℕ
reading_image value quality = little 4 (complement value) ++ quality ∷ []

-- the image of a reading
abbrev pub image_of : Reading → List ℕ
image_of r = reading_image (told r).0 (told r).1

-- a reading as text: the word, the value in decimal, with a minus sign where it is below zero, and the quality
abbrev pub reading_text : ℤ → ℕ → List ℕ
reading_text value quality = codes "reading " ++ (signed_decimal value ++ (codes " " ++ decimal quality))

-- the text of a reading
abbrev pub text_of : Reading → List ℕ
text_of r = reading_text (told r).0 (told r).1
