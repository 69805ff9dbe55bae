-- A space, and a byte that spells nothing, after whole octets.
use Rattle.std.proofs.Common.{◌≡◌, ℕ, false, [], ◌∷◌, ◌++◌, Option, None, Some, is_some, refl, sym, ◌∙◌, subst}
use Rattle.hexadecimal.specs.declared.line.Progress.TheVariants.{Whole}
use Rattle.hexadecimal.specs.Reading.{Stands}
use Rattle.hexadecimal.proofs.OneByteMore.{space_on, break_on}
use Rattle.hexadecimal.proofs.line.between.Goals as goal

pub returns-then-byte-eq32 : goal.returns-then-byte-eq32
returns-then-byte-eq32 c t s h k = subst (λ b. Stands Whole (t ++ b ∷ []) s) (sym c.if-byte-eq32.true) (space_on t s h)

none : (value : Option ℕ) → is_some value ≡ false → value ≡ None
none None e = refl
none (Some n) e = cc

pub returns-else-is_some : goal.returns-else-is_some
returns-else-is_some c t s h k =
    break_on t s c.args.byte h k c.requires c.if-byte-eq32.false
    (sym c.value_of.ensures ∙ none _ (sym c.if-is_some.ensures))
