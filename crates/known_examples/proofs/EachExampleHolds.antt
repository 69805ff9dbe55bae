-- Every claim of the list holds, mostly by computation.
use Rattle.std.proofs.Common.{ℕ, List, [], ◌∷◌, Ok, Err, refl, ap, arith}
use Rattle.frame.specs.declared.faults.Fault.{Fault}
use Rattle.frame.specs.declared.faults.Refusal.TheVariants as refusal
use Rattle.frame.specs.Refusals.{fault}
use Rattle.repeats.specs.BitAndRepeatTimeslots.{before_bits, before_repeats}
use Rattle.repeats.specs.Starts.{repeat_start}
use Rattle.cargo.specs.Panels.{ImagesNone}
use Rattle.cargo.specs.EachPanelHasItsOwnImage.{not_unused}
use Rattle.known_examples.specs.KnownExamples.{OnlyRefused, KnownCasesHold}

-- where no panel has an image, the answer is the refusal
only : (xs : List ℕ) → ImagesNone xs → OnlyRefused xs (fault refusal.Cargo 1)
only xs none (Ok p) e = absurd (none p e)
only xs none (Err f) e = ap (λ (g : Fault). Err g) e.0

-- bit 9 is set, and stands for no input
ten_bits : ImagesNone (9 ∷ 1 ∷ 3 ∷ [])
ten_bits = not_unused 9 769 (1 ∷ 3 ∷ []) refl (omega arith) (omega arith)

-- a pair
infixr 20 ◌and◌
◌and◌ : {A B : Type 0} → A → B → A × B
◌and◌ a b = (a, b)

pub all_hold : KnownCasesHold
unfolding before_bits before_repeats repeat_start
all_hold =
    refl and refl and refl and refl and refl and refl and refl and refl and refl and refl and refl and refl and refl and refl and refl
    and (refl, (refl, refl)) and refl and refl and (ten_bits, only (9 ∷ 1 ∷ 3 ∷ []) ten_bits, (refl, refl)) and tt
