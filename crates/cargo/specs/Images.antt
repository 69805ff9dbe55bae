-- What reading octets as a kind of cargo answers.
use Rattle.std.specs.Prelude.{◌≡◌, ℕ, List, Ok, Err, Result, ◌≢◌}
use Rattle.frame.specs.declared.faults.Fault.{Fault}
use Rattle.frame.specs.declared.faults.Refusal.TheVariants as refusal
use Rattle.frame.specs.Refusals.{fault}

-- a value where the octets are its image; where they are no value's image, the refusal Cargo at 1
abbrev pub Reads : {C : Type 0} → (C → List ℕ) → List ℕ → Result C Fault → Type 0
Reads image xs (Ok v) = image v ≡ xs
Reads {C = C} image xs (Err e) = (e ≡ fault refusal.Cargo 1) × ((v : C) → image v ≢ xs)

-- values with one image are equal
abbrev pub Apart : {C : Type 0} → (C → List ℕ) → Type 0
Apart {C = C} image = (x y : C) → image x ≡ image y → x ≡ y
