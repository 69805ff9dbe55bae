-- Cargo on its way: out of a received frame, and through a buffer.
use Rattle.std.specs.Prelude.{◌≡◌, ℕ, cond, List, length, Ok, Err, Result, nat_lt}
use Rattle.frame.specs.declared.faults.Fault.{Fault}
use Rattle.frame.specs.declared.faults.Refusal.TheVariants as refusal
use Rattle.frame.specs.Formats.{Told, reading}
use Rattle.frame.specs.Messages.{Message, data_frame, octets_of}
use Rattle.frame.specs.Refusals.{fault}
use Rattle.cargo.specs.Images.{Reads}

-- a message as cargo of a kind: a payload is read as an image, and any other message is refused with Unwanted
abbrev pub Delivers : {C : Type 0} → (C → List ℕ) → Message → Result C Fault → Type 0
Delivers image (data_frame payload) r = Reads image payload r
Delivers image other r = r ≡ Err (fault refusal.Unwanted 0)

-- what a frame reads as, taken as cargo: a fault of the frame is the answer
abbrev pub Taken : {C : Type 0} → (C → List ℕ) → Result Told Fault → Result C Fault → Type 0
Taken image (Ok t) r = Delivers image t.message r
Taken image (Err e) r = r ≡ Err e

-- received octets as cargo
abbrev pub Receives : {C : Type 0} → (C → List ℕ) → List ℕ → Result C Fault → Type 0
Receives image xs r = Taken image (reading xs) r

-- a data frame that carries the image of a value is received as that value
abbrev pub Delivered : {C : Type 0} → (C → List ℕ) → List ℕ → Result C Fault → Type 0
Delivered {C = C} image xs r = (v : C) → xs ≡ octets_of (data_frame (image v)) → r ≡ Ok v

-- what comes back of a value that is written into a buffer and read again: the value, or Space where the buffer is
-- shorter than its image
abbrev pub returning : {C : Type 0} → (C → List ℕ) → C → List ℕ → Result C Fault
returning image v buffer = cond (nat_lt (length buffer) (length (image v))) (Err (fault refusal.Space 0)) (Ok v)
