-- The fields of a frame: what each holds, and how it is written and read.
use Rattle.std.specs.Prelude.{ℕ, ◌+◌, List, [], ◌∷◌, ◌++◌, Ok, Err, Result, slice_set}
use Rattle.std.specs.Option.{ok_or}
use Rattle.frame.specs.declared.direction.Direction.{Direction}
use Rattle.frame.specs.declared.faults.Fault.{Fault}
use Rattle.frame.specs.declared.faults.Refusal.TheVariants as refusal
use Rattle.frame.specs.Directions.{direction_code, direction_of}
use Rattle.frame.specs.Octets.{octet, between, value, little}
use Rattle.frame.specs.Refusals.{fault}

pub data Field : Type 0 where
  address : Field  -- a full address: eight octets, lowest first
  number : Field  -- a number: one octet
  direction : Field  -- a wanted direction: one octet; one that is not listed is refused with Kind
  unused : Field  -- one octet that is written 0 and free when read

-- how many octets fields have
abbrev pub field_length : Field → ℕ
field_length address = 8
field_length number = 1
field_length direction = 1
field_length unused = 1

abbrev pub fields_length : List Field → ℕ
fields_length [] = 0
fields_length (field ∷ fields) = field_length field + fields_length fields

-- a function of what fields hold, in their order
abbrev pub From : List Field → Type 0 → Type 0
From [] R = R
From (address ∷ fields) R = ℕ → From fields R
From (number ∷ fields) R = ℕ → From fields R
From (direction ∷ fields) R = Direction → From fields R
From (unused ∷ fields) R = From fields R

-- the octets that are written for fields, behind those in front of them
abbrev pub written : (fields : List Field) → List ℕ → From fields (List ℕ)
written [] front = front
written (address ∷ fields) front = λ n. written fields (front ++ little 8 n)
written (number ∷ fields) front = λ n. written fields (front ++ n ∷ [])
written (direction ∷ fields) front = λ d. written fields (front ++ direction_code d ∷ [])
written (unused ∷ fields) front = written fields (front ++ 0 ∷ [])

-- the direction that an octet stands for, which is refused with Kind at its place if it is not listed
abbrev pub direction_from : ℕ → ℕ → Result Direction Fault
direction_from code place = ok_or (direction_of code) (fault refusal.Kind place)

abbrev pub directed : {M : Type 0} → Result Direction Fault → (Direction → Result M Fault) → Result M Fault
directed (Ok d) f = f d
directed (Err e) f = Err e

-- what fields say that stand in octets from an index on
abbrev pub said_by : {M : Type 0} → (fields : List Field) → ℕ → List ℕ → From fields M → Result M Fault
said_by [] at xs m = Ok m
said_by (address ∷ fields) at xs f = said_by fields (at + 8) xs (f (value (between at (at + 8) xs)))
said_by (number ∷ fields) at xs f = said_by fields (at + 1) xs (f (octet xs at))
said_by (direction ∷ fields) at xs f =
    directed (direction_from (octet xs at) at) (λ d. said_by fields (at + 1) xs (f d))
said_by (unused ∷ fields) at xs f = said_by fields (at + 1) xs f

-- octets in which fields stand from an index on, with each unused octet zero
abbrev pub cleared_of : List Field → ℕ → List ℕ → List ℕ
cleared_of [] at xs = xs
cleared_of (address ∷ fields) at xs = cleared_of fields (at + 8) xs
cleared_of (number ∷ fields) at xs = cleared_of fields (at + 1) xs
cleared_of (direction ∷ fields) at xs = cleared_of fields (at + 1) xs
cleared_of (unused ∷ fields) at xs = cleared_of fields (at + 1) (slice_set xs at 0)
