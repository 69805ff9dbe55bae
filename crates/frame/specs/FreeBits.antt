-- Reading is one-to-one up to the free bits, and long octets are told by their start.
use Rattle.std.specs.Prelude.{◌≡◌, ℕ, ◌-◌, ◌*◌, ◌^◌, List, IfOk, Result, slice_set}
use Rattle.frame.specs.declared.faults.Fault.{Fault}
use Rattle.frame.specs.Fields.{cleared_of}
use Rattle.frame.specs.Formats.{Format, beacon, payload, acknowledgment, command, unlisted_state, unlisted_type}
use Rattle.frame.specs.Formats.{unlisted_identifier, coded_head, format_in, Told}
use Rattle.frame.specs.Messages.{State, online, discovery, configuration, reset, fields, octets_of}
use Rattle.frame.specs.Octets.{bits, octet}

-- a number with `count` bits from bit `low` on made zero
abbrev pub without : ℕ → ℕ → ℕ → ℕ
without low count x = x - 2 ^ low * bits low count x

-- the free bits of flags are bit 3, the direction, and in Online and Reset bits 5 to 7
abbrev pub cleared_flags : State → ℕ → ℕ
cleared_flags online f = without 5 3 (without 3 1 f)
cleared_flags discovery f = without 3 1 f
cleared_flags configuration f = without 3 1 f
cleared_flags reset f = without 5 3 (without 3 1 f)

-- the free bit of a control octet is bit 5, the ACK request
abbrev pub cleared_control : List ℕ → List ℕ
cleared_control xs = slice_set xs 0 (without 5 1 (octet xs 0))

-- octets of a format with every free bit zero; an unused field is free as a whole
abbrev pub cleared_as : Format → List ℕ → List ℕ
cleared_as (beacon s) xs = slice_set (cleared_control xs) 1 (cleared_flags s (octet xs 1))
cleared_as payload xs = cleared_control xs
cleared_as (acknowledgment a) xs = cleared_control xs
cleared_as (command o) xs = cleared_of (fields o) coded_head (cleared_control xs)
cleared_as unlisted_state xs = xs
cleared_as unlisted_type xs = xs
cleared_as unlisted_identifier xs = xs

abbrev pub cleared : List ℕ → List ℕ
cleared xs = cleared_as (format_in xs) xs

-- an accepted frame is, but for its free bits, what the writer gives for what it says
abbrev pub WrittenBack : List ℕ → Result Told Fault → Type 0
WrittenBack xs r = IfOk r (λ t. octets_of t.message ≡ cleared xs)
