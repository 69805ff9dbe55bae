-- Octets past the longest frame change nothing.
use Rattle.std.proofs.Common.{◌≡◌, ℕ, ◌+◌, ◌<◌, ◌≤◌, Bool, true, false, cond, not, eqb, ltb, List, [], ◌∷◌, length}
use Rattle.std.proofs.Common.{take, Ok, Err, Result, sym, refl, ap, ◌∙◌, inl, inr, arith, lit≤}
use Rattle.std.proofs.lemmas.List.{get_or-take, length-take-le, take_all}
use Rattle.std.proofs.lemmas.Bool.{cases_lt, lt-ltb, le-ltb, ne_eqb, cond-false}
use Rattle.frame.specs.declared.faults.Fault.{Fault}
use Rattle.frame.specs.declared.faults.Refusal.TheVariants as refusal
use Rattle.frame.specs.declared.direction.Direction.{Direction}
use Rattle.frame.specs.Fields.{Field, address, number, direction, unused, fields_length, From, directed, said_by}
use Rattle.frame.specs.Formats.{Format, beacon, payload, acknowledgment, command, unlisted_state, unlisted_type}
use Rattle.frame.specs.Formats.{unlisted_identifier}
use Rattle.frame.specs.Formats.{coded_head, extent, format_of, format_in, said, Told, unless_surplus, reading_as}
use Rattle.frame.specs.Formats.{reading}
use Rattle.frame.specs.Messages.{Message, online, discovery, configuration, reset}
use Rattle.frame.specs.Messages.{discover_response, configuration_status, configuration_request, fields, message_from}
use Rattle.frame.specs.Octets.{bits, octet}
use Rattle.frame.specs.Refusals.{fault}

-- what octets are refused with that are too many
abbrev too_many : Format → Result Message Fault → Result Told Fault
too_many φ (Ok m) = Err (fault refusal.Surplus (extent φ).most)
too_many φ (Err e) = Err e

surplus : (φ : Format) (xs : List ℕ) (r : Result Message Fault) → (extent φ).most < length xs →
    unless_surplus φ xs r ≡ too_many φ r
surplus φ xs (Ok m) h = rw (lt-ltb _ _ h)
surplus φ xs (Err e) h = refl

-- which of two messages stands there does not matter
either : (φ : Format) (b : Bool) (m n : Message) (e : Fault) →
    too_many φ (cond b (Ok m) (Err e)) ≡ too_many φ (cond b (Ok n) (Err e))
either φ true m n e = refl
either φ false m n e = refl

by_direction : (φ : Format) (r : Result Direction Fault) (f g : Direction → Result Message Fault) →
    ((d : Direction) → too_many φ (f d) ≡ too_many φ (g d)) → too_many φ (directed r f) ≡ too_many φ (directed r g)
by_direction φ (Ok d) f g h = h d
by_direction φ (Err e) f g h = refl

-- every format has at most 125 octets
within : (φ : Format) → ((extent φ).least ≤ 125) × ((extent φ).most ≤ 125)
within (beacon online) = (lit≤ tt, lit≤ tt)
within (beacon discovery) = (lit≤ tt, lit≤ tt)
within (beacon configuration) = (lit≤ tt, lit≤ tt)
within (beacon reset) = (lit≤ tt, lit≤ tt)
within payload = (lit≤ tt, lit≤ tt)
within (acknowledgment a) = (lit≤ tt, lit≤ tt)
within (command discover_response) = (lit≤ tt, lit≤ tt)
within (command configuration_status) = (lit≤ tt, lit≤ tt)
within (command configuration_request) = (lit≤ tt, lit≤ tt)
within unlisted_state = (lit≤ tt, lit≤ tt)
within unlisted_type = (lit≤ tt, lit≤ tt)
within unlisted_identifier = (lit≤ tt, lit≤ tt)

long_as : (φ : Format) (xs : List ℕ) → 125 < length xs → reading_as φ xs ≡ too_many φ (said φ xs)
long_as φ xs h =
    let w = within φ in
    let least : ltb (length xs) (extent φ).least ≡ false = le-ltb _ _ (omega arith) in
    let most : (extent φ).most < length xs = omega arith in
    cond-false _ _ _ least ∙ surplus φ xs (said φ xs) most

-- the tests of the control octet, and then r
abbrev controlled : ℕ → Result Told Fault → Result Told Fault
controlled c r =
    cond (not (eqb (bits 0 3 c) 4)) (Err (fault refusal.Foreign 0))
    (cond (not (eqb (bits 3 2 c) 0)) (Err (fault refusal.Reserved 0)) r)

long_reading : (xs : List ℕ) → 125 < length xs →
    reading xs ≡ controlled (octet xs 0) (too_many (format_in xs) (said (format_in xs) xs))
long_reading xs h =
    let some : eqb (length xs) 0 ≡ false = ne_eqb (length xs) 0 (λ e. omega arith) in
    cond-false _ _ _ some ∙ ap (controlled (octet xs 0)) (long_as (format_in xs) xs h)

module _ (xs ys : List ℕ) (same : (i : ℕ) → i < 126 → octet ys i ≡ octet xs i) where
  fields_alike : (φ : Format) (fs : List Field) (at : ℕ) (f g : From fs Message) → at + fields_length fs ≤ 126 →
      too_many φ (said_by fs at ys f) ≡ too_many φ (said_by fs at xs g)
  fields_alike φ [] at f g h = refl
  fields_alike φ (address ∷ fs) at f g h = fields_alike φ fs (at + 8) (f _) (g _) (omega arith)
  fields_alike φ (number ∷ fs) at f g h = fields_alike φ fs (at + 1) (f _) (g _) (omega arith)
  fields_alike φ (direction ∷ fs) at f g h =
      rw (same at (omega arith)) (by_direction φ _ _ _ (λ d. fields_alike φ fs (at + 1) (f d) (g d) (omega arith)))
  fields_alike φ (unused ∷ fs) at f g h = fields_alike φ fs (at + 1) f g (omega arith)

  alike : (φ : Format) → too_many φ (said φ ys) ≡ too_many φ (said φ xs)
  alike (beacon s) = rw (same 1 (omega arith)) (either (beacon s) _ _ _ _)
  alike payload = refl
  alike (acknowledgment a) = refl
  alike (command o) =
      let short : coded_head + fields_length (fields o) ≤ 125 = (within (command o)).0 in
      fields_alike (command o) (fields o) coded_head (message_from o) (message_from o) (omega arith)
  alike unlisted_state = refl
  alike unlisted_type = refl
  alike unlisted_identifier = refl

  same_format : format_in ys ≡ format_in xs
  same_format =
      ap (λ (c : ℕ). format_of (bits 6 2 c) (octet ys 1)) (same 0 (omega arith)) ∙
      ap (format_of (bits 6 2 (octet xs 0))) (same 1 (omega arith))

  long_alike : 125 < length xs → 125 < length ys → reading xs ≡ reading ys
  long_alike h k =
      let r : Format → Result Told Fault = λ φ. too_many φ (said φ ys) in
      long_reading xs h
      ∙ ap (controlled (octet xs 0)) (sym (alike (format_in xs)))
      ∙ ap (λ (φ : Format). controlled (octet xs 0) (r φ)) (sym same_format)
      ∙ ap (λ (c : ℕ). controlled c (r (format_in ys))) (sym (same 0 (omega arith)))
      ∙ sym (long_reading ys k)

-- octets read as their first 126
pub told_by_start : (xs : List ℕ) → reading xs ≡ reading (take 126 xs)
told_by_start xs =
    elim (cases_lt 126 (length xs)) [
      | inl h ↦
          let n : length (take 126 xs) ≡ 126 = length-take-le 126 xs (omega arith) in
          long_alike xs (take 126 xs) (λ i k. get_or-take 126 xs i 0 k) (omega arith) (omega arith)
      | inr h ↦ ap reading (sym (take_all 126 xs h))
    ]
