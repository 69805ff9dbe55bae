-- Where a reader stands after one byte more.
use Rattle.std.proofs.Common.{◌≡◌, ℕ, true, false, eqb, List, [], ◌∷◌, ◌++◌, Some, None, refl, ap, ◌∙◌, inl}
use Rattle.std.proofs.Common.{inr, append_assoc, append-nil}
use Rattle.std.proofs.lemmas.Bool.{cases_Bool, ne_eqb, cond-true, cond-false}
use Rattle.hexadecimal.specs.declared.line.Progress.TheVariants.{Whole, Half, LoneReturn, WholeReturn, Broken}
use Rattle.hexadecimal.specs.Grammar.{digit_value, octet_of, before, octets_in}
use Rattle.hexadecimal.specs.LineOf.{not_octets, without_return, by_octets, told_by, line_of}
use Rattle.hexadecimal.specs.Reading.{Stands}
use Rattle.hexadecimal.proofs.OctetsOfLongerText.{is_more, joined, digit_not, return_after, stays, stops, no_octet}
use Rattle.hexadecimal.proofs.OctetsOfLongerText.{plain, plain_front, plain_mid, spells_append, tells}

pub space_on : (text spelled : List ℕ) → octets_in text ≡ Some spelled → Stands Whole (text ++ 32 ∷ []) spelled
space_on text spelled h = (is_more text 32, spells_append text (32 ∷ []) spelled h ∙ ap Some (append-nil spelled))

-- a line is not octets whose text, without its return, stops after whole octets
stopped : (text front v spelled : List ℕ) → without_return text ≡ front ++ v → octets_in front ≡ Some spelled →
    plain (front ++ v) ≡ true → octets_in v ≡ None → line_of text ≡ not_octets
stopped text front v spelled r h p n =
    ap told_by r ∙ tells front v spelled h p ∙ ap (λ o. by_octets (joined spelled o)) n

-- a byte that is no space, digit or return
pub break_on : (text spelled : List ℕ) (byte : ℕ) → octets_in text ≡ Some spelled → (text ≡ [] → byte ≡ 35 → ⊥) →
    (byte ≡ 13 → ⊥) → (byte ≡ 32 → ⊥) → digit_value byte ≡ None → Stands Broken (text ++ byte ∷ []) spelled
break_on text spelled byte h hash cr space none more =
    let r : without_return ((text ++ byte ∷ []) ++ more) ≡ text ++ byte ∷ without_return more =
    ap without_return (append_assoc text (byte ∷ []) more) ∙ return_after text byte more ∙
    ap (λ l. text ++ l) (stays byte more (ne_eqb byte 13 cr)) in
    let tail = without_return more in
    stopped ((text ++ byte ∷ []) ++ more) text (byte ∷ tail) spelled r h (first_plain text byte tail spelled h hash)
    (stops byte tail (ne_eqb byte 32 space) none)
  where
    first_plain : (u : List ℕ) (byte : ℕ) (v spelled : List ℕ) → octets_in u ≡ Some spelled →
        (u ≡ [] → byte ≡ 35 → ⊥) → plain (u ++ byte ∷ v) ≡ true
    first_plain [] byte v spelled h hash = plain_mid [] byte v spelled h (ne_eqb byte 35 (hash refl))
    first_plain (b ∷ r) byte v spelled h hash = plain_front (b ∷ r) (byte ∷ v) spelled refl h

-- an octet is whole with its second digit
pub octet_on : (text spelled : List ℕ) (first byte octet : ℕ) → Stands (Half first) text spelled →
    octet_of first byte ≡ Some octet → Stands Whole (text ++ byte ∷ []) (spelled ++ octet ∷ [])
octet_on text spelled first byte octet h e =
    let front = h.0 in
    let space = digit_not first 32 h.2 refl in
    let pair : octets_in (first ∷ byte ∷ []) ≡ Some (octet ∷ []) =
    cond-false (eqb first 32) (octets_in (byte ∷ [])) (before (octet_of first byte) (Some [])) space ∙
    ap (λ o. before o (Some [])) e in
    let all : octets_in (text ++ byte ∷ []) ≡ Some (spelled ++ octet ∷ []) =
    ap octets_in (ap (λ l. l ++ byte ∷ []) h.1 ∙ append_assoc front (first ∷ []) (byte ∷ [])) ∙
    spells_append front (first ∷ byte ∷ []) spelled h.3 ∙ ap (joined spelled) pair in
    (is_more text byte, all)

-- a first digit, and then what makes no octet with it
lone_digit : (first byte : ℕ) (v : List ℕ) → eqb first 32 ≡ false → octet_of first byte ≡ None →
    octets_in (first ∷ without_return (byte ∷ v)) ≡ None
lone_digit first byte [] space none =
    elim (cases_Bool (eqb byte 13)) [
      | inl e ↦ ap (λ l. octets_in (first ∷ l)) (cond-true (eqb byte 13) [] (byte ∷ []) e) ∙
          cond-false (eqb first 32) (Some []) None space
      | inr e ↦ ap (λ l. octets_in (first ∷ l)) (cond-false (eqb byte 13) [] (byte ∷ []) e) ∙
          no_octet first byte [] space none
    ]
lone_digit first byte (next ∷ rest) space none = no_octet first byte (without_return (next ∷ rest)) space none

pub half_broken : (text spelled : List ℕ) (first byte : ℕ) → Stands (Half first) text spelled →
    octet_of first byte ≡ None → Stands Broken (text ++ byte ∷ []) spelled
half_broken text spelled first byte h none more =
    let front = h.0 in
    let space = digit_not first 32 h.2 refl in
    let hash = digit_not first 35 h.2 refl in
    let tail = without_return (byte ∷ more) in
    let whole : (text ++ byte ∷ []) ++ more ≡ front ++ first ∷ byte ∷ more =
    append_assoc text (byte ∷ []) more ∙ ap (λ l. l ++ byte ∷ more) h.1 ∙
    append_assoc front (first ∷ []) (byte ∷ more) in
    let r : without_return ((text ++ byte ∷ []) ++ more) ≡ front ++ first ∷ tail =
    ap without_return whole ∙ return_after front first (byte ∷ more) in
    stopped ((text ++ byte ∷ []) ++ more) front (first ∷ tail) spelled r h.3
    (plain_mid front first tail spelled h.3 hash) (lone_digit first byte more space none)

-- a carriage return that is not the last byte
returned : (front spelled : List ℕ) (byte : ℕ) (text : List ℕ) → octets_in front ≡ Some spelled →
    text ≡ front ++ 13 ∷ [] → Stands Broken (text ++ byte ∷ []) spelled
returned front spelled byte text h e more =
    let tail = without_return (byte ∷ more) in
    let whole : (text ++ byte ∷ []) ++ more ≡ front ++ 13 ∷ byte ∷ more =
    append_assoc text (byte ∷ []) more ∙ ap (λ l. l ++ byte ∷ more) e ∙ append_assoc front (13 ∷ []) (byte ∷ more) in
    let r : without_return ((text ++ byte ∷ []) ++ more) ≡ front ++ 13 ∷ tail =
    ap without_return whole ∙ return_after front 13 (byte ∷ more) in
    stopped ((text ++ byte ∷ []) ++ more) front (13 ∷ tail) spelled r h (plain_mid front 13 tail spelled h refl)
    (stops 13 tail refl refl)

pub lone_broken : (text spelled : List ℕ) (byte : ℕ) → Stands LoneReturn text spelled →
    Stands Broken (text ++ byte ∷ []) spelled
lone_broken text spelled byte h = returned [] [] byte text refl h

pub whole_broken : (text spelled : List ℕ) (byte : ℕ) → Stands WholeReturn text spelled →
    Stands Broken (text ++ byte ∷ []) spelled
whole_broken text spelled byte h = returned h.0 spelled byte text h.3 h.1

pub still_broken : (text spelled : List ℕ) (byte : ℕ) → Stands Broken text spelled →
    Stands Broken (text ++ byte ∷ []) spelled
still_broken text spelled byte h more = ap line_of (append_assoc text (byte ∷ []) more) ∙ h (byte ∷ more)
