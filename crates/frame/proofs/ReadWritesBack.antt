-- An accepted frame is, but for its free bits, what the writer gives for it.
use Rattle.std.proofs.Common.{◌≡◌, ℕ, zero, suc, ◌+◌, ◌-◌, ◌*◌, ◌/◌, ◌%◌, ◌<◌, ◌≤◌, not, eqb, ltb, List, [], ◌∷◌, ◌++◌}
use Rattle.std.proofs.Common.{length, take, drop, set, IfOk, Ok, Err, Option, Result, sym, refl, ap, ◌∙◌, subst}
use Rattle.std.proofs.Common.{append_assoc, append-nil, add-zero, mod-eq_of_lt, zero-add, div-one, arith, drop-cons}
use Rattle.std.specs.Option.{ok_or}
use native.Mathlib.Nat.{div-div-eq-div-mul}
use Rattle.std.proofs.lemmas.List.{drop_all}
use Rattle.std.proofs.lemmas.Bool.{cond_both, eqb-true, eqb-false, ltb-false, not-false}
use Rattle.frame.specs.declared.faults.Fault.{Fault}
use Rattle.frame.specs.declared.acknowledgment.Acknowledged.{Acknowledged}
use Rattle.frame.specs.declared.acknowledgment.Acknowledged.TheVariants as acknowledged
use Rattle.frame.specs.declared.direction.Direction.{Direction}
use Rattle.frame.specs.declared.direction.Direction.TheVariants as directions
use Rattle.frame.specs.Directions.{direction_code, direction_of}
use Rattle.frame.specs.Fields.{Field, address, number, direction, unused, fields_length, From, written, directed}
use Rattle.frame.specs.Fields.{said_by, cleared_of}
use Rattle.frame.specs.Formats.{Format, beacon, payload, acknowledgment, command, unlisted_state, unlisted_type}
use Rattle.frame.specs.Formats.{unlisted_identifier, beacon_format, acknowledgment_format, command_format, coded_head}
use Rattle.frame.specs.Formats.{extent}
use Rattle.frame.specs.Formats.{format_in, beacon_said, state_of, acknowledged_of, order_of, said, Told, unless_surplus}
use Rattle.frame.specs.Formats.{reading_as, reading}
use Rattle.frame.specs.FreeBits.{without, cleared_flags, cleared_as, WrittenBack}
use Rattle.frame.specs.Messages.{Message, State, online, discovery, configuration, reset, state_code, control}
use Rattle.frame.specs.Messages.{octets_of}
use Rattle.frame.specs.Messages.{Order, discover_response, configuration_status, configuration_request, identifier}
use Rattle.frame.specs.Messages.{type_code}
use Rattle.frame.specs.Messages.{fields, message_from, command_octets}
use Rattle.frame.specs.Octets.{bits, octet, between, value, little}
use Rattle.frame.proofs.OctetNumbers.{high_bits}

-- octets are those of the number that they write
pub little_value : (l : List ℕ) → ((i : ℕ) → octet l i < 256) → little (length l) (value l) ≡ l
little_value [] b = refl
little_value (x ∷ xs) b =
    let low : (x + 256 * value xs) % 256 ≡ x = omega (arith, b 0) in
    let high : (x + 256 * value xs) / 256 ≡ value xs = omega (arith, b 0) in
    rw (low, high) (ap (λ (l : List ℕ). x ∷ l) (little_value xs (λ i. b (suc i))))

control_is : (c s : ℕ) → c < 256 → bits 0 3 c ≡ 4 → bits 3 2 c ≡ 0 → bits 6 2 c ≡ s → control s ≡ without 5 1 c
control_is c s h a b d =
    let low : c % 8 ≡ 4 = rw div-one at a in
    let eighth : c / 8 ≡ c / 32 * 4 + c / 8 % 4 = rw (← div-div-eq-div-mul c 8 4) (omega arith) in
    let half : c / 32 ≡ c / 64 * 2 + c / 32 % 2 = rw (← div-div-eq-div-mul c 32 2) (omega arith) in
    let top : c / 64 % 4 ≡ c / 64 = mod-eq_of_lt (omega arith) in
    omega arith

wide_flags : (f s : ℕ) → f < 256 → bits 0 3 f ≡ s → bits 4 1 f ≡ 0 → s + 32 * bits 5 3 f ≡ without 3 1 f
wide_flags f s h a b =
    let low : f % 8 ≡ s = rw div-one at a in
    let eighth : f / 8 ≡ f / 16 * 2 + f / 8 % 2 = rw (← div-div-eq-div-mul f 8 2) (omega arith) in
    let half : f / 16 ≡ f / 32 * 2 + f / 16 % 2 = rw (← div-div-eq-div-mul f 16 2) (omega arith) in
    let top : f / 32 % 8 ≡ f / 32 = mod-eq_of_lt (omega arith) in
    omega arith

plain_flags : (f s : ℕ) → f < 256 → bits 0 3 f ≡ s → bits 4 1 f ≡ 0 → s ≡ without 5 3 (without 3 1 f)
plain_flags f s h a b =
    let small : s < 8 = omega arith in
    rw (← wide_flags f s h a b) (omega (arith, high_bits s (bits 5 3 f) small (omega arith)))

-- the octets at n indices from i on
abbrev spelled : ℕ → ℕ → List ℕ → List ℕ
spelled zero i xs = []
spelled (suc n) i xs = octet xs i ∷ spelled n (suc i) xs

spell : (n i : ℕ) (xs : List ℕ) → i + n ≤ length xs → drop i xs ≡ spelled n i xs ++ drop (i + n) xs
spell zero i xs h = rw add-zero
spell (suc n) i xs h =
    let here : i < length xs = omega arith in
    let on : i + suc n ≡ suc i + n = omega arith in
    rw on (drop-cons xs i 0 here ∙ ap (λ (l : List ℕ). octet xs i ∷ l) (spell n (suc i) xs (omega arith)))

spelled_below : (n i : ℕ) (xs : List ℕ) → ((j : ℕ) → octet xs j < 256) → (j : ℕ) → octet (spelled n i xs) j < 256
spelled_below zero i xs b j = omega arith
spelled_below (suc n) i xs b zero = b i
spelled_below (suc n) i xs b (suc j) = spelled_below n (suc i) xs b j

-- octets of which there are exactly n
whole : (n : ℕ) (xs : List ℕ) → n ≤ length xs → length xs ≤ n → xs ≡ spelled n 0 xs
whole n xs h k =
    let start : 0 + n ≤ length xs = omega arith in
    let end : 0 + n ≡ n = zero-add n in
    spell n 0 xs start ∙ ap (λ (l : List ℕ). spelled n 0 xs ++ l) (ap (λ (m : ℕ). drop m xs) end ∙ drop_all n xs k) ∙
    append-nil (spelled n 0 xs)

module _ (xs : List ℕ) (below : (i : ℕ) → octet xs i < 256) where
  -- what is to be shown of what the octets read as in a format, and of what they say there
  abbrev Backs : Format → Result Told Fault → Type 0
  Backs φ r = IfOk r (λ (t : Told). octets_of t.message ≡ cleared_as φ xs)

  abbrev Says : Format → Result Message Fault → Type 0
  Says φ r = IfOk r (λ m. octets_of m ≡ cleared_as φ xs)

  not_surplus : (φ : Format) (r : Result Message Fault) → (length xs ≤ (extent φ).most → Says φ r) →
      Backs φ (unless_surplus φ xs r)
  not_surplus φ (Ok m) f =
      cond_both (ltb (extent φ).most (length xs)) _ _ (Backs φ) (λ _. tt) (λ short. f (ltb-false _ _ short))
  not_surplus φ (Err e) f = tt

  -- it is enough to look at octets of the right number
  settle : (φ : Format) → ((extent φ).least ≤ length xs → length xs ≤ (extent φ).most → Says φ (said φ xs)) →
      Backs φ (reading_as φ xs)
  settle φ k =
      cond_both (ltb (length xs) (extent φ).least) _ _ (Backs φ) (λ _. tt)
      (λ long. not_surplus φ (said φ xs) (k (ltb-false _ _ long)))

  -- a full address goes out as it came
  address_back : (at : ℕ) → at + 8 ≤ length xs → little 8 (value (between at (at + 8) xs)) ≡ spelled 8 at xs
  address_back at h =
      let eight : at + 8 - at ≡ 8 = omega arith in
      let e : between at (at + 8) xs ≡ spelled 8 at xs = rw eight (ap (take 8) (spell 8 at xs h)) in
      ap (λ (l : List ℕ). little 8 (value l)) e ∙ little_value (spelled 8 at xs) (spelled_below 8 at xs below)

  abbrev first : ℕ
  first = without 5 1 (octet xs 0)

  -- the five octets of a beacon that adds nothing to its header
  five : (s : State) (f : ℕ) → 5 ≤ length xs → length xs ≤ 5 → control 0 ≡ first → f ≡ cleared_flags s (octet xs 1) →
      control 0 ∷ f ∷ octet xs 2 ∷ octet xs 3 ∷ octet xs 4 ∷ [] ≡ set (set xs 0 first) 1 (cleared_flags s (octet xs 1))
  five s f long short k e =
      (λ i. k i ∷ e i ∷ octet xs 2 ∷ octet xs 3 ∷ octet xs 4 ∷ []) ∙
      sym (ap (λ (l : List ℕ). set (set l 0 first) 1 (cleared_flags s (octet xs 1))) (whole 5 xs long short))

  beacon_says : (s : State) → control 0 ≡ first → bits 0 3 (octet xs 1) ≡ state_code s → bits 4 1 (octet xs 1) ≡ 0 →
      (extent (beacon s)).least ≤ length xs → length xs ≤ (extent (beacon s)).most →
      octets_of (beacon_said s xs) ≡ cleared_as (beacon s) xs
  beacon_says online k e z long short =
      let f = plain_flags (octet xs 1) 0 (below 1) e z in
      (λ i. k i ∷ f i ∷ octet xs 2 ∷ octet xs 3 ∷ octet xs 4 ∷ octet xs 5 ∷ drop 6 xs) ∙
      sym (ap (λ (l : List ℕ). set (set l 0 first) 1 (cleared_flags online (octet xs 1))) (spell 6 0 xs long))
  beacon_says discovery k e z long short = five discovery _ long short k (wide_flags (octet xs 1) 4 (below 1) e z)
  beacon_says configuration k e z long short =
      five configuration _ long short k (wide_flags (octet xs 1) 6 (below 1) e z)
  beacon_says reset k e z long short = five reset _ long short k (plain_flags (octet xs 1) 7 (below 1) e z)

  beacon_backs : (s : State) → control 0 ≡ first → bits 0 3 (octet xs 1) ≡ state_code s →
      Backs (beacon s) (reading_as (beacon s) xs)
  beacon_backs s k e =
      settle (beacon s) (λ long short. cond_both (eqb (bits 4 1 (octet xs 1)) 0) _ _ (Says (beacon s))
      (λ z. beacon_says s k e (eqb-true _ _ z) long short) (λ _. tt))

  data_backs : control 1 ≡ first → Backs payload (reading_as payload xs)
  data_backs k =
      settle payload (λ long short. (λ i. k i ∷ drop 1 xs) ∙ sym (ap (λ (l : List ℕ). set l 0 first) (spell 1 0 xs long)))

  acknowledgment_backs : (a : Acknowledged) → control 2 ≡ first → octet xs 1 ≡ type_code a →
      Backs (acknowledgment a) (reading_as (acknowledgment a) xs)
  acknowledgment_backs a k e =
      settle (acknowledgment a) (λ long short. (λ i. k i ∷ sym e i ∷ []) ∙
      sym (ap (λ (l : List ℕ). set l 0 first) (whole 2 xs long short)))

  -- the octets in which fields stand from an index on, with each unused one zero
  abbrev spelled_as : List Field → ℕ → List ℕ
  spelled_as [] at = []
  spelled_as (address ∷ fs) at = spelled 8 at xs ++ spelled_as fs (at + 8)
  spelled_as (number ∷ fs) at = octet xs at ∷ spelled_as fs (at + 1)
  spelled_as (direction ∷ fs) at = octet xs at ∷ spelled_as fs (at + 1)
  spelled_as (unused ∷ fs) at = 0 ∷ spelled_as fs (at + 1)

  -- `g` writes what `f` says, of all fields
  abbrev Agree : (fs : List Field) → From fs Message → From fs (List ℕ) → Type 0
  Agree [] m l = octets_of m ≡ l
  Agree (address ∷ fs) f g = (n : ℕ) → Agree fs (f n) (g n)
  Agree (number ∷ fs) f g = (n : ℕ) → Agree fs (f n) (g n)
  Agree (direction ∷ fs) f g = (d : Direction) → Agree fs (f d) (g d)
  Agree (unused ∷ fs) f g = Agree fs f g

  abbrev Spells : List ℕ → Result Message Fault → Type 0
  Spells l r = IfOk r (λ m. octets_of m ≡ l)

  -- a direction that is listed goes out as it came
  direction_back : (n : ℕ) (e : Fault) (l : List ℕ) (f : Direction → Result Message Fault) →
      ((d : Direction) → direction_code d ≡ n → Spells l (f d)) → Spells l (directed (ok_or (direction_of n) e) f)
  direction_back n e l f k =
      let P : Option Direction → Type 0 = λ o. Spells l (directed (ok_or o e) f) in
      cond_both (eqb n 0) _ _ P (λ z. k directions.Uplink (sym (eqb-true n 0 z)))
      (λ _. cond_both (eqb n 1) _ _ P (λ z. k directions.Bidirectional (sym (eqb-true n 1 z))) (λ _. tt))

  -- fields go out as they came
  fields_back : (fs : List Field) (at : ℕ) (f : From fs Message) (front : List ℕ) →
      Agree fs f (written fs front) → at + fields_length fs ≤ length xs →
      Spells (front ++ spelled_as fs at) (said_by fs at xs f)
  fields_back [] at f front a h = a ∙ sym (append-nil front)
  fields_back (address ∷ fs) at f front a h =
      let n = value (between at (at + 8) xs) in
      let same = ap (λ (l : List ℕ). (front ++ l) ++ spelled_as fs (at + 8)) (address_back at (omega arith)) in
      subst (λ (l : List ℕ). Spells l (said_by fs (at + 8) xs (f n)))
      (same ∙ append_assoc front (spelled 8 at xs) (spelled_as fs (at + 8)))
      (fields_back fs (at + 8) (f n) (front ++ little 8 n) (a n) (omega arith))
  fields_back (number ∷ fs) at f front a h =
      let n = octet xs at in
      subst (λ (l : List ℕ). Spells l (said_by fs (at + 1) xs (f n)))
      (append_assoc front (n ∷ []) (spelled_as fs (at + 1)))
      (fields_back fs (at + 1) (f n) (front ++ n ∷ []) (a n) (omega arith))
  fields_back (direction ∷ fs) at f front a h =
      direction_back (octet xs at) _ _ _ (λ d e.
      subst (λ (l : List ℕ). Spells l (said_by fs (at + 1) xs (f d)))
      (append_assoc front (direction_code d ∷ []) (spelled_as fs (at + 1)) ∙
      ap (λ (n : ℕ). front ++ n ∷ spelled_as fs (at + 1)) e)
      (fields_back fs (at + 1) (f d) (front ++ direction_code d ∷ []) (a d) (omega arith)))
  fields_back (unused ∷ fs) at f front a h =
      subst (λ (l : List ℕ). Spells l (said_by fs (at + 1) xs f))
      (append_assoc front (0 ∷ []) (spelled_as fs (at + 1)))
      (fields_back fs (at + 1) f (front ++ 0 ∷ []) a (omega arith))

  agree : (o : Order) → Agree (fields o) (message_from o) (command_octets o)
  agree discover_response = λ _ _ _. refl
  agree configuration_status = λ _ _ _ _ _ _. refl
  agree configuration_request = λ _ _ _ _ _ _ _ _ _ _. refl

  -- the whole of a command but for its free bits
  rebuilt : (o : Order) → (extent (command o)).least ≤ length xs → length xs ≤ (extent (command o)).most →
      first ∷ octet xs 1 ∷ spelled_as (fields o) coded_head ≡ cleared_of (fields o) coded_head (set xs 0 first)
  rebuilt discover_response h k = sym (ap (λ (l : List ℕ). set l 0 first) (whole _ xs h k))
  rebuilt configuration_status h k = sym (ap (λ (l : List ℕ). set l 0 first) (whole _ xs h k))
  rebuilt configuration_request h k = sym (ap (λ (l : List ℕ). set (set l 0 first) 12 0) (whole _ xs h k))

  command_says : (o : Order) → control 3 ≡ first → octet xs 1 ≡ identifier o → (extent (command o)).least ≤ length xs →
      length xs ≤ (extent (command o)).most → Says (command o) (said (command o) xs)
  command_says o k e long short =
      let behind = spelled_as (fields o) coded_head in
      let start : control 3 ∷ identifier o ∷ behind ≡ first ∷ octet xs 1 ∷ behind = (λ i. k i ∷ sym e i ∷ behind) in
      subst (λ (l : List ℕ). Spells l (said (command o) xs)) (start ∙ rebuilt o long short)
      (fields_back (fields o) coded_head (message_from o) (control 3 ∷ identifier o ∷ []) (agree o) long)

  command_backs : (o : Order) → control 3 ≡ first → octet xs 1 ≡ identifier o →
      Backs (command o) (reading_as (command o) xs)
  command_backs o k e = settle (command o) (command_says o k e)

  abbrev ReadBack : Format → Type 0
  ReadBack φ = Backs φ (reading_as φ xs)

  states : control 0 ≡ first → ReadBack (beacon_format (state_of (bits 0 3 (octet xs 1))))
  states k =
      let n = bits 0 3 (octet xs 1) in
      let P : Option State → Type 0 = λ o. ReadBack (beacon_format o) in
      cond_both _ _ _ P (λ e. beacon_backs online k (eqb-true _ _ e))
      (λ _. cond_both _ _ _ P (λ e. beacon_backs discovery k (eqb-true _ _ e))
      (λ _. cond_both _ _ _ P (λ e. beacon_backs configuration k (eqb-true _ _ e))
      (λ _. cond_both _ _ _ P (λ e. beacon_backs reset k (eqb-true _ _ e)) (λ _. settle unlisted_state (λ _ _. tt)))))

  types : control 2 ≡ first → ReadBack (acknowledgment_format (acknowledged_of (octet xs 1)))
  types k =
      let n = octet xs 1 in
      let P : Option Acknowledged → Type 0 = λ o. ReadBack (acknowledgment_format o) in
      cond_both _ _ _ P (λ e. acknowledgment_backs acknowledged.Data k (eqb-true _ _ e))
      (λ _. cond_both _ _ _ P (λ e. acknowledgment_backs acknowledged.DiscoverResponse k (eqb-true _ _ e))
      (λ _. cond_both _ _ _ P (λ e. acknowledgment_backs acknowledged.ConfigurationRequest k (eqb-true _ _ e))
      (λ _. settle unlisted_type (λ _ _. tt))))

  orders : control 3 ≡ first → ReadBack (command_format (order_of (octet xs 1)))
  orders k =
      let n = octet xs 1 in
      let P : Option Order → Type 0 = λ o. ReadBack (command_format o) in
      cond_both _ _ _ P (λ e. command_backs discover_response k (eqb-true _ _ e))
      (λ _. cond_both _ _ _ P (λ e. command_backs configuration_status k (eqb-true _ _ e))
      (λ _. cond_both _ _ _ P (λ e. command_backs configuration_request k (eqb-true _ _ e))
      (λ _. settle unlisted_identifier (λ _ _. tt))))

  formats : bits 0 3 (octet xs 0) ≡ 4 → bits 3 2 (octet xs 0) ≡ 0 → ReadBack (format_in xs)
  formats lldn free =
      let c = octet xs 0 in
      let n = bits 6 2 c in
      let small : n < 4 = omega arith in
      cond_both (eqb n 0) _ _ ReadBack (λ e. states (control_is c 0 (below 0) lldn free (eqb-true n 0 e)))
      (λ n0. cond_both (eqb n 1) _ _ ReadBack (λ e. data_backs (control_is c 1 (below 0) lldn free (eqb-true n 1 e)))
      (λ n1. cond_both (eqb n 2) _ _ ReadBack (λ e. types (control_is c 2 (below 0) lldn free (eqb-true n 2 e)))
      (λ n2. orders (control_is c 3 (below 0) lldn free
      (last n small (eqb-false n 0 n0) (eqb-false n 1 n1) (eqb-false n 2 n2))))))
    where
      last : (n : ℕ) → n < 4 → (n ≡ 0 → ⊥) → (n ≡ 1 → ⊥) → (n ≡ 2 → ⊥) → n ≡ 3
      last n h a b d = omega arith

  pub written_back : WrittenBack xs (reading xs)
  written_back =
      cond_both (eqb (length xs) 0) _ _ (WrittenBack xs) (λ _. tt)
      (λ _. cond_both (not (eqb (bits 0 3 (octet xs 0)) 4)) _ _ (WrittenBack xs) (λ _. tt)
      (λ lldn. cond_both (not (eqb (bits 3 2 (octet xs 0)) 0)) _ _ (WrittenBack xs) (λ _. tt)
      (λ free. formats (eqb-true _ _ (not-false _ lldn)) (eqb-true _ _ (not-false _ free)))))
