-- How the octets of a text go on where more text follows.
use Rattle.std.proofs.Common.{◌≡◌, ℕ, Bool, true, false, not, eqb, List, [], ◌∷◌, ◌++◌, is_some, Some, None, Option}
use Rattle.std.proofs.Common.{sym, refl, ap, ◌∙◌, inl, inr}
use Rattle.std.proofs.lemmas.Bool.{cases_Bool, cond-true, cond-false, ne_eqb, not-true, false≢true, true≢false}
use Rattle.hexadecimal.specs.Grammar.{digit_value, octet_from, octet_of, before, octets_in}
use Rattle.hexadecimal.specs.LineOf.{without_return, by_octets, told_by}
use Rattle.hexadecimal.specs.Reading.{is_empty}

pub is_more : (u : List ℕ) (byte : ℕ) → is_empty (u ++ byte ∷ []) ≡ false
is_more [] byte = refl
is_more (b ∷ r) byte = refl

-- octets before those that a text spells
abbrev pub joined : List ℕ → Option (List ℕ) → Option (List ℕ)
joined front None = None
joined front (Some rest) = Some (front ++ rest)

joined_none : (o : Option (List ℕ)) → joined [] o ≡ o
joined_none None = refl
joined_none (Some rest) = refl

before_joined : (x : ℕ) (xs : List ℕ) (o : Option (List ℕ)) → before (Some x) (joined xs o) ≡ joined (x ∷ xs) o
before_joined x xs None = refl
before_joined x xs (Some rest) = refl

some_none : {A : Type 0} (x : A) → ◌≡◌ {A = Option A} None (Some x) → ⊥
some_none x e = false≢true (ap is_some e)

-- an octet and others were spelled, if a list was
abbrev Parted : Option ℕ → Option (List ℕ) → List ℕ → Type 0
Parted o p spelled = (x : ℕ) × (xs : List ℕ) × (o ≡ Some x) × (p ≡ Some xs) × (spelled ≡ x ∷ xs)

parted : (o : Option ℕ) (p : Option (List ℕ)) (spelled : List ℕ) → before o p ≡ Some spelled → Parted o p spelled
parted None p spelled e = absurd (some_none spelled e)
parted (Some x) None spelled e = absurd (some_none spelled e)
parted (Some x) (Some xs) spelled e = (x, xs, refl, refl, cc)

pub space_passes : (byte : ℕ) (v : List ℕ) → eqb byte 32 ≡ true → octets_in (byte ∷ v) ≡ octets_in v
space_passes byte [] e = cond-true _ _ _ e
space_passes byte (n ∷ r) e = cond-true _ _ _ e

pub spells_append : (u v spelled : List ℕ) → octets_in u ≡ Some spelled →
    octets_in (u ++ v) ≡ joined spelled (octets_in v)
spells_append [] v spelled h = let z : spelled ≡ [] = cc in rw z (sym (joined_none (octets_in v)))
spells_append (b ∷ []) v spelled h =
    elim (cases_Bool (eqb b 32)) [
      | inl e ↦
          let s : octets_in (b ∷ v) ≡ octets_in v = space_passes b v e in
          let k : Some [] ≡ Some spelled = sym (cond-true (eqb b 32) (Some []) None e) ∙ h in
          let z : spelled ≡ [] = cc in
          rw z (s ∙ sym (joined_none (octets_in v)))
      | inr e ↦ absurd (some_none spelled (sym (cond-false (eqb b 32) (Some []) None e) ∙ h))
    ]
spells_append (b ∷ n ∷ r) v spelled h =
    elim (cases_Bool (eqb b 32)) [
      | inl e ↦
          cond-true (eqb b 32) (octets_in (n ∷ (r ++ v))) _ e ∙
          spells_append (n ∷ r) v spelled (sym (cond-true (eqb b 32) (octets_in (n ∷ r)) _ e) ∙ h)
      | inr e ↦
          let p =
          parted (octet_of b n) (octets_in r) spelled (sym (cond-false (eqb b 32) (octets_in (n ∷ r)) _ e) ∙ h) in
          let go : octets_in (r ++ v) ≡ joined p.1 (octets_in v) = spells_append r v p.1 p.3 in
          cond-false (eqb b 32) (octets_in (n ∷ (r ++ v))) _ e ∙
          ap (λ o. before o (octets_in (r ++ v))) p.2 ∙
          ap (before (Some p.0)) go ∙
          before_joined p.0 p.1 (octets_in v) ∙
          ap (λ l. joined l (octets_in v)) (sym p.4)
    ]

-- a digit is not the byte k, where k is none
pub digit_not : (byte k : ℕ) → is_some (digit_value byte) ≡ true → digit_value k ≡ None → eqb byte k ≡ false
digit_not byte k h n =
    ne_eqb byte k (λ e. false≢true (ap is_some (sym n) ∙ ap (λ x. is_some (digit_value x)) (sym e) ∙ h))

-- a byte that is neither a space nor a digit spells nothing, whatever follows
pub stops : (byte : ℕ) (v : List ℕ) → eqb byte 32 ≡ false → digit_value byte ≡ None → octets_in (byte ∷ v) ≡ None
stops byte [] e n = cond-false _ _ _ e
stops byte (next ∷ rest) e n =
    cond-false (eqb byte 32) (octets_in (next ∷ rest)) (before (octet_of byte next) (octets_in rest)) e ∙
    ap (λ d. before (octet_from d (digit_value next)) (octets_in rest)) n

-- nor do two bytes that make no octet
pub no_octet : (first second : ℕ) (v : List ℕ) → eqb first 32 ≡ false → octet_of first second ≡ None →
    octets_in (first ∷ second ∷ v) ≡ None
no_octet first second v e n =
    cond-false (eqb first 32) (octets_in (second ∷ v)) (before (octet_of first second) (octets_in v)) e ∙
    ap (λ o. before o (octets_in v)) n

-- two digits of an octet are digits
octet_digits : (a b : Option ℕ) (x : ℕ) → octet_from a b ≡ Some x → (is_some a ≡ true) × (is_some b ≡ true)
octet_digits None b x e = absurd (some_none x e)
octet_digits (Some high) None x e = absurd (some_none x e)
octet_digits (Some high) (Some low) x e = (refl, refl)

-- a carriage return goes only from the end
pub return_after : (u : List ℕ) (byte : ℕ) (v : List ℕ) →
    without_return (u ++ byte ∷ v) ≡ u ++ without_return (byte ∷ v)
return_after [] byte v = refl
return_after (b ∷ []) byte v = refl
return_after (b ∷ n ∷ r) byte v = ap (λ l. b ∷ l) (return_after (n ∷ r) byte v)

pub stays : (byte : ℕ) (v : List ℕ) → eqb byte 13 ≡ false → without_return (byte ∷ v) ≡ byte ∷ without_return v
stays byte [] e = cond-false _ _ _ e
stays byte (next ∷ rest) e = refl

-- a text that spells octets ends with no carriage return
pub no_return : (u spelled : List ℕ) → octets_in u ≡ Some spelled → without_return u ≡ u
no_return [] spelled h = refl
no_return (b ∷ []) spelled h =
    let ne : b ≡ 13 → ⊥ = λ z. some_none spelled (ap (λ x. octets_in (x ∷ [])) (sym z) ∙ h) in
    stays b [] (ne_eqb b 13 ne)
no_return (b ∷ n ∷ r) spelled h =
    elim (cases_Bool (eqb b 32)) [
      | inl e ↦ ap (λ l. b ∷ l) (no_return (n ∷ r) spelled (sym (cond-true (eqb b 32) (octets_in (n ∷ r)) _ e) ∙ h))
      | inr e ↦
          let p =
          parted (octet_of b n) (octets_in r) spelled (sym (cond-false (eqb b 32) (octets_in (n ∷ r)) _ e) ∙ h) in
          let d = octet_digits (digit_value b) (digit_value n) p.0 p.2 in
          let ne = digit_not n 13 d.1 refl in
          ap (λ l. b ∷ l) (stays n r ne ∙ ap (λ l. n ∷ l) (no_return r p.1 p.3))
    ]

-- the text is not empty, and no comment
abbrev pub plain : List ℕ → Bool
plain [] = false
plain (byte ∷ rest) = not (eqb byte 35)

pub plain_front : (u v spelled : List ℕ) → is_empty u ≡ false → octets_in u ≡ Some spelled → plain (u ++ v) ≡ true
plain_front [] v spelled f h = absurd (true≢false f)
plain_front (b ∷ r) v spelled f h =
    let none : (w : List ℕ) → octets_in (35 ∷ w) ≡ None = λ w. stops 35 w refl refl in
    let ne : b ≡ 35 → ⊥ = λ z. some_none spelled (sym (none r) ∙ ap (λ x. octets_in (x ∷ r)) (sym z) ∙ h) in
    ap not (ne_eqb b 35 ne)

pub plain_mid : (u : List ℕ) (byte : ℕ) (v spelled : List ℕ) → octets_in u ≡ Some spelled → eqb byte 35 ≡ false →
    plain (u ++ byte ∷ v) ≡ true
plain_mid [] byte v spelled h e = ap not e
plain_mid (b ∷ r) byte v spelled h e = plain_front (b ∷ r) (byte ∷ v) spelled refl h

told_plain : (t : List ℕ) → plain t ≡ true → told_by t ≡ by_octets (octets_in t)
told_plain [] p = absurd (false≢true p)
told_plain (b ∷ r) p = cond-false (eqb b 35) _ _ (not-true (eqb b 35) p)

-- what a line is that goes on after whole octets
pub tells : (u v spelled : List ℕ) → octets_in u ≡ Some spelled → plain (u ++ v) ≡ true →
    told_by (u ++ v) ≡ by_octets (joined spelled (octets_in v))
tells u v spelled h p = told_plain (u ++ v) p ∙ ap by_octets (spells_append u v spelled h)
