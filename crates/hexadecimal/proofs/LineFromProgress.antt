-- What a line is that ends where a reader stands.
use Rattle.std.proofs.Common.{◌≡◌, ℕ, false, List, [], ◌∷◌, ◌++◌, Some, None, sym, refl, ap, ◌∙◌}
use Rattle.std.proofs.Common.{append-nil}
use Rattle.hexadecimal.specs.declared.line.Progress.{Progress}
use Rattle.hexadecimal.specs.declared.line.Progress.TheVariants.{Untouched, Comment, Whole, Half, LoneReturn}
use Rattle.hexadecimal.specs.declared.line.Progress.TheVariants.{WholeReturn, Broken}
use Rattle.hexadecimal.specs.declared.line.HexLine.{HexLine}
use Rattle.hexadecimal.specs.Grammar.{octets_in}
use Rattle.hexadecimal.specs.LineOf.{LineTold, skipped, not_octets, these_octets, by_octets, told_by, line_of, kept}
use Rattle.hexadecimal.specs.Reading.{is_empty, Stands, Read}
use Rattle.hexadecimal.proofs.OctetsOfLongerText.{joined, digit_not, return_after, stays, no_return}
use Rattle.hexadecimal.proofs.OctetsOfLongerText.{plain_front, plain_mid, tells}

-- the answer at each place
abbrev pub answer : Progress → List ℕ → LineTold
answer Untouched spelled = skipped
answer Comment spelled = skipped
answer Whole spelled = these_octets spelled
answer (Half first) spelled = not_octets
answer LoneReturn spelled = skipped
answer WholeReturn spelled = these_octets spelled
answer Broken spelled = not_octets

comment : (rest : List ℕ) → line_of (35 ∷ rest) ≡ skipped
comment [] = refl
comment (next ∷ rest) = refl

whole : (u spelled : List ℕ) → is_empty u ≡ false → octets_in u ≡ Some spelled → told_by u ≡ these_octets spelled
whole u spelled f h =
    let p = tells u [] spelled h (plain_front u [] spelled f h) in
    ap told_by (sym (append-nil u)) ∙ p ∙ ap these_octets (append-nil spelled)

pub told_at : (place : Progress) (text spelled : List ℕ) → Stands place text spelled →
    line_of text ≡ answer place spelled
told_at Untouched text spelled h = ap line_of h.0
told_at Comment text spelled h = ap line_of h.1 ∙ comment h.0
told_at Whole text spelled h = ap told_by (no_return text spelled h.1) ∙ whole text spelled h.0 h.1
told_at (Half first) text spelled h =
    let front = h.0 in
    let cr = digit_not first 13 h.2 refl in
    let hash = digit_not first 35 h.2 refl in
    let space = digit_not first 32 h.2 refl in
    let alone : octets_in (first ∷ []) ≡ None = rw space in
    ap line_of h.1 ∙
    ap told_by (return_after front first [] ∙ ap (λ l. front ++ l) (stays first [] cr)) ∙
    tells front (first ∷ []) spelled h.3 (plain_mid front first [] spelled h.3 hash) ∙
    ap (λ o. by_octets (joined spelled o)) alone
told_at LoneReturn text spelled h = ap line_of h
told_at WholeReturn text spelled h =
    let front = h.0 in
    ap line_of h.1 ∙ ap told_by (return_after front 13 [] ∙ append-nil front) ∙ whole front spelled h.2 h.3
told_at Broken text spelled h = ap line_of (sym (append-nil text)) ∙ h []

-- what a reader tells, from the place where it stands
pub told_there : (line : HexLine) (text : List ℕ) (h : Read line text) (place : Progress) → line.progress ≡ place →
    kept (answer place h.spelled) ≡ kept (line_of text)
told_there line text h place e =
    sym (ap kept (told_at line.progress text h.spelled h.stands) ∙ ap (λ p. kept (answer p h.spelled)) e)
