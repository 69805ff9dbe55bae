-- One byte more leads from one place to the next.
use Rattle.std.proofs.Common.{◌≡◌, ℕ, List, [], ◌∷◌, ◌++◌, take, sym, ap, ◌∙◌, subst, inl, inr}
use Rattle.hexadecimal.specs.declared.line.Progress.{Progress}
use Rattle.hexadecimal.specs.declared.line.Progress.TheVariants.{Half, LoneReturn, WholeReturn, Broken}
use Rattle.hexadecimal.specs.declared.line.HexLine.{HexLine}
use Rattle.hexadecimal.specs.Reading.{Read, Stands}
use Rattle.hexadecimal.proofs.OneByteMore.{octet_on, half_broken, lone_broken, whole_broken, still_broken}
use Rattle.hexadecimal.proofs.FirstOctetsKept.{take_again}
use Rattle.hexadecimal.proofs.line.HexLine.push.Goals as goal

-- what was read, by the place
at : (line : HexLine) (text : List ℕ) (h : Read line text) (place : Progress) → line.progress ≡ place →
    Stands place text h.spelled
at line text h place e = subst (λ p. Stands p text h.spelled) e h.stands

pub returns-in-Some : goal.returns-in-Some
returns-in-Some c t h =
    let line = c.args.self.now in
    let octet = c.in-Some.octet in
    let first = c.in-Half.first in
    record {
      spelled = h.spelled ++ octet ∷ [];
      stands =
          octet_on t h.spelled first c.args.byte octet (at line t h (Half first) c.in-Half.is)
          (sym c.octet_of.ensures ∙ c.in-Some.is);
      keeps =
          c.keep.ensures.stores ∙ ap (λ l. take 126 (l ++ octet ∷ [])) h.keeps ∙ take_again 126 h.spelled (octet ∷ []);
    }

pub returns-in-None : goal.returns-in-None
returns-in-None c t h =
    let line = c.args.self.now in
    let first = c.in-Half.first in
    record {
      spelled = h.spelled;
      stands =
          half_broken t h.spelled first c.args.byte (at line t h (Half first) c.in-Half.is)
          (sym c.octet_of.ensures ∙ c.in-None.is);
      keeps = h.keeps;
    }

pub returns-in-LoneReturn : goal.returns-in-LoneReturn
returns-in-LoneReturn c t h =
    let line = c.args.self.now in
    let s = h.spelled in
    let byte = c.args.byte in
    record {
      spelled = s;
      stands = elim c.in-LoneReturn.is [
        | inl e ↦ lone_broken t s byte (at line t h LoneReturn e)
        | inr r ↦
            elim r [
              | inl e ↦ whole_broken t s byte (at line t h WholeReturn e)
              | inr e ↦ still_broken t s byte (at line t h Broken e)
            ]
      ];
      keeps = h.keeps;
    }
