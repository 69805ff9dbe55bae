-- What a line is follows from the place where its reader stands.
use Rattle.std.proofs.Common.{ap, ◌∙◌, inl, inr}
use Rattle.hexadecimal.specs.declared.line.Progress.TheVariants.{Whole, Half, WholeReturn, Broken}
use Rattle.hexadecimal.specs.LineOf.{these_octets}
use Rattle.hexadecimal.proofs.LineFromProgress.{told_there}
use Rattle.hexadecimal.proofs.line.HexLine.told.Goals as goal

pub returns-in-Whole : goal.returns-in-Whole
returns-in-Whole c t h =
    let line = c.args.self.now in
    ap these_octets (c.as_slice.ensures.value ∙ h.keeps) ∙
    elim c.in-Whole.is [ inl e ↦ told_there line t h Whole e | inr e ↦ told_there line t h WholeReturn e ]

pub returns-in-Half : goal.returns-in-Half
returns-in-Half c t h =
    let line = c.args.self.now in
    elim c.in-Half.is [ inl e ↦ told_there line t h (Half e.0) e.1 | inr e ↦ told_there line t h Broken e ]
