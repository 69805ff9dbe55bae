use Rattle.std.proofs.Common.{Some, ap, ◌∙◌}
use Rattle.hexadecimal.specs.LineOf.{line_of}
use Rattle.capture.specs.Reports.{Reported, report_seen, answered}
use Rattle.capture.proofs.KeptOctetsTellLine.{whole_line, seen_from}
use Rattle.capture.proofs.report.Report.of.Goals as goal

pub returns-in-Ok-Some : goal.returns-in-Ok-Some
returns-in-Ok-Some c t read =
    let these = rw c.in-Ok-Some.field-0-is at c.in-Ok-Some.ensures t read in
    ap (λ r. Some (report_seen r)) c.from.ensures ∙ ap (λ (r : Reported). Some r) (seen_from c.read.result) ∙
    ap (λ r. Some (answered r)) c.read.ensures.answer ∙ whole_line (line_of t) _ these
