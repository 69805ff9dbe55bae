-- The octets that are kept of a line tell what the whole line reads as.
use Rattle.std.proofs.Common.{◌≡◌, ℕ, List, take, Some, Ok, Err, Option, Result, sym, refl, ap, ◌∙◌, arith}
use Rattle.frame.specs.declared.faults.Fault.{Fault}
use Rattle.frame.specs.declared.frames.Frame.{Frame}
use Rattle.frame.specs.Formats.{reading}
use Rattle.frame.specs.Views.{seen}
use Rattle.frame.proofs.LongOctets.{told_by_start}
use Rattle.hexadecimal.specs.LineOf.{LineTold, skipped, not_octets, these_octets, kept}
use Rattle.capture.specs.Reports.{Reported, answered, reported, report_from, report_seen}

pub whole_line : (line : LineTold) (ys : List ℕ) → these_octets ys ≡ kept line →
    ◌≡◌ {A = Option Reported} (Some (answered (reading ys))) (reported line)
whole_line skipped ys e = let z : ◌≡◌ {A = ℕ} 0 1 = cc in absurd (omega arith)
whole_line not_octets ys e = let z : ◌≡◌ {A = ℕ} 0 1 = cc in absurd (omega arith)
whole_line (these_octets xs) ys e =
    let same : ys ≡ take 126 xs = cc in
    ap (λ (l : List ℕ). Some (answered (reading l))) same ∙ ap (λ r. Some (answered r)) (sym (told_by_start xs))

pub seen_from : (answer : Result Frame Fault) → report_seen (report_from answer) ≡ answered (seen answer)
seen_from (Ok f) = refl
seen_from (Err e) = refl
