-- What is reported of a line of a capture.
use Rattle.std.specs.Prelude.{ℕ, List, ◌++◌, Some, None, Ok, Err, codes, Option, Result}
use Rattle.frame.specs.declared.faults.Fault.{Fault}
use Rattle.frame.specs.declared.frames.Frame.{Frame}
use Rattle.frame.specs.Formats.{Told, reading}
use Rattle.frame.specs.Refusals.{fault_text}
use Rattle.frame.specs.Views.{told}
use Rattle.hexadecimal.specs.LineOf.{LineTold, skipped, not_octets, these_octets}
use Rattle.capture.specs.declared.report.Report.{Report}
use Rattle.capture.specs.declared.report.Report.TheVariants as report
use Rattle.capture.specs.FrameTexts.{frame_text}

-- a report: the line is no octets, or its octets read as this
pub data Reported : Type 0 where
  unreadable : Reported
  answered : Result Told Fault → Reported

-- what is reported of a line: nothing where it is skipped, and else what all of its octets read as
abbrev pub reported : LineTold → Option Reported
reported skipped = None
reported not_octets = Some unreadable
reported (these_octets xs) = Some (answered (reading xs))

abbrev pub report_seen : Report → Reported
report_seen report.NotOctets = unreadable
report_seen (report.Refused e) = answered (Err e)
report_seen (report.Sound f) = answered (Ok (told f))

-- the report of octets, from what they read as
abbrev pub report_from : Result Frame Fault → Report
report_from (Ok f) = report.Sound f
report_from (Err e) = report.Refused e

-- a report as text
abbrev pub report_text : Report → List ℕ
report_text report.NotOctets = codes "not octets"
report_text (report.Refused e) = codes "refused " ++ fault_text e
report_text (report.Sound f) = frame_text f
