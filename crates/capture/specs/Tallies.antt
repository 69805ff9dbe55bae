-- The tally of a capture.
use Rattle.std.specs.Prelude.{ℕ, ◌+◌, ◌-◌, ◌^◌, min, List, ◌++◌, codes, decimal}
use Rattle.capture.specs.declared.report.Report.{Report}
use Rattle.capture.specs.declared.report.Report.TheVariants as report
use Rattle.capture.specs.declared.tally.Tally.{Tally}

-- a sum that stops at the largest number of 64 bits
abbrev pub capped : ℕ → ℕ → ℕ
capped a b = min (a + b) (2 ^ 64 - 1)

abbrev pub nothing : Tally
nothing = record { sound = 0; refused = 0; unreadable = 0 }

-- a tally and one report more
abbrev pub counted : Tally → Report → Tally
counted t report.NotOctets = record { sound = t.sound; refused = t.refused; unreadable = capped t.unreadable 1 }
counted t (report.Refused e) = record { sound = t.sound; refused = capped t.refused 1; unreadable = t.unreadable }
counted t (report.Sound f) = record { sound = capped t.sound 1; refused = t.refused; unreadable = t.unreadable }

-- a tally as text; every frame is either sound or refused
abbrev pub tally_text : Tally → List ℕ
tally_text t =
    decimal (capped t.sound t.refused) ++
    (codes " frames: " ++ (decimal t.sound ++ (codes " sound, " ++ (decimal t.refused ++ (codes " refused; " ++
    (decimal t.unreadable ++ codes " lines not octets"))))))
