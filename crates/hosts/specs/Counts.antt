-- How accepted cargoes and fates are counted.
use Rattle.std.specs.Prelude.{ℕ, ◌+◌, min, List, ◌++◌, codes, decimal, Some, None, Ok, Err, Option, Result}
use Rattle.frame.specs.declared.faults.Fault.{Fault}
use Rattle.device.specs.declared.fate.Fate.{Fate}
use Rattle.device.specs.declared.fate.Fate.TheVariants as fate
use Rattle.hosts.specs.declared.fate_counts.FateCounts.{FateCounts}

-- no count yet
abbrev pub no_counts : FateCounts
no_counts = record { accepted = 0; confirmed = 0; repeated = 0; lost = 0; unknown = 0 }

-- one more; the greatest count stays
abbrev pub raised : ℕ → ℕ
raised n = min (n + 1) 4294967295

-- one more accepted cargo
abbrev pub with_accepted : FateCounts → FateCounts
with_accepted c = record c { accepted = raised c.accepted }

-- one more of a fate, if one was told
abbrev pub with_fate : Option Fate → FateCounts → FateCounts
with_fate (Some fate.Confirmed) c = record c { confirmed = raised c.confirmed }
with_fate (Some fate.Repeated) c = record c { repeated = raised c.repeated }
with_fate (Some fate.Lost) c = record c { lost = raised c.lost }
with_fate (Some fate.Unknown) c = record c { unknown = raised c.unknown }
with_fate None c = c

-- the same by what a beacon was answered
abbrev pub with_told : Result (Option Fate) Fault → FateCounts → FateCounts
with_told (Ok told) c = with_fate told c
with_told (Err f) c = c

-- the counts as text
abbrev pub counts_text : FateCounts → List ℕ
counts_text c =
    codes "accepted " ++ (decimal c.accepted ++ (codes " Confirmed " ++ (decimal c.confirmed ++
    (codes " Repeated " ++ (decimal c.repeated ++ (codes " Lost " ++ (decimal c.lost ++
    (codes " Unknown " ++ decimal c.unknown))))))))
