-- The list of refusals. Every contract that speaks of a refusal goes through `listed`, mostly by `fault`.
use Rattle.std.specs.Prelude.{ℕ, List, ◌++◌, codes, decimal}
use Rattle.frame.specs.declared.faults.Fault.{Fault}
use Rattle.frame.specs.declared.faults.Layer.{Layer}
use Rattle.frame.specs.declared.faults.Layer.TheVariants as layer
use Rattle.frame.specs.declared.faults.Refusal.{Refusal}
use Rattle.frame.specs.declared.faults.Refusal.TheVariants as refusal

-- what the list says of a refusal: its number, the layer in which it arises, and the text of its name
pub record Listed : Type 0 where
  pub number : ℕ
  pub layer : Layer
  pub name : List ℕ

abbrev pub listed : Refusal → Listed
listed refusal.Plan = record { number = 1; layer = layer.Plan; name = codes "Plan" }
listed refusal.Superframe = record { number = 2; layer = layer.End; name = codes "Superframe" }
listed refusal.Mode = record { number = 3; layer = layer.End; name = codes "Mode" }
listed refusal.Timeslot = record { number = 4; layer = layer.End; name = codes "Timeslot" }
listed refusal.Late = record { number = 5; layer = layer.End; name = codes "Late" }
listed refusal.Nobody = record { number = 6; layer = layer.End; name = codes "Nobody" }
listed refusal.Empty = record { number = 7; layer = layer.Frame; name = codes "Empty" }
listed refusal.Foreign = record { number = 8; layer = layer.Frame; name = codes "Foreign" }
listed refusal.Reserved = record { number = 9; layer = layer.Frame; name = codes "Reserved" }
listed refusal.Short = record { number = 10; layer = layer.Frame; name = codes "Short" }
listed refusal.Kind = record { number = 11; layer = layer.Frame; name = codes "Kind" }
listed refusal.Surplus = record { number = 12; layer = layer.Frame; name = codes "Surplus" }
listed refusal.Unwanted = record { number = 13; layer = layer.End; name = codes "Unwanted" }
listed refusal.Stranger = record { number = 14; layer = layer.End; name = codes "Stranger" }
listed refusal.Misfit = record { number = 15; layer = layer.End; name = codes "Misfit" }
listed refusal.Cargo = record { number = 16; layer = layer.Cargo; name = codes "Cargo" }
listed refusal.Waiting = record { number = 17; layer = layer.End; name = codes "Waiting" }
listed refusal.Size = record { number = 18; layer = layer.End; name = codes "Size" }
listed refusal.Space = record { number = 19; layer = layer.End; name = codes "Space" }

-- a refusal at a place, with its own layer
abbrev pub fault : Refusal → ℕ → Fault
fault r place = record { refusal = r; place = place; layer = (listed r).layer }

-- the text of a layer's name
abbrev pub layer_name : Layer → List ℕ
layer_name layer.Plan = codes "plan"
layer_name layer.Frame = codes "frame"
layer_name layer.Cargo = codes "cargo"
layer_name layer.End = codes "end"

-- a number, the name of a refusal, a place and a layer as text
abbrev pub fault_parts : ℕ → Refusal → ℕ → Layer → List ℕ
fault_parts number r place l =
    decimal number ++
    (codes " " ++ ((listed r).name ++ (codes " at " ++ (decimal place ++ (codes " in " ++ layer_name l)))))

-- a fault as text: `10 Short at 2 in frame`
abbrev pub fault_text : Fault → List ℕ
fault_text f = fault_parts (listed f.refusal).number f.refusal f.place f.layer
