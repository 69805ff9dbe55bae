-- Known examples, as one list of claims over the definitions that the contracts of the other crates cite.
use Rattle.std.specs.Prelude.{◌≡◌, ℕ, Bool, true, false, List, [], ◌∷◌, take, ℤ, negsuc, Some, None, Err, Option, Result}
use Rattle.frame.specs.declared.faults.Fault.{Fault}
use Rattle.frame.specs.declared.faults.Layer.{Layer}
use Rattle.frame.specs.declared.faults.Layer.TheVariants as layer
use Rattle.frame.specs.declared.faults.Refusal.{Refusal}
use Rattle.frame.specs.declared.faults.Refusal.TheVariants as refusal
use Rattle.frame.specs.Formats.{reading}
use Rattle.frame.specs.Messages.{online, octets_of}
use Rattle.frame.specs.Refusals.{fault, listed}
use Rattle.plan.specs.declared.grant.Grant.{Grant}
use Rattle.plan.specs.declared.numbers.Numbers.{Numbers}
use Rattle.plan.specs.Rules.{bitmap_octets}
use Rattle.times.specs.Symbols.{timeslot_symbols}
use Rattle.repeats.specs.Bitmaps.{nothing_heard, marked_with}
use Rattle.repeats.specs.Starts.{repeat_start}
use Rattle.cargo.specs.declared.panel.Panel.{Panel}
use Rattle.cargo.specs.Images.{Reads}
use Rattle.cargo.specs.Inputs.{panel_image}
use Rattle.cargo.specs.Panels.{image_of, ImagesNone}
use Rattle.cargo.specs.Readings.{reading_image}
use Rattle.coordinator.specs.Frames.{header_of, beacon_in, configuration_for}
use Rattle.device.specs.declared.fate.Fate.{Fate}
use Rattle.device.specs.declared.fate.Fate.TheVariants as fate
use Rattle.device.specs.Beacons.{Beacon}
use Rattle.device.specs.Fates.{fate_by}

-- a refusal as an example tells it: which one, its number in the list, the place and the layer
pub record Refused : Type 0 where
  pub refusal : Refusal
  pub number : ℕ
  pub place : ℕ
  pub layer : Layer

-- what an example claims
pub data Case : Type 0 where
  slot_size : ℕ → ℕ → Case  -- n, and the symbols of a base timeslot
  beacon : Numbers → List ℕ → List ℕ → Case  -- the bitmap of the superframe before, and the octets of the Online beacon
  repeat : Numbers → List ℕ → Grant → Option ℕ → Case  -- a bitmap, a grant, and its repeat's first timeslot, if any
  fate_told : Numbers → List ℕ → Grant → Fate → Case  -- a bitmap, a grant, and the fate told by a beacon with the bitmap
  no_frame : List ℕ → Refused → Case  -- octets, and the refusal that they read as
  reading_octets : ℤ → ℕ → List ℕ → Case  -- value, quality, and the image
  panel_octets : List Bool → List ℕ → Case  -- inputs, and the image
  no_panel : List ℕ → Refused → Case  -- octets that are no panel's image, and the refusal of reading them as a panel

-- the list of refusals gives a refusal this number and this layer
abbrev pub ListedSo : Refused → Type 0
ListedSo r = ((listed r.refusal).number ≡ r.number) × ((listed r.refusal).layer ≡ r.layer)

-- every answer that reading octets as a panel may give is this fault
abbrev pub OnlyRefused : List ℕ → Fault → Type 0
OnlyRefused xs f = (answer : Result Panel Fault) → Reads image_of xs answer → answer ≡ Err f

-- the Online beacon with a bitmap, as a device takes it
abbrev pub taken_with : Numbers → List ℕ → Beacon
taken_with n bitmap =
    record { state = online; header = header_of n; timeslots = n.timeslots; bitmap = take (bitmap_octets n) bitmap }

abbrev pub Holds : Case → Type 0
Holds (slot_size n symbols) = timeslot_symbols n ≡ symbols
Holds (beacon n bitmap xs) = octets_of (beacon_in online n bitmap) ≡ xs
Holds (repeat n bitmap g start) = repeat_start n bitmap g ≡ start
Holds (fate_told n bitmap g φ) = fate_by g.address (configuration_for n g) (taken_with n bitmap) ≡ φ
Holds (no_frame xs r) = (reading xs ≡ Err (fault r.refusal r.place)) × ListedSo r
Holds (reading_octets value quality xs) = reading_image value quality ≡ xs
Holds (panel_octets inputs xs) = panel_image inputs ≡ xs
Holds (no_panel xs r) = ImagesNone xs × OnlyRefused xs (fault r.refusal r.place) × ListedSo r

abbrev pub AllHold : List Case → Type 0
AllHold [] = Unit {0}
AllHold (c ∷ cs) = Holds c × AllHold cs

-- eight base timeslots of five octets, all uplink, of which the first few are for retransmission
abbrev pub eight : ℕ → Numbers
eight retransmission = record {
  timeslots = 8;
  uplink = 8;
  retransmission = retransmission;
  size = 5;
  management = 1;
  coordinator = 1;
  channel = 11;
  sequence = 7;
}

-- the grant of `width` timeslots from `first` on
abbrev pub grant : ℕ → ℕ → Grant
grant first width = record { address = first; simple = first; first = first; width = width }

-- of the owners of the timeslots 3 to 8, those of 3, 5 and 8 were heard; those of 4, 6 and 7 failed
abbrev pub three_heard : List ℕ
three_heard =
    marked_with (eight 2) (marked_with (eight 2) (marked_with (eight 2) nothing_heard (grant 3 1)) (grant 5 1))
    (grant 8 1)

abbrev pub short : Refused
short = record { refusal = refusal.Short; number = 10; place = 2; layer = layer.Frame }

abbrev pub bad_cargo : Refused
bad_cargo = record { refusal = refusal.Cargo; number = 16; place = 1; layer = layer.Cargo }

-- nine inputs, of which 0 and 8 are on
abbrev pub nine_inputs : List Bool
nine_inputs = true ∷ false ∷ false ∷ false ∷ false ∷ false ∷ false ∷ false ∷ true ∷ []

-- the known examples: the repeats of grants in single timeslots go by the bitmap that the beacon carries, where the
-- last one is left without;
-- those of wide grants go by a bitmap in which all failed
abbrev pub cases : List Case
cases =
    slot_size 2 34
    ∷ slot_size 15 60
    ∷ slot_size 16 90
    ∷ slot_size 20 98
    ∷ beacon (eight 2) three_heard (0x04 ∷ 0x00 ∷ 0x01 ∷ 0x07 ∷ 0x05 ∷ 0x08 ∷ 0x25 ∷ [])
    ∷ repeat (eight 2) three_heard (grant 4 1) (Some 1)
    ∷ repeat (eight 2) three_heard (grant 6 1) (Some 2)
    ∷ repeat (eight 2) three_heard (grant 7 1) None
    ∷ fate_told (eight 2) three_heard (grant 3 1) fate.Confirmed
    ∷ fate_told (eight 2) three_heard (grant 6 1) fate.Repeated
    ∷ fate_told (eight 2) three_heard (grant 7 1) fate.Lost
    ∷ repeat (eight 3) nothing_heard (grant 4 2) (Some 1)
    ∷ repeat (eight 3) nothing_heard (grant 6 1) (Some 3)
    ∷ repeat (eight 3) nothing_heard (grant 7 2) None
    ∷ fate_told (eight 3) nothing_heard (grant 7 2) fate.Lost
    ∷ no_frame (0x04 ∷ 0x00 ∷ []) short
    ∷ reading_octets (negsuc 0) 0 (0xff ∷ 0xff ∷ 0xff ∷ 0xff ∷ 0x00 ∷ [])
    ∷ panel_octets nine_inputs (0x09 ∷ 0x01 ∷ 0x01 ∷ [])
    ∷ no_panel (0x09 ∷ 0x01 ∷ 0x03 ∷ []) bad_cargo
    ∷ []

-- every claim of the list holds
abbrev pub KnownCasesHold : Type 0
KnownCasesHold = AllHold cases
