-- A device's book: a line for each acceptance whose fate was told, the newest first.
use Rattle.std.proofs.Common.{◌≡◌, ℕ, suc, ◌<◌, Bool, true, false, cond, List, [], ◌∷◌, ◌++◌, map, length, Some, None}
use Rattle.std.proofs.Common.{Option}
use Rattle.device.specs.declared.fate.Fate.{Fate}
use Rattle.device.specs.declared.fate.Fate.TheVariants as fate
use Rattle.network.specs.Deeds.{Deed}
use Rattle.network.specs.History.{Telling, Arrival, superframes, accepted, told, own_sendings, arrivals, under_way}
use Rattle.network.specs.History.{sent_since}
use Rattle.network.specs.History.{waits}

-- the cargo, the superframe in which it was sent, whether it was handed up from its own timeslot, whether as a
-- repeat, its fate, and whether that was told by an Online beacon
pub record Line (C : Type 0) : Type 0 where
  pub cargo : C
  pub sent : ℕ
  pub own : Bool
  pub again : Bool
  pub fate : Fate
  pub online : Bool

-- what a line has to keep
pub record Just {C : Type 0} (y : Line C) : Type 0 where
  pub confirmed : y.fate ≡ fate.Confirmed → (y.own ≡ true) × (y.online ≡ true)
  pub handed_up : y.own ≡ true → y.online ≡ true → y.fate ≡ fate.Confirmed
  pub repeated : y.fate ≡ fate.Repeated → y.own ≡ false
  pub again_only : y.again ≡ true → y.fate ≡ fate.Repeated
  pub lost : y.fate ≡ fate.Lost → y.own ≡ false

abbrev pub AllJust : {C : Type 0} → List (Line C) → Type 0
AllJust [] = Unit {0}
AllJust (y ∷ ys) = Just y × AllJust ys

abbrev pub telling_of : {C : Type 0} → Line C → Telling
telling_of y = record { fate = y.fate; superframe = suc y.sent; online = y.online }

-- an arrival without its frame: the number of the acceptance, whether from the sender's own timeslot, and the cargo
pub record Landing (C : Type 0) : Type 0 where
  pub number : ℕ
  pub own : Bool
  pub cargo : C

abbrev pub landing_of : {C : Type 0} → Arrival C → Landing C
landing_of x = record { number = x.frame.number; own = x.frame.own; cargo = x.cargo }

-- the arrivals that lines tell of
abbrev pub arrivals_of : {C : Type 0} → List (Line C) → List (Landing C)
arrivals_of [] = []
arrivals_of (y ∷ ys) =
    cond y.own (record { number = suc (length ys); own = true; cargo = y.cargo } ∷ arrivals_of ys)
    (cond y.again (record { number = suc (length ys); own = false; cargo = y.cargo } ∷ arrivals_of ys)
    (arrivals_of ys))

-- what may be there, as a list
abbrev pub listed : {A : Type 0} → Option A → List A
listed None = []
listed (Some x) = x ∷ []

-- the superframe in which cargo was sent that has no fate yet
abbrev pub since : {C : Type 0} → ℕ → Option C → List ℕ
since k None = []
since k (Some x) = k ∷ []

-- its arrival, where its bit is one; `before` acceptances have their fates
abbrev pub in_flight : {C : Type 0} → Bool → ℕ → Option C → List (Landing C)
in_flight bit before None = []
in_flight bit before (Some x) = cond bit (record { number = suc before; own = true; cargo = x } ∷ []) []

abbrev pub count : {A : Type 0} → Option A → ℕ
count None = 0
count (Some x) = 1

-- each line was sent before superframe k
abbrev pub AllBefore : {C : Type 0} → ℕ → List (Line C) → Type 0
AllBefore k [] = Unit {0}
AllBefore k (y ∷ ys) = (y.sent < k) × AllBefore k ys

-- a book agrees with a history, for the device at place e with a simple address, where `again` says which timeslots
-- are for retransmission: what waits and what was sent in superframe k, and the bit that tells whether the latter was
-- handed up
pub record Agrees {C : Type 0} (again : ℕ → Bool) (simple : Option ℕ) (e : ℕ) (ds : List (Deed C))
    (waiting sent : Option C)
    (k : ℕ) (bit : Bool) (book : List (Line C)) : Type 0 where
  pub accepts : accepted e ds ≡ listed waiting ++ (listed sent ++ map (λ y. y.cargo) book)
  pub tells : told e ds ≡ map telling_of book
  pub sends : own_sendings e again ds ≡ since k sent ++ map (λ y. y.sent) book
  pub arrives : map landing_of (arrivals e again simple ds) ≡ in_flight bit (length book) sent ++ arrivals_of book
  pub just : AllJust book
  pub before : AllBefore (superframes ds) book
  pub under_way : under_way e again ds ≡ count sent
  pub sent_since : sent_since e again ds ≡ count sent
  pub waits : waits e again ds ≡ count waiting
