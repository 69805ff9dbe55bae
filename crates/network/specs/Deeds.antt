-- What calls come to, as an onlooker of the network tells it.
use Rattle.std.specs.Prelude.{ℕ, zero, suc, List, take, Some, None, Ok, Option}
use Rattle.device.specs.declared.fate.Fate.{Fate}
use Rattle.network.specs.Calls.{Call, opens, hears, hears_management, closes, takes_beacon, misses_beacon}
use Rattle.network.specs.Calls.{is_offered, sends, takes_management}

-- what a call came to. Devices go by their places.
pub data Deed (C : Type 0) : Type 0 where
  -- a superframe was opened with a beacon of these octets
  opening : List ℕ → Deed C
  -- the superframe was closed
  closing : Deed C
  -- in a timeslot these octets were heard, and cargo was handed up under a simple address
  hand_up : ℕ → List ℕ → ℕ → C → Deed C
  -- the coordinator took a management frame, and wrote these octets in reply, or none
  reply : List ℕ → Deed C
  -- a device took the beacon of these octets, or was told that it missed one, and told a fate or none
  news : ℕ → Option (List ℕ) → Option Fate → Deed C
  -- a device accepted cargo
  acceptance : ℕ → C → Deed C
  -- a device sent a data frame in a timeslot
  transmission : ℕ → ℕ → List ℕ → Deed C
  -- a device took a management frame
  taking : ℕ → List ℕ → Deed C
  -- a refusal, an empty send, a mode set or a management frame written
  nothing : Deed C

module _ {C : Type 0} where
  abbrev pub sent_deed : ℕ → ℕ → ℕ → List ℕ → Deed C
  sent_deed d t zero memory = nothing
  sent_deed d t (suc n) memory = transmission d t (take (suc n) memory)

  abbrev pub deed : Call C → Deed C
  deed (opens buffer (Ok o) memory) = opening (take o.length memory)
  deed (hears k t xs (Ok h)) = hand_up t xs h.simple h.cargo
  deed (hears_management k xs buffer (Ok n) memory) = reply (take n memory)
  deed (closes k (Ok u)) = closing
  deed (takes_beacon d xs (Ok told)) = news d (Some xs) told
  deed (misses_beacon d told) = news d None told
  deed (is_offered d x (Ok u)) = acceptance d x
  deed (sends d t buffer (Ok n) memory) = sent_deed d t n memory
  deed (takes_management d xs (Ok u)) = taking d xs
  deed c = nothing
