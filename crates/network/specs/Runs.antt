-- Runs of a network: any calls in any arrangement that keeps the rules of the network.
use Rattle.std.specs.Prelude.{◌≡◌, ℕ, ◌<◌, true, false, List, [], ◌∷◌, map, is_some, Some, None, Option}
use Rattle.frame.specs.declared.command.Wish.{Wish}
use Rattle.plan.specs.Rules.{PlanMeaning}
use Rattle.coordinator.specs.Steps as coordinator
use Rattle.device.specs.Steps as device
use Rattle.network.specs.Calls.{Call, Hall, device_of, after, Answers}
use Rattle.network.specs.Deeds.{Deed, closing, hand_up, news, transmission, taking}
use Rattle.network.specs.Deeds.{deed}
use Rattle.network.specs.History.{Among, Sending, superframes, announced, learned, replies, sendings}

-- how many devices there are, and with which full addresses and wishes
pub record Devices : Type 0 where
  pub count : ℕ
  pub address : ℕ → ℕ
  pub wish : ℕ → Wish

-- no two devices have one full address
abbrev pub Different : Devices → Type 0
Different ds = (d e : ℕ) → d < ds.count → e < ds.count → ds.address d ≡ ds.address e → d ≡ e

-- a call is at one of so many devices, or at the coordinator
abbrev pub IsThere : ℕ → Option ℕ → Type 0
IsThere count (Some d) = d < count
IsThere count None = Unit {0}

abbrev pub Present : {C : Type 0} → ℕ → Call C → Type 0
Present count c = IsThere count (device_of c)

module _ {C : Type 0} where
  -- octets were sent in a timeslot of the superframe that was opened last
  abbrev pub OnAir : List (Deed C) → ℕ → List ℕ → Type 0
  OnAir ds t xs = (x : Sending) × Among x (sendings ds) × (x.superframe ≡ superframes ds) × (x.timeslot ≡ t)
      × (x.octets ≡ xs)

  -- a superframe is open, of whose beacon device d had no news yet
  abbrev pub Unaware : List (Deed C) → ℕ → Type 0
  Unaware ds d = (is_some (announced ds) ≡ true) × (learned d ds ≡ false)

  -- the rules of the network for what happens next: a device takes the beacon of the open superframe or is told that
  -- it missed it, once; it sends only after that, and the close comes when all have had their news; the coordinator
  -- hears what was sent in that timeslot of that superframe; a device takes management frames that the coordinator
  -- wrote at any time
  abbrev pub KeepsRules : ℕ → List (Deed C) → Deed C → Type 0
  KeepsRules count ds closing = (d : ℕ) → d < count → learned d ds ≡ true
  KeepsRules count ds (hand_up t xs simple x) = OnAir ds t xs
  KeepsRules count ds (news d None told) = Unaware ds d
  KeepsRules count ds (news d (Some xs) told) = (announced ds ≡ Some xs) × (learned d ds ≡ false)
  KeepsRules count ds (transmission d t xs) = (is_some (announced ds) ≡ true) × (learned d ds ≡ true)
  KeepsRules count ds (taking d xs) = Among xs (replies ds)
  KeepsRules count ds d = Unit {0}

  abbrev pub deeds : List (Call C) → List (Deed C)
  deeds cs = map deed cs

  module _ (image : C → List ℕ) (m : PlanMeaning) (devices : Devices) where
    -- the network before the first call
    abbrev pub beginning : Hall C
    beginning =
        record { coordinator = coordinator.made; devices = λ d. device.made (devices.address d) (devices.wish d) }

    -- the network after calls, the newest first
    abbrev pub hall : List (Call C) → Hall C
    hall [] = beginning
    hall (c ∷ cs) = after image m (hall cs) c

    -- each call gave the answer that the ends give, at a device that there is, and kept the rules of the network
    abbrev pub Run : List (Call C) → Type 0
    Run [] = Unit {0}
    Run (c ∷ cs) = Run cs × Answers image m (hall cs) c × Present devices.count c
        × KeepsRules devices.count (deeds cs) (deed c)
