-- A call at a device comes to a deed of that device, or to nothing.
use Rattle.std.proofs.Common.{◌≡◌, ℕ, suc, true, false, is_some, Some, None, Ok, Option, refl}
use Rattle.network.specs.Calls.{Call, set_mode, opens, hears, hears_management, closes, takes_beacon, misses_beacon}
use Rattle.network.specs.Calls.{is_offered, sends, takes_management, device_of, is_at}
use Rattle.network.specs.Deeds.{Deed, opening, closing, hand_up, reply, news, acceptance, transmission, taking, deed}

module _ {C : Type 0} where
  -- the device whose deed it is, or none
  abbrev pub performer : Deed C → Option ℕ
  performer (news d b φ) = Some d
  performer (acceptance d x) = Some d
  performer (transmission d t xs) = Some d
  performer (taking d xs) = Some d
  performer x = None

  -- a deed that is none of the coordinator
  abbrev pub OfADevice : Deed C → Type 0
  OfADevice (opening xs) = ⊥
  OfADevice closing = ⊥
  OfADevice (hand_up t xs simple x) = ⊥
  OfADevice (reply xs) = ⊥
  OfADevice x = Unit {0}

  pub of_a_device : (c : Call C) → is_some (device_of c) ≡ true → OfADevice (deed c)
  of_a_device (set_mode mode r) some = absurd cc
  of_a_device (opens buffer r memory) some = absurd cc
  of_a_device (hears k t xs r) some = absurd cc
  of_a_device (hears_management k xs buffer r memory) some = absurd cc
  of_a_device (closes k r) some = absurd cc
  of_a_device (takes_beacon d xs (Ok φ)) some = tt
  of_a_device (is_offered d x (Ok u)) some = tt
  of_a_device (sends d t buffer (Ok (suc l)) memory) some = tt
  of_a_device (takes_management d xs (Ok u)) some = tt
  of_a_device c some = tt

  pub of_another : (e : ℕ) (c : Call C) → is_some (device_of c) ≡ true → is_at e (device_of c) ≡ false
      → is_at e (performer (deed c)) ≡ false
  of_another e (set_mode mode r) some differ = absurd cc
  of_another e (opens buffer r memory) some differ = absurd cc
  of_another e (hears k t xs r) some differ = absurd cc
  of_another e (hears_management k xs buffer r memory) some differ = absurd cc
  of_another e (closes k r) some differ = absurd cc
  of_another e (takes_beacon d xs (Ok φ)) some differ = differ
  of_another e (misses_beacon d φ) some differ = differ
  of_another e (is_offered d x (Ok u)) some differ = differ
  of_another e (sends d t buffer (Ok (suc l)) memory) some differ = differ
  of_another e (takes_management d xs (Ok u)) some differ = differ
  of_another e c some differ = refl
