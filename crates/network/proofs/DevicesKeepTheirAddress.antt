-- A device keeps its full address through every call.
use Rattle.std.proofs.Common.{◌≡◌, ℕ, Bool, true, false, cond, eqb, List, [], ◌∷◌, is_ok, Ok, Err, Result, refl, ◌∙◌}
use Rattle.frame.specs.declared.faults.Fault.{Fault}
use Rattle.plan.specs.Rules.{PlanMeaning}
use Rattle.device.specs.declared.device.Device.{Device}
use Rattle.device.specs.Beacons.{Beacon, beacon_taken}
use Rattle.device.specs.Phases.{thanked}
use Rattle.device.specs.Steps as device
use Rattle.network.specs.Calls.{Call, takes_beacon, misses_beacon}
use Rattle.network.specs.Calls.{is_offered, sends, writes_management, takes_management, device_after}
use Rattle.network.specs.Runs.{Devices, hall}

module _ {C : Type 0} where
  either : (b : Bool) (v w : Device C) → v.address ≡ w.address → (cond b v w).address ≡ w.address
  either true v w e = e
  either false v w e = refl

  either' : (b : Bool) (v w : Device C) → w.address ≡ v.address → (cond b v w).address ≡ v.address
  either' true v w e = refl
  either' false v w e = e

  by_beacon : (v : Device C) (r : Result Beacon Fault) → (device.beacon_state_by v r).address ≡ v.address
  by_beacon v (Ok b) = refl
  by_beacon v (Err f) = refl

  by_turn : (v : Device C) (t : device.Turn C) → (device.after_turn v t).address ≡ v.address
  by_turn v device.silent = refl
  by_turn v (device.fresh x) = refl
  by_turn v (device.again x) = refl

  by_taking : (v : Device C) (r : Result device.Taken Fault) → (device.take_state_by v r).address ≡ v.address
  by_taking v (Ok device.acknowledgment) = refl
  by_taking v (Ok (device.configured c)) = refl
  by_taking v (Err f) = refl

module _ {C : Type 0} (image : C → List ℕ) (m : PlanMeaning) where
  kept : (e : ℕ) (v : Device C) (c : Call C) → (device_after image m e v c).address ≡ v.address
  kept e v (takes_beacon d xs r) =
      either (eqb d e) (device.beacon_state v xs) v (by_beacon v (beacon_taken v.configuration xs))
  kept e v (misses_beacon d r) = either (eqb d e) (device.missed_state v) v refl
  kept e v (is_offered d x r) = either (eqb d e) (device.offer_state image v x) v
      (either (is_ok (device.offer_answer image v x)) (device.holding v x) v refl)
  kept e v (sends d t buffer r memory) =
      either (eqb d e) (device.send_state image v t buffer) v
      (either (is_ok (device.send_answer image v t buffer)) (device.after_turn v (device.turn image v t)) v
      (by_turn v (device.turn image v t)))
  kept e v (writes_management d buffer r memory) =
      either (eqb d e) (device.write_state v buffer) v
      (either (is_ok (device.write_answer v buffer))
      (cond (device.is_missed v.news) v (device.in_phase v (thanked v.phase))) v
      (either' (device.is_missed v.news) v (device.in_phase v (thanked v.phase)) refl))
  kept e v (takes_management d xs r) = either (eqb d e) (device.take_state v xs) v (by_taking v (device.taking v xs))
  kept e v c = refl

  pub address_of : (devices : Devices) (cs : List (Call C)) (e : ℕ)
      → ((hall image m devices cs).devices e).address ≡ devices.address e
  address_of devices [] e = refl
  address_of devices (c ∷ cs) e = kept e ((hall image m devices cs).devices e) c ∙ address_of devices cs e
