-- A told fate has its grounds.
use Rattle.std.proofs.Common.{◌≡◌, ℕ, Bool, true, false, cond, not, List, is_some, Some, None, Ok, Option}
use Rattle.std.proofs.Common.{Result, sym, refl, ap, ◌∙◌}
use Rattle.std.proofs.lemmas.Bool.{and_right}
use Rattle.frame.specs.declared.faults.Fault.{Fault}
use Rattle.frame.specs.declared.beacon.BeaconHeader.{BeaconHeader}
use Rattle.frame.specs.declared.command.Configuration.{Configuration}
use Rattle.frame.specs.Messages.{State, online, discovery, configuration, reset}
use Rattle.plan.specs.declared.grant.Grant.{Grant}
use Rattle.plan.specs.declared.numbers.Numbers.{Numbers}
use Rattle.repeats.specs.BitAndRepeatTimeslots.{has_bit}
use Rattle.repeats.specs.Bitmaps.{acknowledged}
use Rattle.repeats.specs.Starts.{may_repeat, repeat_start}
use Rattle.repeats.proofs.WhenRepeatsStart.{unwanted}
use Rattle.device.specs.declared.device.Device.{Device}
use Rattle.device.specs.declared.fate.Fate.{Fate}
use Rattle.device.specs.declared.fate.Fate.TheVariants as fate
use Rattle.device.specs.Beacons.{Beacon}
use Rattle.device.specs.Configurations.{numbers_in, grant_in}
use Rattle.device.specs.Fates.{grounds, grounds_by, fate_by, by_room, Grounded}
use Rattle.device.specs.Steps.{told_by, beacon_answer_by}

-- what is acknowledged is not repeated
no_repeat : (n : Numbers) (xs : List ℕ) (g : Grant) → acknowledged n xs g.first ≡ true → repeat_start n xs g ≡ None
no_repeat n xs g e =
    let no_bit = and_right (has_bit n g.first) _ (ap not e) in
    unwanted n xs g (and_right (may_repeat n g) _ no_bit)

-- an Online beacon's fate, by the bit and the room
by_bit : (bit : Bool) (start : Option ℕ) → (bit ≡ true → start ≡ None)
    → grounds (cond bit fate.Confirmed (by_room start)) ≡ record { online = true; bit = bit; room = is_some start }
by_bit true start none = ap (λ (o : Option ℕ). record { online = true; bit = true; room = is_some o }) (sym (none refl))
by_bit false None none = refl
by_bit false (Some start) none = refl

in_state : (address : ℕ) (c : Configuration) (s : State) (h : BeaconHeader) (n : ℕ) (xs : List ℕ)
    → let b : Beacon = record { state = s; header = h; timeslots = n; bitmap = xs } in
    grounds (fate_by address c b) ≡ grounds_by address c b
in_state address c online h n xs =
    let numbers = numbers_in c in
    let grant = grant_in address c in
    by_bit (acknowledged numbers xs c.first) (repeat_start numbers xs grant) (no_repeat numbers xs grant)
in_state address c discovery h n xs = refl
in_state address c configuration h n xs = refl
in_state address c reset h n xs = refl

fate_grounds : (address : ℕ) (c : Configuration) (b : Beacon) → grounds (fate_by address c b) ≡ grounds_by address c b
fate_grounds address c b = in_state address c b.state b.header b.timeslots b.bitmap

-- of what was sent the fate is told that the beacon gives
told_sent : {C : Type 0} (address : ℕ) (c : Configuration) (o : Option C) (b : Beacon) → is_some o ≡ true
    → told_by address (Some c) o b ≡ Some (fate_by address c b)
told_sent address c None b sent = absurd cc
told_sent address c (Some x) b sent = refl

pub grounded : {C : Type 0} (v : Device C) (taken : Result Beacon Fault) (r : Result (Option Fate) Fault)
    → r ≡ beacon_answer_by v taken → Grounded v taken r
grounded v taken r e c b configured sent ok =
    let told : beacon_answer_by v taken ≡ Ok (Some (fate_by v.address c b)) =
    rw (ok, configured) (ap Ok (told_sent v.address c v.sent b sent)) in
    (fate_by v.address c b, e ∙ told, fate_grounds v.address c b)
