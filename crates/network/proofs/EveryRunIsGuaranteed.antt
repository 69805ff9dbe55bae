-- What holds after every run.
use Rattle.std.proofs.Common.{◌≡◌, ℕ, zero, suc, ◌<◌, ◌≤◌, true, false, cond, eqb, List, [], ◌∷◌, length, take}
use Rattle.std.proofs.Common.{is_some, Some, None, Ok, Err, Option, Result, sym, refl, ap, ◌∙◌, subst, inl, inr}
use Rattle.std.specs.Option.{option_map}
use Rattle.std.proofs.lemmas.Bool.{cases_eq, eq-eqb, ne_eqb}
use Rattle.frame.specs.declared.faults.Fault.{Fault}
use Rattle.plan.specs.declared.grant.Grant.{Grant}
use Rattle.plan.specs.Rules.{PlanMeaning, Rules, grant_at}
use Rattle.plan.proofs.Lawful.{addresses_differ, names_addressed}
use Rattle.repeats.specs.BitAndRepeatTimeslots.{for_retransmission}
use Rattle.cargo.specs.Images.{Apart}
use Rattle.cargo.specs.ReceivedCargo.{Receives}
use Rattle.coordinator.specs.declared.heard.Heard.{Heard}
use Rattle.coordinator.specs.declared.state.Inner.{Inner}
use Rattle.coordinator.specs.Steps as coordinator
use Rattle.device.specs.declared.device.Device.{Device}
use Rattle.device.specs.declared.fate.Fate.{Fate}
use Rattle.device.specs.Steps as device
use Rattle.network.specs.Calls.{Call, set_mode, opens, hears, hears_management, closes, takes_beacon, misses_beacon}
use Rattle.network.specs.Calls.{is_offered, sends, writes_management, takes_management, device_after, Answers}
use Rattle.network.specs.Calls.{stepped, device_of, is_at}
use Rattle.network.specs.Deeds.{Deed, opening, closing, hand_up, reply, news, acceptance, transmission, taking}
use Rattle.network.specs.Deeds.{nothing, deed}
use Rattle.network.specs.History.{Among, Sending, superframes, announced, sendings, senders}
use Rattle.network.specs.Guarantee.{grant_of, simple_of, DeviceTellsWhatItHolds, Guaranteed, DeviceGuaranteed}
use Rattle.network.specs.Guarantee.{Guarantee}
use Rattle.network.specs.Runs.{Devices, Different, Present, OnAir, KeepsRules, deeds, hall, Run}
use Rattle.network.proofs.TheBookGivesTheGuarantee.{Carried, from_book, from_outside}
use Rattle.network.proofs.DevicesKeepTheirAddress.{address_of}
use Rattle.network.proofs.CallsAtADevice.{of_a_device, of_another}
use Rattle.network.proofs.DeviceBook.{count}
use Rattle.network.proofs.FramesCarryTheirAcceptance.{Carries, begun_carries, next_carries}
use Rattle.network.proofs.ArrivalsAreOfFrames.{Credits, Grounds, begun_credits, next_credits}
use Rattle.network.proofs.OwnCallsKeepTheBook as DevicesKeep
use Rattle.network.proofs.OwnCallsKeepTheBook.{open_now}
use Rattle.network.proofs.HearingKeepsTheBook.{grant_found, heard_of, heard_elsewhere}
use Rattle.network.proofs.NewsComeOnceASuperframe.{Learns, begun_learns, next_learns, no_later}
use Rattle.network.proofs.NewsKeepTheBook as NewsKeep
use Rattle.network.proofs.OtherCallsKeepTheBook as others
use Rattle.network.proofs.FramesShareNoTimeslot.{Facts, placed, hand_up_facts, transmission_facts}
use Rattle.network.proofs.StateAgreesWithHistory.{Steady, Standing}
use Rattle.network.proofs.CallsKeepTheCoordinatorSteady as steadily

-- deeds that are neither frames nor hand-ups leave what holds of these
same_facts : {C : Type 0} (m : PlanMeaning) (devices : Devices) (ds es : List (Deed C)) → sendings es ≡ sendings ds
    → senders es ≡ senders ds → Facts m devices ds → Facts m devices es
same_facts m devices ds es frames hand-ups f = record {
  present = λ x among. f.present x (sent x among);
  takes = λ x among. f.takes x (sent x among);
  exclusive = λ x y t ax ay. f.exclusive x y t (sent x ax) (sent y ay);
  sender = λ s among. f.sender s (subst (λ (l : List ℕ). Among s l) hand-ups among);
}
  where
    sent : (x : Sending) → Among x (sendings es) → Among x (sendings ds)
    sent x among = subst (λ (l : List Sending). Among x l) frames among

-- a superframe is open where a beacon is announced
opened_by : {C : Type 0} (m : PlanMeaning) (k : Inner) (ds : List (Deed C)) → Steady m k ds
    → is_some (announced ds) ≡ true → k.opened ≡ true
opened_by m k ds steady some = open_now k.opened (announced ds)
    (coordinator.beacon_of m.numbers k) steady.announces some

module _ {C : Type 0} (image : C → List ℕ) (short : (x : C) → length (image x) ≤ 124) (apart : Apart image)
    (m : PlanMeaning) (rules : Rules m) (devices : Devices) (different : Different devices) where
  -- the parts that each call keeps
  pub record Holding (cs : List (Call C)) : Type 0 where
    pub steady : Steady m (hall image m devices cs).coordinator (deeds cs)
    pub standing : (e : ℕ) → e < devices.count
        → Standing image m.numbers e (grant_of m (devices.address e)) (hall image m devices cs).coordinator
        ((hall image m devices cs).devices e) (deeds cs)
    pub facts : Facts m devices (deeds cs)

  -- the grant of a device, as the plan numbers it
  simple_found : (a : ℕ) (g : Grant) → grant_of m a ≡ Some g → simple_of m a ≡ Some g.simple
  simple_found a g found = ap (λ (o : Option Grant). option_map (λ (x : Grant). x.simple) o) found

  -- Hearing a data frame.

  module _ (k : Inner) (v : ℕ → Device C) (ds : List (Deed C)) (steady : Steady m k ds)
      (standing : (e : ℕ) → e < devices.count
      → Standing image m.numbers e (grant_of m (devices.address e)) k (v e) ds) (facts : Facts m devices ds) (t : ℕ)
      (xs : List ℕ) (x : C) (g : Grant) (sending : coordinator.sending m k t ≡ Some g) (opened : k.opened ≡ true)
      (above : k.last < t) (received : Receives image xs (Ok x)) (air : OnAir ds t xs) where
    abbrev After : Option Grant → ℕ → Type 0
    After o e = Standing image m.numbers e o (coordinator.accepted m.numbers k t (Some g)) (v e)
        (hand_up t xs g.simple x ∷ ds)

    -- the device that sent it has the grant that was listened to
    pub record Sender : Type 0 where
      pub device : ℕ
      pub is : air.0.device ≡ device
      pub there : device < devices.count
      pub found : grant_of m (devices.address device) ≡ Some g
      pub after : After (Some g) device

    sent_by : (d : ℕ) → d < devices.count → (o : Option Grant) → grant_of m (devices.address d) ≡ o
        → Standing image m.numbers d o k (v d) ds → air.0.device ≡ d → Sender
    sent_by d there None found s is = absurd (s.no_sendings air.0 air.1 is)
    sent_by d there (Some h) found s is =
        let w = grant_found m rules (devices.address d) h found in
        let p = heard_of image m rules short apart d w.0 h w.1 k
        (v d) ds steady opened s t xs above air.0 air.1 is air.2 air.3 air.4 x received in
        let same : h ≡ g = cc in
        record {
          device = d;
          is = is;
          there = there;
          found = found ∙ ap Some same;
          after =
              subst (λ (z : Grant). Standing image m.numbers d (Some z) (coordinator.accepted m.numbers k t (Some z))
              (v d) (hand_up t xs z.simple x ∷ ds)) same p.1;
        }

    sender : Sender
    sender = let there = facts.present air.0 air.1 in
        sent_by air.0.device there (grant_of m (devices.address air.0.device)) refl (standing air.0.device there) refl

    -- every other device has another grant, or none
    elsewhere : (e : ℕ) → e < devices.count → (sender.device ≡ e → ⊥) → (o : Option Grant)
        → grant_of m (devices.address e) ≡ o → Standing image m.numbers e o k (v e) ds → After o e
    elsewhere e there differ None found s = record {
      unconfigured = s.unconfigured;
      no_waiting = s.no_waiting;
      no_sent = s.no_sent;
      no_accepted = s.no_accepted;
      no_told = s.no_told;
      none_under_way = s.none_under_way;
      none_since = s.none_since;
      no_waits = s.no_waits;
      no_sendings = s.no_sendings;
    }
    elsewhere e there differ (Some h) found s =
        let a = grant_found m rules (devices.address sender.device) g sender.found in
        let b = grant_found m rules (devices.address e) h found in
        heard_elsewhere image m rules short apart e a.0 b.0 g h a.1 b.1 (apart_from a b) k (v e) ds steady s t xs x above
      where
        apart_from : (a : (i : ℕ) × (grant_at m i ≡ Some g) × (g.address ≡ devices.address sender.device))
            (b : (i : ℕ) × (grant_at m i ≡ Some h) × (h.address ≡ devices.address e)) → a.0 ≡ b.0 → ⊥
        apart_from a b same =
            let also : grant_at m b.0 ≡ Some g = subst (λ (z : ℕ). grant_at m z ≡ Some g) same a.1 in
            let grants : g ≡ h = cc in
            differ (different sender.device e sender.there there
            (sym a.2 ∙ ap (λ (z : Grant). z.address) grants ∙ b.2))

    -- a device with the simple address that is told is the one that sent it
    its_sender : (e : ℕ) → e < devices.count → (o : Option Grant) → grant_of m (devices.address e) ≡ o
        → option_map (λ (h : Grant). h.simple) o ≡ Some g.simple → air.0.device ≡ e
    its_sender e there None found simple = absurd cc
    its_sender e there (Some h) found simple =
        let a = grant_found m rules (devices.address sender.device) g sender.found in
        let b = grant_found m rules (devices.address e) h found in
        let alike : g.simple ≡ h.simple = cc in
        let number = addresses_differ m rules a.0 b.0 g h a.1 b.1 (inr alike) in
        let also : grant_at m b.0 ≡ Some g = subst (λ (z : ℕ). grant_at m z ≡ Some g) number a.1 in
        let grants : g ≡ h = cc in
        sender.is ∙ different sender.device e sender.there there
        (sym a.2 ∙ ap (λ (z : Grant). z.address) grants ∙ b.2)

    heard_standing : (e : ℕ) → e < devices.count → After (grant_of m (devices.address e)) e
    heard_standing e there = elim (cases_eq sender.device e) [
      | inl same ↦ subst (λ (z : ℕ). After (grant_of m (devices.address z)) z) same
          (subst (λ (o : Option Grant). After o sender.device) (sym sender.found) sender.after)
      | inr differ ↦ elsewhere e there differ (grant_of m (devices.address e)) refl (standing e there)
    ]

    heard_facts : Facts m devices (hand_up t xs g.simple x ∷ ds)
    heard_facts = hand_up_facts m rules devices different ds facts t xs g.simple x
        (sender.device, sender.there, simple_found (devices.address sender.device) g sender.found)

  -- Calls at a device.

  -- no grant has the full address of a device without one
  nobody : (a : ℕ) → grant_of m a ≡ None → (i : ℕ) (g : Grant) → grant_at m i ≡ Some g → g.address ≡ a → ⊥
  nobody a none i g at is =
      let number = (names_addressed m rules a i).1 (g, at, is) in
      let found : grant_of m a ≡ Some g = ap (coordinator.granted m) number ∙ at in
      cc

  module _ (k : Inner) (ds : List (Deed C)) (steady : Steady m k ds) (e a : ℕ) (v : Device C)
      (address : v.address ≡ a) where
    abbrev Own : Option Grant → Device C → List (Deed C) → Type 0
    Own o w es = Standing image m.numbers e o k w es

    own_beacon : (o : Option Grant) → grant_of m a ≡ o → (xs : List ℕ) (r : Result (Option Fate) Fault)
        → r ≡ device.beacon_answer v xs → KeepsRules devices.count ds (deed (takes_beacon e xs r)) → Own o v ds
        → Own o (device.beacon_state v xs) (deed (takes_beacon e xs r) ∷ ds)
    own_beacon None found xs r is keeps s = NewsKeep.outside_beaconed e v ds s xs r is
    own_beacon (Some g) found xs r is keeps s =
        let w = grant_found m rules a g found in
        NewsKeep.beaconed image m rules e w.0 g w.1 k v ds steady xs r devices.count is keeps s

    own_missed : (o : Option Grant) → grant_of m a ≡ o → (r : Option Fate) → r ≡ device.missed_answer v
        → KeepsRules devices.count ds (deed (misses_beacon e r)) → Own o v ds
        → Own o (device.missed_state v) (deed (misses_beacon e r) ∷ ds)
    own_missed None found r is keeps s = NewsKeep.outside_missed e v ds s r is
    own_missed (Some g) found r is keeps s =
        let w = grant_found m rules a g found in
        NewsKeep.missed image m rules e w.0 g w.1 k v ds steady r devices.count is keeps s

    own_offered : (o : Option Grant) → grant_of m a ≡ o → (x : C) (r : Result (Unit {0}) Fault)
        → r ≡ device.offer_answer image v x → Own o v ds
        → Own o (device.offer_state image v x) (deed (is_offered e x r) ∷ ds)
    own_offered None found x r is s = DevicesKeep.outside_offered e v ds s image x r is
    own_offered (Some g) found x r is s =
        let w = grant_found m rules a g found in DevicesKeep.offered image m rules e w.0 g w.1 k v ds steady x r is s

    own_sent : (o : Option Grant) → grant_of m a ≡ o
        → (t : ℕ) (buffer : List ℕ) (r : Result ℕ Fault) (memory : List ℕ) → r ≡ device.send_answer image v t buffer
        → memory ≡ device.send_memory image v t buffer
        → KeepsRules devices.count ds (deed (sends e t buffer r memory)) → Own o v ds
        → Own o (device.send_state image v t buffer) (deed (sends e t buffer r memory) ∷ ds)
    own_sent None found t buffer r memory is left keeps s =
        DevicesKeep.outside_sent e v ds s image t buffer r memory is
    own_sent (Some g) found t buffer r memory is left keeps s =
        let w = grant_found m rules a g found in
        DevicesKeep.sent image m rules e w.0 g w.1 k v ds steady t buffer r memory devices.count is left keeps s

    own_written : (o : Option Grant) → grant_of m a ≡ o → (buffer : List ℕ) (r : Result ℕ Fault) (memory : List ℕ)
        → r ≡ device.write_answer v buffer → Own o v ds
        → Own o (device.write_state v buffer) (deed (writes_management e buffer r memory) ∷ ds)
    own_written None found buffer r memory is s = DevicesKeep.outside_written e v ds s buffer r memory is
    own_written (Some g) found buffer r memory is s =
        let w = grant_found m rules a g found in
        DevicesKeep.written image m rules e w.0 g w.1 k v ds steady buffer r memory is s

    own_took : (o : Option Grant) → grant_of m a ≡ o → (xs : List ℕ) (r : Result (Unit {0}) Fault)
        → r ≡ device.take_answer v xs → KeepsRules devices.count ds (deed (takes_management e xs r)) → Own o v ds
        → Own o (device.take_state v xs) (deed (takes_management e xs r) ∷ ds)
    own_took None found xs r is keeps s =
        DevicesKeep.outside_took e v ds s m rules k steady
        (λ i g at q. nobody a found i g at (q ∙ address)) xs r devices.count is keeps
    own_took (Some g) found xs r is keeps s =
        let w = grant_found m rules a g found in
        DevicesKeep.took image m rules e w.0 g w.1 k v ds steady xs r devices.count is keeps s

  -- Every call.

  -- what holds at the device of a call, and at each other one, holds at all
  spread : (d : ℕ) (P : ℕ → Type 0) → P d → ((e : ℕ) → e < devices.count → eqb d e ≡ false → P e) → (e : ℕ)
      → e < devices.count → P e
  spread d P own other e there = elim (cases_eq d e) [
    | inl same ↦ subst P same own
    | inr differ ↦ other e there (ne_eqb d e differ)
  ]

  module _ (cs : List (Call C)) (h : Holding cs) where
    abbrev k : Inner
    k = (hall image m devices cs).coordinator

    abbrev v : ℕ → Device C
    v = (hall image m devices cs).devices

    abbrev ds : List (Deed C)
    ds = deeds cs

    abbrev grant_for : ℕ → Option Grant
    grant_for e = grant_of m (devices.address e)

    abbrev StandingAfter : Call C → ℕ → Type 0
    StandingAfter c e = Standing image m.numbers e (grant_for e) k (device_after image m e (v e) c) (deed c ∷ ds)

    -- calls other than hearing and sending data leave what holds of frames and hand-ups
    abbrev IsCalm : Call C → Type 0
    IsCalm (hears j t xs r) = ⊥
    IsCalm (sends d t buffer r memory) = ⊥
    IsCalm c = Unit {0}

    calm_facts : (c : Call C) → IsCalm c → Facts m devices (deed c ∷ ds)
    calm_facts (hears j t xs r) calm = absurd calm
    calm_facts (sends d t buffer r memory) calm = absurd calm
    calm_facts (opens buffer (Ok o) memory) calm =
        same_facts m devices ds (opening (take o.length memory) ∷ ds) refl refl h.facts
    calm_facts (hears_management j xs buffer (Ok l) memory) calm =
        same_facts m devices ds (reply (take l memory) ∷ ds) refl refl h.facts
    calm_facts (closes j (Ok u)) calm = same_facts m devices ds (closing ∷ ds) refl refl h.facts
    calm_facts (takes_beacon d xs (Ok φ)) calm = same_facts m devices ds (news d (Some xs) φ ∷ ds) refl refl h.facts
    calm_facts (is_offered d x (Ok u)) calm = same_facts m devices ds (acceptance d x ∷ ds) refl refl h.facts
    calm_facts (takes_management d xs (Ok u)) calm = same_facts m devices ds (taking d xs ∷ ds) refl refl h.facts
    calm_facts c calm = same_facts m devices ds (deed c ∷ ds) refl refl h.facts

    sent_facts : (d : ℕ) → d < devices.count → (t : ℕ) (buffer : List ℕ) (r : Result ℕ Fault) (memory : List ℕ)
        → KeepsRules devices.count ds (deed (sends d t buffer r memory))
        → ((e : ℕ) → e < devices.count → StandingAfter (sends d t buffer r memory) e)
        → Facts m devices (deed (sends d t buffer r memory) ∷ ds)
    sent_facts d there t buffer (Ok zero) memory keeps standing =
        same_facts m devices ds (nothing ∷ ds) refl refl h.facts
    sent_facts d there t buffer (Ok (suc l)) memory keeps standing =
        transmission_facts m rules devices different ds h.facts d t
        (take (suc l) memory) k.sent there h.steady.sent_alike
        (placed image m devices k (λ e. device_after image m e (v e) (sends d t buffer (Ok (suc l)) memory))
        (transmission d t (take (suc l) memory) ∷ ds) (opened_by m k ds h.steady keeps.0) standing)
    sent_facts d there t buffer (Err f) memory keeps standing =
        same_facts m devices ds (nothing ∷ ds) refl refl h.facts

    -- a call at device d keeps how every device stands, where it keeps that of its own
    call_standing : (c : Call C) (d : ℕ) → device_of c ≡ Some d
        → Standing image m.numbers d (grant_for d) k (stepped image m (v d) c) (deed c ∷ ds)
        → (e : ℕ) → e < devices.count → StandingAfter c e
    call_standing c d at own =
        spread d (StandingAfter c) (rw (ap (is_at d) at ∙ eq-eqb d d refl) own)
        (λ e here differ.
        let off : is_at e (device_of c) ≡ false = ap (is_at e) at ∙ differ in
        let some : is_some (device_of c) ≡ true = ap is_some at in
        rw off (others.elsewhere image m e (grant_for e) k (v e) ds (deed c) (of_a_device c some)
        (of_another e c some off)
        (h.standing e here)))

    -- and what holds of the coordinator
    call_steady : (c : Call C) (d : ℕ) → device_of c ≡ Some d → Steady m k (deed c ∷ ds)
    call_steady c d at = steadily.device_steady m k ds (deed c) (of_a_device c (ap is_some at)) h.steady

    -- a device has the full address that it was made with
    addressed : (d : ℕ) → (v d).address ≡ devices.address d
    addressed d = address_of image m devices cs d

    hears_kept : (j t : ℕ) (xs : List ℕ) (r : Result (Heard C) Fault) → coordinator.Hears image m k j t xs r
        → KeepsRules devices.count ds (deed (hears j t xs r)) → Holding (hears j t xs r ∷ cs)
    hears_kept j t xs (Ok x) is keeps =
        let w = steadily.heard_tells image m k j t xs x is in
        record {
          steady = steadily.hear_steady image m rules k ds j t xs (Ok x) is h.steady;
          standing = λ e there.
              subst (λ (z : Option Grant). Standing image m.numbers e (grant_for e)
              (coordinator.accepted m.numbers k t z) (v e) (hand_up t xs x.simple x.cargo ∷ ds)) (sym w.1)
              (subst (λ (z : ℕ). Standing image m.numbers e (grant_for e)
              (coordinator.accepted m.numbers k t (Some w.0)) (v e) (hand_up t xs z x.cargo ∷ ds)) (sym w.4)
              (heard_standing k v ds h.steady h.standing h.facts t xs x.cargo w.0 w.1 w.2 w.3 w.5 keeps e there));
          facts =
              subst (λ (z : ℕ). Facts m devices (hand_up t xs z x.cargo ∷ ds)) (sym w.4)
              (heard_facts k v ds h.steady h.standing h.facts t xs x.cargo w.0 w.1 w.2 w.3 w.5 keeps);
        }
    hears_kept j t xs (Err f) is keeps = record {
      steady = steadily.hear_steady image m rules k ds j t xs (Err f) is h.steady;
      standing = λ e there. others.idle image m e (grant_for e) k (v e) ds (h.standing e there);
      facts = same_facts m devices ds (nothing ∷ ds) refl refl h.facts;
    }

    -- a frame is sent by a device that has a grant, in its turn
    sends_grounded : (d t : ℕ) (buffer : List ℕ) (l : ℕ) (memory : List ℕ)
        → Ok (suc l) ≡ device.send_answer image (v d) t buffer → (e : ℕ) → e < devices.count
        → Grounds image m devices e (v e) ds (transmission d t (take (suc l) memory))
    sends_grounded d t buffer l memory is e there same =
        by_grant (grant_for e) refl (h.standing e there)
      where
        here : Ok (suc l) ≡ device.send_answer image (v e) t buffer
        here = subst (λ (z : ℕ). Ok (suc l) ≡ device.send_answer image (v z) t buffer) same is

        by_grant : (o : Option Grant) → grant_for e ≡ o → Standing image m.numbers e o k (v e) ds
            → (g : Grant) × (grant_for e ≡ Some g) × DevicesKeep.Sends image m.numbers g t (v e)
        by_grant None found s = absurd (DevicesKeep.sends_nothing image t (v e) s.unconfigured buffer l here)
        by_grant (Some g) found s =
            (g, found, DevicesKeep.sends_by image m.numbers g t (v e) s.configured buffer l here)

    -- what is heard under the simple address of a device was sent by it
    hears_grounded : (j t : ℕ) (xs : List ℕ) (x : Heard C) → coordinator.Hears image m k j t xs (Ok x) → OnAir ds t xs
        → (e : ℕ) → e < devices.count → Grounds image m devices e (v e) ds (hand_up t xs x.simple x.cargo)
    hears_grounded j t xs x is air e there simple =
        let w = steadily.heard_tells image m k j t xs x is in
        let its = its_sender k v ds h.steady h.standing h.facts t xs x.cargo w.0 w.1 w.2 w.3 w.5 air e there
        (grant_for e) refl (simple ∙ ap Some w.4) in
        (air.0, air.1, its, air.2, air.3, air.4)

    grounded : (c : Call C) → Answers image m (hall image m devices cs) c → KeepsRules devices.count ds (deed c)
        → (e : ℕ) → e < devices.count → Grounds image m devices e (v e) ds (deed c)
    grounded (opens buffer (Ok o) memory) is keeps e there = tt
    grounded (hears j t xs (Ok x)) is keeps e there = hears_grounded j t xs x is keeps e there
    grounded (hears_management j xs buffer (Ok l) memory) is keeps e there = tt
    grounded (closes j (Ok u)) is keeps e there = tt
    grounded (takes_beacon d xs (Ok φ)) is keeps e there = tt
    grounded (is_offered d x (Ok u)) is keeps e there = tt
    grounded (takes_management d xs (Ok u)) is keeps e there = tt
    grounded (sends d t buffer (Ok (suc l)) memory) is keeps e there = sends_grounded d t buffer l memory is.0 e there
    grounded c is keeps e there = tt

    next : (c : Call C) → Answers image m (hall image m devices cs) c → Present devices.count c
        → KeepsRules devices.count ds (deed c) → Holding (c ∷ cs)
    next (set_mode mode r) is there keeps = record {
      steady = steadily.mode_steady m k ds mode r h.steady;
      standing = λ e here. others.mode_kept image m e (grant_for e) k (v e) ds mode r (h.standing e here);
      facts = calm_facts (set_mode mode r) tt;
    }
    next (opens buffer r memory) is there keeps = record {
      steady = steadily.open_steady m k ds buffer r memory is.0 is.1 h.steady;
      standing = λ e here. others.opened_kept image m e (grant_for e) k (v e) ds buffer r memory is.0 h.steady
          (h.standing e here);
      facts = calm_facts (opens buffer r memory) tt;
    }
    next (hears j t xs r) is there keeps = hears_kept j t xs r is keeps
    next (hears_management j xs buffer r memory) is there keeps = record {
      steady = steadily.manage_steady m rules k ds j xs buffer r memory is.0 is.1 h.steady;
      standing = λ e here. others.managed_kept image m e (grant_for e) k (v e) ds j xs buffer r memory
          (h.standing e here);
      facts = calm_facts (hears_management j xs buffer r memory) tt;
    }
    next (closes j r) is there keeps = record {
      steady = steadily.close_steady m k ds j r is h.steady;
      standing = λ e here. others.closed_kept image m e (grant_for e) k (v e) ds j r is
          (λ q. subst (λ (x : Deed C). KeepsRules devices.count ds x) q keeps e here) (h.standing e here);
      facts = calm_facts (closes j r) tt;
    }
    next (takes_beacon d xs r) is there keeps = record {
      steady = call_steady (takes_beacon d xs r) d refl;
      standing = call_standing (takes_beacon d xs r) d refl
          (own_beacon k ds h.steady d (devices.address d) (v d) (addressed d) (grant_for d) refl xs r is keeps
          (h.standing d there));
      facts = calm_facts (takes_beacon d xs r) tt;
    }
    next (misses_beacon d r) is there keeps = record {
      steady = call_steady (misses_beacon d r) d refl;
      standing = call_standing (misses_beacon d r) d refl
          (own_missed k ds h.steady d (devices.address d) (v d) (addressed d) (grant_for d) refl r is keeps
          (h.standing d there));
      facts = calm_facts (misses_beacon d r) tt;
    }
    next (is_offered d x r) is there keeps = record {
      steady = call_steady (is_offered d x r) d refl;
      standing = call_standing (is_offered d x r) d refl
          (own_offered k ds h.steady d (devices.address d) (v d) (addressed d) (grant_for d) refl x r is
          (h.standing d there));
      facts = calm_facts (is_offered d x r) tt;
    }
    next (sends d t buffer r memory) is there keeps =
        let standing = call_standing (sends d t buffer r memory) d refl
        (own_sent k ds h.steady d (devices.address d) (v d) (addressed d)
        (grant_for d) refl t buffer r memory is.0 is.1
        keeps (h.standing d there)) in
        record {
          steady = call_steady (sends d t buffer r memory) d refl;
          standing = standing;
          facts = sent_facts d there t buffer r memory keeps standing;
        }
    next (writes_management d buffer r memory) is there keeps = record {
      steady = call_steady (writes_management d buffer r memory) d refl;
      standing = call_standing (writes_management d buffer r memory) d refl
          (own_written k ds h.steady d (devices.address d) (v d) (addressed d) (grant_for d) refl buffer r memory is.0
          (h.standing d there));
      facts = calm_facts (writes_management d buffer r memory) tt;
    }
    next (takes_management d xs r) is there keeps = record {
      steady = call_steady (takes_management d xs r) d refl;
      standing = call_standing (takes_management d xs r) d refl
          (own_took k ds h.steady d (devices.address d) (v d) (addressed d) (grant_for d) refl xs r is keeps
          (h.standing d there));
      facts = calm_facts (takes_management d xs r) tt;
    }

  -- before the first call
  beginning_holds : Holding []
  beginning_holds = record {
    steady = steadily.begun_steady C m;
    standing = λ e there. others.begun image m e (devices.address e) (devices.wish e) (grant_of m (devices.address e))
        (λ g found. sym (grant_found m rules (devices.address e) g found).2);
    facts = record {
      present = λ x none. absurd none;
      takes = λ x none. absurd none;
      exclusive =
          λ x y t none. absurd none;
      sender = λ s none. absurd none;
    };
  }

  holding : (cs : List (Call C)) → Run image m devices cs → Holding cs
  holding [] run = beginning_holds
  holding (c ∷ cs) run = next cs (holding cs run.0) c run.1 run.2 run.3

  -- which acceptances the frames of each device carry, by what holds after each call
  carrying : (cs : List (Call C)) → Run image m devices cs → (e : ℕ) → e < devices.count
      → Carries image m devices e (deeds cs)
  carrying [] run e there = begun_carries image m devices e
  carrying (c ∷ cs) run e there =
      let h = holding (c ∷ cs) run in
      let k = (hall image m devices (c ∷ cs)).coordinator in
      next_carries image m devices e (deeds cs) (carrying cs run.0 e there) rules k
      ((hall image m devices (c ∷ cs)).devices e) (deed c) run.3 (opened_by m k (deeds (c ∷ cs)) h.steady)
      (h.standing e there)

  -- which frames its arrivals are of, and when it sends, by what holds before each call
  crediting : (cs : List (Call C)) → Run image m devices cs → (e : ℕ) → e < devices.count
      → Credits image m devices e (deeds cs)
  crediting [] run e there = begun_credits image m devices e
  crediting (c ∷ cs) run e there =
      let h = holding cs run.0 in
      let k = (hall image m devices cs).coordinator in
      next_credits image m devices e rules k ((hall image m devices cs).devices e) (deeds cs)
      (opened_by m k (deeds cs) h.steady) h.steady.earlier (h.standing e there) (deed c) run.3
      (grounded cs h c run.1 run.3 e there) (crediting cs run.0 e there)

  learning : (cs : List (Call C)) → Run image m devices cs → (e : ℕ) → Learns e (deeds cs)
  learning [] run e = begun_learns e
  learning (c ∷ cs) run e = next_learns e devices.count (deeds cs) (deed c) run.3 (learning cs run.0 e)

  carried : (cs : List (Call C)) → Run image m devices cs → (e : ℕ) → e < devices.count
      → Carried image m devices (deeds cs) e
  carried cs run e there =
      let a = carrying cs run e there in
      let b = crediting cs run e there in
      record {
        own = a.own;
        again = a.again;
        of_its_frame = b.of_its_frame;
        single = b.single;
        own_first =
            b.own_first;
        timely = b.timely;
        learns = learning cs run e;
      }

  each_by : (cs : List (Call C)) (d : ℕ) → Carried image m devices (deeds cs) d → (o : Option Grant)
      → grant_of m (devices.address d) ≡ o → (k : Inner) (v : Device C)
      → (k.opened ≡ true → 1 ≤ superframes (deeds cs)) → Standing image m.numbers d o k v (deeds cs)
      → DeviceGuaranteed m devices (deeds cs) d image
  each_by cs d c None found k v counted s =
      from_outside image m devices (deeds cs) d c v
      (ap (λ (o : Option Grant). option_map (λ (x : Grant). x.simple) o) found) s
  each_by cs d c (Some g) found k v counted s =
      from_book image m devices (deeds cs) d c (Some g.simple) v.waiting v.sent _ _ s.book
      (simple_found (devices.address d) g found) s.agrees
      (λ x among is. no_later d (deeds cs) c.learns k.opened counted x among is)

  -- a count is one exactly where there is something
  as_held : {A : Type 0} (o : Option A) → count o ≡ cond (is_some o) 1 0
  as_held None = refl
  as_held (Some x) = refl

  tells_by : (d : ℕ) (es : List (Deed C)) (o : Option Grant) (k : Inner) (v : Device C)
      → Standing image m.numbers d o k v es → DeviceTellsWhatItHolds m devices es d v
  tells_by d es None k v s = (
    s.no_waits (for_retransmission m.numbers) ∙ sym (ap (λ (o : Option C). cond (is_some o) 1 0) s.no_waiting),
    s.none_under_way (for_retransmission m.numbers) ∙ sym (ap (λ (o : Option C). cond (is_some o) 1 0) s.no_sent),
  )
  tells_by d es (Some g) k v s = (s.agrees.waits ∙ as_held v.waiting, s.agrees.under_way ∙ as_held v.sent)

  pub guaranteed : (cs : List (Call C)) → Run image m devices cs
      → Guaranteed m devices (deeds cs) image (hall image m devices cs).devices
  guaranteed cs run =
      let h = holding cs run in
      record {
        takes_its_timeslot = h.facts.takes;
        exclusive = h.facts.exclusive;
        sender = h.facts.sender;
        each = λ d there. each_by cs d (carried cs run d there) (grant_of m (devices.address d)) refl
            (hall image m devices cs).coordinator ((hall image m devices cs).devices d) h.steady.counted
            (h.standing d there);
        tells = λ d there. tells_by d (deeds cs) (grant_of m (devices.address d))
            (hall image m devices cs).coordinator ((hall image m devices cs).devices d) (h.standing d there);
      }

-- the guarantee, for every lawful plan and every lawful kind of cargo
pub guarantee : {C : Type 0} (image : C → List ℕ) → ((x : C) → length (image x) ≤ 124) → Apart image
    → (m : PlanMeaning) → Rules m → Guarantee image m
guarantee image short apart m rules devices different cs run =
    guaranteed image short apart m rules devices different cs run
