-- What holds of every run of a network.
use Rattle.std.specs.Prelude.{◌≡◌, ℕ, suc, ◌+◌, ◌<◌, ◌≤◌, Bool, true, false, cond, List, [], ◌∷◌, length}
use Rattle.std.specs.Prelude.{Some, Option, ◌≢◌}
use Rattle.std.specs.Option.{option_map}
use Rattle.frame.specs.Messages.{data_frame, octets_of}
use Rattle.plan.specs.declared.grant.Grant.{Grant}
use Rattle.plan.specs.Rules.{PlanMeaning}
use Rattle.plan.specs.Answers.{number_with}
use Rattle.device.specs.declared.device.Device.{Device}
use Rattle.device.specs.Devices.{is_waiting, has_sent}
use Rattle.device.specs.declared.fate.Fate.TheVariants as fate
use Rattle.repeats.specs.BitAndRepeatTimeslots.{for_retransmission}
use Rattle.coordinator.specs.Steps.{granted}
use Rattle.network.specs.Calls.{Call}
use Rattle.network.specs.Deeds.{Deed}
use Rattle.network.specs.History.{numbered, Among, Sending, Telling, Arrival, Repetition, Frame, Learning, sendings}
use Rattle.network.specs.History.{accepted, told, learnings, own_sendings, own_frames, repeats, arrivals, frames}
use Rattle.network.specs.History.{senders, under_way, sent_since, waits}
use Rattle.network.specs.Runs.{Devices, Different, deeds, hall, Run}

-- the grant of the device with a full address, if the plan has one
abbrev pub grant_of : PlanMeaning → ℕ → Option Grant
grant_of m address = granted m (number_with m address)

-- the simple address of a device is its grant's
abbrev pub simple_of : PlanMeaning → ℕ → Option ℕ
simple_of m address = option_map (λ g. g.simple) (grant_of m address)

-- arrivals, the newest first, are of acceptances that were accepted one after another, none of them twice
abbrev pub Falling : {C : Type 0} → List (Arrival C) → Type 0
Falling [] = Unit {0}
Falling (x ∷ xs) = ((y : Arrival _) → Among y xs → y.frame.number < x.frame.number) × Falling xs

-- frames, the newest first, of which no two of one superframe are both of the own timeslot, or both repeats
abbrev pub Single : List Frame → Type 0
Single [] = Unit {0}
Single (x ∷ xs) = ((y : Frame) → Among y xs → y.superframe ≡ x.superframe → y.own ≢ x.own) × Single xs

module _ {C : Type 0} (m : PlanMeaning) (devices : Devices) (ds : List (Deed C)) where
  -- a frame takes the base timeslots of its sender's grant, from the one on in which it was sent
  abbrev pub Takes : Sending → ℕ → Type 0
  Takes x t =
      (g : Grant) × (grant_of m (devices.address x.device) ≡ Some g) × (x.timeslot ≤ t) × (t < x.timeslot + g.width)

  -- every frame takes the timeslot in which it was sent
  abbrev pub EveryFrameTakesItsTimeslot : Type 0
  EveryFrameTakesItsTimeslot = (x : Sending) → Among x (sendings ds) → Takes x x.timeslot

  abbrev pub NoTwoDevicesShareATimeslot : Type 0
  NoTwoDevicesShareATimeslot =
      (x y : Sending) (t : ℕ) → Among x (sendings ds) → Among y (sendings ds) → x.superframe ≡ y.superframe
      → Takes x t → Takes y t → x.device ≡ y.device

  -- cargo is handed up under simple addresses of devices of the network
  abbrev pub EverySenderIsADevice : Type 0
  EverySenderIsADevice =
      (simple : ℕ) → Among simple (senders ds)
      → (d : ℕ) × (d < devices.count) × (simple_of m (devices.address d) ≡ Some simple)

  -- whether timeslot t is one for retransmission
  abbrev pub again : ℕ → Bool
  again = for_retransmission m.numbers

  -- what a device accepted, what of it was handed up, and what it told
  module _ (d : ℕ) where
    abbrev pub arrivals_of_device : List (Arrival C)
    arrivals_of_device = arrivals d again (simple_of m (devices.address d)) ds

    -- the frames that it sent
    abbrev pub frames_of_device : List Frame
    frames_of_device = frames d again ds

    -- in which superframes it sent in its own timeslot
    abbrev pub own_sendings_of_device : List ℕ
    own_sendings_of_device = own_sendings d again ds

    -- what is handed up is the acceptance with its number, unaltered
    abbrev pub EveryArrivalWasAccepted : Type 0
    EveryArrivalWasAccepted =
        (x : Arrival C) → Among x arrivals_of_device → numbered (accepted d ds) x.frame.number ≡ Some x.cargo

    -- in the order of acceptance, and none twice
    abbrev pub ArrivalsComeInOrder : Type 0
    ArrivalsComeInOrder = Falling arrivals_of_device

    -- each arrival was read out of a frame that this device sent, in that timeslot of that superframe, of the
    -- acceptance that arrived
    abbrev pub EveryArrivalIsOfAFrameOfItsDevice : Type 0
    EveryArrivalIsOfAFrameOfItsDevice = (x : Arrival C) → Among x arrivals_of_device → Among x.frame frames_of_device

    -- the own timeslot is the first one of the device's grant
    abbrev pub OwnFramesStartWithTheGrant : Type 0
    OwnFramesStartWithTheGrant =
        (x : Frame) → Among x frames_of_device → x.own ≡ true
        → (g : Grant) × (grant_of m (devices.address d) ≡ Some g) × (x.timeslot ≡ g.first)

    -- in a superframe it sends once in its own timeslot at most, and one repeat at most
    abbrev pub OneOwnFrameAndOneRepeatASuperframe : Type 0
    OneOwnFrameAndOneRepeatASuperframe = Single frames_of_device

    -- a repeat is sent in the superframe in which its acceptance is told Repeated
    abbrev pub RepeatsComeWithTheirFate : Type 0
    RepeatsComeWithTheirFate =
        (x : Frame) → Among x frames_of_device → x.own ≡ false
        → (y : Telling) × (numbered (told d ds) x.number ≡ Some y) × (y.fate ≡ fate.Repeated)
        × (y.superframe ≡ x.superframe)

    -- acceptances are those whose fates were told, the one that was sent in the own timeslot and has none yet, and
    -- the one that waits; what has no fate yet is what was sent since the last news
    abbrev pub AcceptancesAreAccountedFor : Type 0
    AcceptancesAreAccountedFor =
        (length (accepted d ds) ≡ length (told d ds) + under_way d again ds + waits d again ds)
        × (under_way d again ds ≡ sent_since d again ds)

    -- the account's cargo that waits, and that was sent and has no fate yet, is what the device itself says of these
    abbrev pub DeviceTellsWhatItHolds : Device C → Type 0
    DeviceTellsWhatItHolds v =
        (waits d again ds ≡ cond (is_waiting v) 1 0) × (under_way d again ds ≡ cond (has_sent v) 1 0)

    -- the fate of acceptance k is told in the superframe after the one in which it was sent in its own timeslot
    abbrev pub FatesComeWithTheNextSuperframe : Type 0
    FatesComeWithTheNextSuperframe =
        (k : ℕ) (x : Telling) → numbered (told d ds) k ≡ Some x
        → (sent : ℕ) × (numbered own_sendings_of_device k ≡ Some sent) × (x.superframe ≡ suc sent)

    -- acceptance k was handed up from its own timeslot
    abbrev pub HandedUpFromItsOwnTimeslot : ℕ → Type 0
    HandedUpFromItsOwnTimeslot k =
        (x : Arrival C) × Among x arrivals_of_device × (x.frame.number ≡ k) × (x.frame.own ≡ true)

    -- with the news of the superframe after the one in which acceptance k was sent in its own timeslot, its fate is
    -- told
    abbrev pub TheNextNewsTellsTheFate : Type 0
    TheNextNewsTellsTheFate =
        (k sent : ℕ) (x : Learning) → numbered own_sendings_of_device k ≡ Some sent → Among x (learnings d ds)
        → x.superframe ≡ suc sent
        → (y : Telling) × (numbered (told d ds) k ≡ Some y) × (y.superframe ≡ x.superframe) × (y.online ≡ x.online)

    -- of a fate that was told: it is Confirmed exactly when acceptance k was handed up from its own timeslot, and the
    -- news that told it was an Online beacon taken
    abbrev pub ConfirmedGoesByTheNewsThatTellsIt : Type 0
    ConfirmedGoesByTheNewsThatTellsIt =
        (k : ℕ) (x : Telling) → numbered (told d ds) k ≡ Some x
        → (x.fate ≡ fate.Confirmed → HandedUpFromItsOwnTimeslot k × (x.online ≡ true))
        × (HandedUpFromItsOwnTimeslot k × (x.online ≡ true) → x.fate ≡ fate.Confirmed)

    -- the device took the beacon of the superframe after the one in which acceptance k was sent in its own timeslot,
    -- an Online one
    abbrev pub TookTheNextBeaconOnline : ℕ → Type 0
    TookTheNextBeaconOnline k =
        (sent : ℕ) × (x : Learning) × (numbered own_sendings_of_device k ≡ Some sent) × Among x (learnings d ds)
        × (x.superframe ≡ suc sent) × (x.online ≡ true)

    -- Confirmed was told of acceptance k
    abbrev pub ToldConfirmed : ℕ → Type 0
    ToldConfirmed k = (x : Telling) × (numbered (told d ds) k ≡ Some x) × (x.fate ≡ fate.Confirmed)

    -- Confirmed is told of an acceptance exactly when it was handed up from its own timeslot and the next
    -- superframe's beacon, an Online one, was taken
    abbrev pub ConfirmedExactlyWhenHandedUp : Type 0
    ConfirmedExactlyWhenHandedUp =
        (k : ℕ) → (ToldConfirmed k → HandedUpFromItsOwnTimeslot k × TookTheNextBeaconOnline k)
        × (HandedUpFromItsOwnTimeslot k × TookTheNextBeaconOnline k → ToldConfirmed k)

    abbrev pub NothingLostIsHandedUp : Type 0
    NothingLostIsHandedUp =
        (k : ℕ) (x : Telling) → numbered (told d ds) k ≡ Some x → x.fate ≡ fate.Lost
        → (y : Arrival C) → Among y arrivals_of_device → y.frame.number ≢ k

    module _ (image : C → List ℕ) where
      -- the k-th frame that a device sent in its own timeslot is the data frame of its acceptance k
      abbrev pub OwnFramesCarryTheirAcceptances : Type 0
      OwnFramesCarryTheirAcceptances =
          (k : ℕ) (xs : List ℕ) → numbered (own_frames d again ds) k ≡ Some xs
          → (x : C) × (numbered (accepted d ds) k ≡ Some x) × (xs ≡ octets_of (data_frame (image x)))

      -- a repeat is the data frame of the acceptance whose fate was told last before it, and that fate is Repeated;
      -- it is also the one that was sent in the own timeslot last, up to the superframe before
      abbrev pub RepeatsCarryWhatWasToldRepeated : Type 0
      RepeatsCarryWhatWasToldRepeated =
          (y : Repetition) → Among y (repeats d again ds)
          → (x : C) × (t : Telling) × (numbered (accepted d ds) y.number ≡ Some x)
          × (y.octets ≡ octets_of (data_frame (image x)))
          × (numbered (told d ds) y.number ≡ Some t) × (t.fate ≡ fate.Repeated) × (y.number ≡ y.told)

      -- what a device may count on, where cargo is carried by its image
      pub record DeviceGuaranteed : Type 0 where
        pub accepted_before : EveryArrivalWasAccepted
        pub in_order : ArrivalsComeInOrder
        pub accounted : AcceptancesAreAccountedFor
        pub next_superframe : FatesComeWithTheNextSuperframe
        pub fate_told : TheNextNewsTellsTheFate
        pub by_news : ConfirmedGoesByTheNewsThatTellsIt
        pub confirmed : ConfirmedExactlyWhenHandedUp
        pub lost : NothingLostIsHandedUp
        pub own_frames_carry : OwnFramesCarryTheirAcceptances
        pub of_its_frame : EveryArrivalIsOfAFrameOfItsDevice
        pub own_first : OwnFramesStartWithTheGrant
        pub single : OneOwnFrameAndOneRepeatASuperframe
        pub repeats_timely : RepeatsComeWithTheirFate
        pub repeats_carry : RepeatsCarryWhatWasToldRepeated

  -- what holds of a run, which left the devices as `v`
  pub record Guaranteed (image : C → List ℕ) (v : ℕ → Device C) : Type 0 where
    pub takes_its_timeslot : EveryFrameTakesItsTimeslot
    pub exclusive : NoTwoDevicesShareATimeslot
    pub sender : EverySenderIsADevice
    pub each : (d : ℕ) → d < devices.count → DeviceGuaranteed d image
    pub tells : (d : ℕ) → d < devices.count → DeviceTellsWhatItHolds d (v d)

-- every run, of any calls and losses, with any number of devices of different full addresses
abbrev pub Guarantee : {C : Type 0} → (C → List ℕ) → PlanMeaning → Type 0
Guarantee {C = C} image m =
    (devices : Devices) → Different devices → (cs : List (Call C)) → Run image m devices cs
    → Guaranteed m devices (deeds cs) image (hall image m devices cs).devices
