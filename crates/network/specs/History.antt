-- What a history of deeds tells. Histories have the newest deed first.
use Rattle.std.specs.Prelude.{◌≡◌, ℕ, suc, Bool, true, false, cond, not, ◌&&◌, ◌⊎◌, List, [], ◌∷◌, map, filter}
use Rattle.std.specs.Prelude.{length, Some, None, Option, ◌==◌, nat_lt, unwrap_or}
use Rattle.std.specs.List.{cons_option}
use Rattle.std.specs.Option.{option_map}
use Rattle.frame.specs.Octets.{bits, octet}
use Rattle.device.specs.declared.fate.Fate.{Fate}
use Rattle.network.specs.Deeds.{Deed, opening, closing, hand_up, reply, news, acceptance, transmission}

-- the entry with a number, from 1 for the oldest
abbrev pub numbered : {A : Type 0} → List A → ℕ → Option A
numbered [] k = None
numbered (x ∷ xs) k = cond (k == suc (length xs)) (Some x) (numbered xs k)

-- an entry of a list
abbrev pub Among : {A : Type 0} → A → List A → Type 0
Among x [] = ⊥
Among x (y ∷ ys) = (x ≡ y) ⊎ Among x ys

-- a data frame that was sent: by which device, in which superframe of the run, counted from 1, at which timeslot, and
-- its octets
pub record Sending : Type 0 where
  pub device : ℕ
  pub superframe : ℕ
  pub timeslot : ℕ
  pub octets : List ℕ

-- a fate that was told: in which superframe of the run, and whether an Online beacon was taken then
pub record Telling : Type 0 where
  pub fate : Fate
  pub superframe : ℕ
  pub online : Bool

-- news that a device had of a beacon: in which superframe of the run, and whether an Online beacon was taken
pub record Learning : Type 0 where
  pub superframe : ℕ
  pub online : Bool

-- a data frame of a device: the number of the acceptance that it carries, whether it is of the device's own timeslot
-- or else a repeat, in which superframe of the run, at which timeslot, and its octets
pub record Frame : Type 0 where
  pub number : ℕ
  pub own : Bool
  pub superframe : ℕ
  pub timeslot : ℕ
  pub octets : List ℕ

-- cargo that was handed up, and the frame that it was read out of
pub record Arrival (C : Type 0) : Type 0 where
  pub cargo : C
  pub frame : Frame

-- a frame that was sent as a repeat: the number of the acceptance that it repeats, how many fates the device had
-- told, and its octets
pub record Repetition : Type 0 where
  pub number : ℕ
  pub told : ℕ
  pub octets : List ℕ

-- whether a beacon's octets announce Online: the state code in bits 0 to 2 of the second octet is 0
abbrev pub announces_online : Option (List ℕ) → Bool
announces_online None = false
announces_online (Some xs) = bits 0 3 (octet xs 1) == 0

-- a fate that is told, if one is
abbrev pub telling : ℕ → Bool → Option Fate → Option Telling
telling k online φ = option_map (λ f. record { fate = f; superframe = k; online = online }) φ

-- whether a simple address is the one that a device has, if it has one
abbrev pub is_under : Option ℕ → ℕ → Bool
is_under None simple = false
is_under (Some address) simple = simple == address

-- whether a frame is of device e, and not in a timeslot for retransmission
abbrev pub is_own : ℕ → (ℕ → Bool) → Sending → Bool
is_own e again x = x.device == e && not (again x.timeslot)

-- how many of some superframes come before superframe k
abbrev pub before : ℕ → List ℕ → ℕ
before k ss = length (filter (λ s. nat_lt s k) ss)

module _ {C : Type 0} where
  -- how many superframes were opened
  abbrev pub superframes : List (Deed C) → ℕ
  superframes [] = 0
  superframes (opening xs ∷ ds) = suc (superframes ds)
  superframes (d ∷ ds) = superframes ds

  module _ {A : Type 0} where
    -- what the deeds of a history tell, the newest first; each deed is asked with the history before it
    abbrev pub picked : (List (Deed C) → Deed C → Option A) → List (Deed C) → List A
    picked tells [] = []
    picked tells (d ∷ ds) = cons_option (tells ds d) (picked tells ds)

    -- what the newest deed tells that tells anything, or else what held before the first
    abbrev pub newest : (Deed C → Option A) → A → List (Deed C) → A
    newest tells first [] = first
    newest tells first (d ∷ ds) = unwrap_or (tells d) (newest tells first ds)

  -- What an onlooker sees of the network.

  -- the beacon of the open superframe, or none where no superframe is open
  abbrev pub announced_by : Deed C → Option (Option (List ℕ))
  announced_by (opening xs) = Some (Some xs)
  announced_by closing = Some None
  announced_by d = None

  abbrev pub announced : List (Deed C) → Option (List ℕ)
  announced ds = newest announced_by None ds

  -- the management frames that the coordinator wrote
  abbrev pub replied_by : List (Deed C) → Deed C → Option (List ℕ)
  replied_by past (reply xs) = Some xs
  replied_by past d = None

  abbrev pub replies : List (Deed C) → List (List ℕ)
  replies ds = picked replied_by ds

  -- the data frames that were sent
  abbrev pub sent_by : List (Deed C) → Deed C → Option Sending
  sent_by past (transmission d t xs) =
      Some (record { device = d; superframe = superframes past; timeslot = t; octets = xs })
  sent_by past d = None

  abbrev pub sendings : List (Deed C) → List Sending
  sendings ds = picked sent_by ds

  -- the simple addresses under which cargo was handed up
  abbrev pub sender_by : List (Deed C) → Deed C → Option ℕ
  sender_by past (hand_up t xs simple x) = Some simple
  sender_by past d = None

  abbrev pub senders : List (Deed C) → List ℕ
  senders ds = picked sender_by ds

  -- What is told of device e.

  module _ (e : ℕ) where
    -- whether it had news of its beacon since the last opening
    abbrev pub learned_by : Deed C → Option Bool
    learned_by (opening xs) = Some false
    learned_by (news d b φ) = cond (d == e) (Some true) None
    learned_by d = None

    abbrev pub learned : List (Deed C) → Bool
    learned ds = newest learned_by false ds

    -- the news that it had
    abbrev pub learning_by : List (Deed C) → Deed C → Option Learning
    learning_by past (news d b φ) =
        cond (d == e) (Some (record { superframe = superframes past; online = announces_online b })) None
    learning_by past d = None

    abbrev pub learnings : List (Deed C) → List Learning
    learnings ds = picked learning_by ds

    -- the cargo that it accepted
    abbrev pub accepted_by : List (Deed C) → Deed C → Option C
    accepted_by past (acceptance d x) = cond (d == e) (Some x) None
    accepted_by past d = None

    abbrev pub accepted : List (Deed C) → List C
    accepted ds = picked accepted_by ds

    -- the fates that it told
    abbrev pub told_by : List (Deed C) → Deed C → Option Telling
    told_by past (news d b φ) = cond (d == e) (telling (superframes past) (announces_online b) φ) None
    told_by past d = None

    abbrev pub told : List (Deed C) → List Telling
    told ds = picked told_by ds

    -- Of its frames: `again` says whether a timeslot is one for retransmission, and so not its own.
    module _ (again : ℕ → Bool) where
      -- the superframes in which it sent in its own timeslot, and the octets of these frames. Acceptances are sent in
      -- their order, one cargo waiting at a time, so the k-th of these frames is that of acceptance k.
      abbrev pub own_sendings : List (Deed C) → List ℕ
      own_sendings ds = map (λ (x : Sending). x.superframe) (filter (is_own e again) (sendings ds))

      abbrev pub own_frames : List (Deed C) → List (List ℕ)
      own_frames ds = map (λ (x : Sending). x.octets) (filter (is_own e again) (sendings ds))

      -- the number of the acceptance that is repeated now: how many frames it had sent in its own timeslot up to the
      -- superframe before
      abbrev pub repeated : List (Deed C) → ℕ
      repeated ds = before (superframes ds) (own_sendings ds)

      -- a frame at timeslot t: a repeat, or else of acceptance `fresh`
      abbrev pub frame_at : List (Deed C) → ℕ → ℕ → List ℕ → Frame
      frame_at ds t fresh xs =
          cond (again t)
          (record { number = repeated ds; own = false; superframe = superframes ds; timeslot = t; octets = xs })
          (record { number = fresh; own = true; superframe = superframes ds; timeslot = t; octets = xs })

      -- the data frames that it sent: in its own timeslot each is of the next acceptance
      abbrev pub frame_by : List (Deed C) → Deed C → Option Frame
      frame_by past (transmission d t xs) =
          cond (d == e) (Some (frame_at past t (suc (length (own_sendings past))) xs)) None
      frame_by past d = None

      abbrev pub frames : List (Deed C) → List Frame
      frames ds = picked frame_by ds

      -- those that it sent as repeats
      abbrev pub repeat_by : List (Deed C) → Deed C → Option Repetition
      repeat_by past (transmission d t xs) =
          cond (d == e && again t)
          (Some (record { number = repeated past; told = length (told past); octets = xs })) None
      repeat_by past d = None

      abbrev pub repeats : List (Deed C) → List Repetition
      repeats ds = picked repeat_by ds

      -- what was handed up of it, under its simple address, if it has one. What is heard in its own timeslot is the
      -- frame that it sent there last.
      abbrev pub arrival_by : Option ℕ → List (Deed C) → Deed C → Option (Arrival C)
      arrival_by address past (hand_up t xs simple x) =
          cond (is_under address simple)
          (Some (record { cargo = x; frame = frame_at past t (length (own_sendings past)) xs })) None
      arrival_by address past d = None

      abbrev pub arrivals : Option ℕ → List (Deed C) → List (Arrival C)
      arrivals address ds = picked (arrival_by address) ds

      -- one where it sent in its own timeslot and told no fate since, else none
      abbrev pub under_way_by : Deed C → Option ℕ
      under_way_by (news d b φ) = cond (d == e) (option_map (λ f. 0) φ) None
      under_way_by (transmission d t xs) = cond (d == e && not (again t)) (Some 1) None
      under_way_by d = None

      abbrev pub under_way : List (Deed C) → ℕ
      under_way ds = newest under_way_by 0 ds

      -- one where it sent in its own timeslot since its last news, else none
      abbrev pub sent_since_by : Deed C → Option ℕ
      sent_since_by (news d b φ) = cond (d == e) (Some 0) None
      sent_since_by (transmission d t xs) = cond (d == e && not (again t)) (Some 1) None
      sent_since_by d = None

      abbrev pub sent_since : List (Deed C) → ℕ
      sent_since ds = newest sent_since_by 0 ds

      -- one where it accepted cargo since it last sent in its own timeslot, else none
      abbrev pub waits_by : Deed C → Option ℕ
      waits_by (acceptance d x) = cond (d == e) (Some 1) None
      waits_by (transmission d t xs) = cond (d == e && not (again t)) (Some 0) None
      waits_by d = None

      abbrev pub waits : List (Deed C) → ℕ
      waits ds = newest waits_by 0 ds
