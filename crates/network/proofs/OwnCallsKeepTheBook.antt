-- The calls at a device keep what holds of it.
use Rattle.std.proofs.Common.{◌≡◌, ℕ, suc, Bool, true, false, cond, not, ◌||◌, eqb, ltb, ◌⊎◌, List, []}
use Rattle.std.proofs.Common.{◌∷◌, ◌++◌, map, length, take, drop, is_some, is_ok, Some, None, Ok, Err, Option, Result}
use Rattle.std.proofs.Common.{sym, refl, ap, ◌∙◌, subst, inl, inr, arith}
use Rattle.std.proofs.lemmas.Bool.{both_ways, cond_both, eq-eqb, eqb-true, or_parts, not-false}
use Rattle.std.proofs.lemmas.List.{take_at}
use Rattle.frame.specs.declared.faults.Fault.{Fault}
use Rattle.frame.specs.declared.command.Configuration.{Configuration}
use Rattle.frame.specs.declared.command.Wish.{Wish}
use Rattle.frame.specs.declared.acknowledgment.Acknowledged.TheVariants as acknowledgments
use Rattle.frame.specs.declared.command.Command.TheVariants as commands
use Rattle.frame.specs.Formats.{Told, reading}
use Rattle.frame.specs.Messages.{acknowledgment_frame, command_frame}
use Rattle.frame.specs.Writing.{left_by}
use Rattle.frame.proofs.WrittenReadsBack.{reads_back}
use Rattle.plan.specs.declared.grant.Grant.{Grant}
use Rattle.plan.specs.declared.numbers.Numbers.{Numbers}
use Rattle.plan.specs.Rules.{PlanMeaning, Rules, grant_at}
use Rattle.plan.proofs.Lawful.{addresses_differ, grant_keeps}
use Rattle.repeats.specs.BitAndRepeatTimeslots.{for_retransmission}
use Rattle.repeats.specs.Starts.{repeat_start}
use Rattle.network.proofs.FramesAreOwnOrRepeats.{own_is_no_repeat, repeats_are_for_retransmission}
use Rattle.coordinator.specs.declared.state.Inner.{Inner}
use Rattle.coordinator.specs.Frames.{configuration_for}
use Rattle.coordinator.specs.Steps.{beacon_of}
use Rattle.device.specs.declared.device.Device.{Device}
use Rattle.device.specs.declared.news.News.{News}
use Rattle.device.specs.declared.phase.Phase.{Phase}
use Rattle.device.specs.Phases.{thanked}
use Rattle.device.specs.declared.phase.Phase.TheVariants as phase
use Rattle.device.specs.Steps as device
use Rattle.device.specs.declared.repeat.Repeat.{Repeat}
use Rattle.device.specs.Steps.{Turn, silent, fresh, again, frame_of, after_turn, Taken, take_answer_by, take_state_by}
use Rattle.device.specs.Steps.{taken_in, taken_as, taken_by, holding, offer_answer_in, offer_answer, offer_state}
use Rattle.device.specs.Steps.{in_phase, is_missed, write_answer, write_state}
use Rattle.network.specs.Calls as calls
use Rattle.network.specs.Calls.{is_offered, writes_management, takes_management}
use Rattle.network.specs.Deeds.{Deed, acceptance, transmission, taking, nothing, sent_deed, deed}
use Rattle.network.specs.History.{Among, Sending, superframes, learned, announced, replies, sendings, accepted}
use Rattle.network.specs.Runs.{KeepsRules}
use Rattle.network.proofs.DeviceBook.{Line, listed}
use Rattle.network.proofs.OtherCallsKeepTheBook.{unmoved, sound_still}
use Rattle.network.proofs.StateAgreesWithHistory.{Sound, frame_with, OwnFrame, AgainFrame, Outside, ReplyOf, Steady}

-- a device as before but for its wish, phase, configuration and news
abbrev refit : {C : Type 0} → Device C → Wish → Phase → Option Configuration → News → Device C
refit v wish phase c brought = record {
  address = v.address;
  wish = wish;
  phase = phase;
  configuration = c;
  news = brought;
  waiting = v.waiting;
  sent = v.sent;
  repeat = v.repeat;
}

module _ {C : Type 0} (image : C → List ℕ) (n : Numbers) (e : ℕ) (g : Grant) (opened : Bool) (gathered sent : List ℕ)
    (last : ℕ) where
  abbrev Kept : Device C → List (Deed C) → Type 0
  Kept v ds = Sound image n e g opened gathered sent last v ds

  abbrev Frames : Device C → List (Line C) → Sending → Type 0
  Frames v book x = OwnFrame image n g v x ⊎ AgainFrame image n g sent last v book x

  -- the frames of a device are those of one that sent and repeats the same
  frames_as : (v w : Device C) (book : List (Line C)) (x : Sending) → w.sent ≡ v.sent → w.repeat ≡ v.repeat
      → Frames v book x → Frames w book x
  frames_as v w book x s r (inl f) =
      inl (record { timeslot = f.timeslot; cargo = f.cargo; sent = s ∙ f.sent; octets = f.octets })
  frames_as v w book x s r (inr f) =
      inr (record { cargo = f.cargo; to_repeat = f.to_repeat; octets = f.octets; spent = r ∙ f.spent; once = f.once })

  module _ (v : Device C) (ds : List (Deed C)) (wish : Wish) (phase : Phase) (c : Option Configuration)
      (brought : News) (configured : (d : Configuration) → c ≡ Some d → d ≡ configuration_for n g)
      (bound : c ≡ None → v.sent ≡ None) where
    refitted : Kept v ds → Kept (refit v wish phase c brought) (nothing ∷ ds)
    refitted s = record {
      address = s.address;
      configured = configured;
      bound = bound;
      book = s.book;
      agrees = record {
        accepts = s.agrees.accepts;
        tells = s.agrees.tells;
        sends = s.agrees.sends;
        arrives = s.agrees.arrives;
        just = s.agrees.just;
        before = s.agrees.before;
        under_way = s.agrees.under_way;
        sent_since = s.agrees.sent_since;
        waits = s.agrees.waits;
      };
      unheard = s.unheard;
      late = s.late;
      quiet = s.quiet;
      due = s.due;
      frames = λ o x among d k.
          let f = s.frames o x among d k in (f.0, frames_as v (refit v wish phase c brought) s.book x refl refl f.1);
    }

    refitted_taking : (xs : List ℕ) → Kept v ds → Kept (refit v wish phase c brought) (taking e xs ∷ ds)
    refitted_taking xs s = sound_still image n e g opened gathered sent last (refit v wish phase c brought)
        (taking e xs ∷ ds) (nothing ∷ ds) (unmoved e ds) refl refl (refitted s)

  -- a deed that comes to nothing
  pub idle : (v : Device C) (ds : List (Deed C)) → Kept v ds → Kept v (nothing ∷ ds)
  idle v ds s = refitted v ds v.wish v.phase v.configuration v.news s.configured s.bound s

  rephased : (v : Device C) (ds : List (Deed C)) (p : Phase) → Kept v ds → Kept (in_phase v p) (nothing ∷ ds)
  rephased v ds p s = refitted v ds v.wish p v.configuration v.news s.configured s.bound s

  write_keeps : (v : Device C) (ds : List (Deed C)) (buffer : List ℕ) (r : Result ℕ Fault) (memory : List ℕ)
      → r ≡ write_answer v buffer → Kept v ds
      → Kept (write_state v buffer) (deed (writes_management e buffer r memory) ∷ ds)
  write_keeps v ds buffer r memory q s =
      cond_both (is_ok (write_answer v buffer)) (cond (is_missed v.news) v (in_phase v (thanked v.phase))) v
      (λ (w : Device C). Kept w (nothing ∷ ds))
      (λ _. cond_both (is_missed v.news) v (in_phase v (thanked v.phase)) (λ (w : Device C). Kept w (nothing ∷ ds))
      (λ _. idle v ds s) (λ _. rephased v ds (thanked v.phase) s))
      (λ _. idle v ds s)

  -- cargo is accepted where none waits
  accepting : (c : Option Configuration) (w : Option C) (x : C) → Ok tt ≡ offer_answer_in image c w x → w ≡ None
  accepting None w x q = absurd cc
  accepting (Some c) None x q = refl
  accepting (Some c) (Some y) x q = absurd cc

  held : (v : Device C) (ds : List (Deed C)) (x : C) → v.waiting ≡ None → Kept v ds
      → Kept (holding v x) (acceptance e x ∷ ds)
  held v ds x none s =
      let itself = eq-eqb e e refl in
      let before : accepted e ds ≡ listed v.sent ++ map (λ y. y.cargo) s.book =
      s.agrees.accepts ∙ ap (λ (w : Option C). listed w ++ (listed v.sent ++ map (λ y. y.cargo) s.book)) none in
      record {
        address = s.address;
        configured = s.configured;
        bound = s.bound;
        book = s.book;
        agrees = record {
          accepts = rw itself (ap (λ (l : List C). x ∷ l) before);
          tells = s.agrees.tells;
          sends = s.agrees.sends;
          arrives = s.agrees.arrives;
          just = s.agrees.just;
          before = s.agrees.before;
          under_way = s.agrees.under_way;
          sent_since = s.agrees.sent_since;
          waits = rw itself refl;
        };
        unheard = s.unheard;
        late = s.late;
        quiet = s.quiet;
        due = s.due;
        frames = λ o y among d k.
            let f = s.frames o y among d k in (f.0, frames_as v (holding v x) s.book y refl refl f.1);
      }

  offer_keeps : (v : Device C) (ds : List (Deed C)) (x : C) (r : Result (Unit {0}) Fault) → r ≡ offer_answer image v x
      → Kept v ds → Kept (offer_state image v x) (deed (is_offered e x r) ∷ ds)
  offer_keeps v ds x (Ok tt) q s = rw (← q) (held v ds x (accepting v.configuration v.waiting x q) s)
  offer_keeps v ds x (Err f) q s = rw (← q) (idle v ds s)

  -- a management frame that was taken, where a configuration that it brings is the grant's
  took_by : (v : Device C) (ds : List (Deed C)) (t : Result Taken Fault) (xs : List ℕ) (r : Result (Unit {0}) Fault)
      (count : ℕ) → r ≡ take_answer_by t → KeepsRules count ds (deed (takes_management e xs r))
      → (Among xs (replies ds) → (c : Configuration) → t ≡ Ok (device.configured c) → c ≡ configuration_for n g)
      → Kept v ds → Kept (take_state_by v t) (deed (takes_management e xs r) ∷ ds)
  took_by v ds (Ok device.acknowledgment) xs (Ok tt) count q keeps own s =
      refitted_taking v ds v.wish phase.Known v.configuration v.news s.configured s.bound xs s
  took_by v ds (Ok (device.configured c)) xs (Ok tt) count q keeps own s =
      refitted_taking v ds v.wish phase.Thanking (Some c) v.news
      (λ d h. let same : d ≡ c = cc in same ∙ own keeps c refl)
      (λ h. absurd cc) xs s
  took_by v ds (Err f) xs (Ok tt) count q keeps own s = absurd cc
  took_by v ds (Ok device.acknowledgment) xs (Err f) count q keeps own s = absurd cc
  took_by v ds (Ok (device.configured c)) xs (Err f) count q keeps own s = absurd cc
  took_by v ds (Err f) xs (Err h) count q keeps own s = idle v ds s

-- a configuration that is taken is the one that came, to this device
passed : (b k : Bool) (f h : Fault) (c d : Configuration)
    → ◌≡◌ {A = Result Taken Fault} (cond b (Err f) (cond k (Ok (device.configured d)) (Err h)))
    (Ok (device.configured c)) → (b ≡ false) × (c ≡ d)
passed true k f h c d q = absurd cc
passed false true f h c d q = (refl, cc)
passed false false f h c d q = absurd cc

module _ {C : Type 0} (m : PlanMeaning) (v : Device C) where
  -- a configuration that is taken of one of the coordinator's replies is that of the grant with the device's address
  abbrev Given : Configuration → Type 0
  Given c = (i : ℕ) × (g : Grant) × (grant_at m i ≡ Some g) × (g.address ≡ v.address)
      × (c ≡ configuration_for m.numbers g)

  asked : (asking : Bool) (i : ℕ) (g : Grant) (c : Configuration) → grant_at m i ≡ Some g
      → taken_by v asking
      (command_frame (commands.ConfigurationRequest g.address (configuration_for m.numbers g))) ≡ Ok
      (device.configured c) → Given c
  asked false i g c at q = absurd cc
  asked true i g c at q =
      let p = passed
      (not (eqb g.address v.address) || device.estranged v.configuration (configuration_for m.numbers g)) _ _ _ c
      (configuration_for m.numbers g) q in
      (i, g, at, eqb-true _ _ (not-false _ (or_parts _ _ p.0).0), p.1)

  thanked_only : (asking : Bool) (c : Configuration)
      → taken_by v asking (acknowledgment_frame acknowledgments.DiscoverResponse) ≡ Ok (device.configured c) → ⊥
  thanked_only false c q = absurd cc
  thanked_only true c q = absurd cc

  module _ (rules : Rules m) where
    given_as : (asking : Bool) (xs : List ℕ) (c : Configuration) → ReplyOf m xs
        → taken_as v asking (reading xs) ≡ Ok (device.configured c) → Given c
    given_as asking xs c (inl empty) q =
        let h : taken_as v asking (reading []) ≡ Ok (device.configured c) =
        subst (λ (l : List ℕ). taken_as v asking (reading l) ≡ Ok (device.configured c)) empty q in
        absurd cc
    given_as asking xs c (inr (inl thanks)) q =
        absurd (thanked_only asking c
        (subst (λ (l : List ℕ). taken_as v asking (reading l) ≡ Ok (device.configured c)) thanks q))
    given_as asking xs c (inr (inr (i, g, at, request))) q =
        let h = subst (λ (l : List ℕ). taken_as v asking (reading l) ≡ Ok (device.configured c)) request q in
        let back =
        reads_back (command_frame (commands.ConfigurationRequest g.address (configuration_for m.numbers g)))
        (grant_keeps m rules i g at).address (omega arith) in
        asked asking i g c at
        (subst (λ (t : Result Told Fault). taken_as v asking t ≡ Ok (device.configured c)) back h)

    given_in : (p : Phase) (xs : List ℕ) (c : Configuration) → ReplyOf m xs
        → taken_in v p xs ≡ Ok (device.configured c) → Given c
    given_in phase.Idle xs c reply q = absurd cc
    given_in phase.Answering xs c reply q = given_as false xs c reply q
    given_in phase.Known xs c reply q = absurd cc
    given_in phase.Asking xs c reply q = given_as true xs c reply q
    given_in phase.Thanking xs c reply q = absurd cc
    given_in phase.Set xs c reply q = absurd cc
    given_in phase.Running xs c reply q = absurd cc

    given : (xs : List ℕ) (c : Configuration) → ReplyOf m xs → device.taking v xs ≡ Ok (device.configured c) → Given c
    given xs c reply q = given_in v.phase xs c reply q

module _ {C : Type 0} (image : C → List ℕ) (n : Numbers) (g : Grant) (t : ℕ) where
  -- what a turn tells of the configuration, what waits, what was sent and the repeat
  abbrev Turns : Option Configuration → Option C → Option C → Option (Repeat C) → Turn C → Type 0
  Turns c w o r silent = Unit {0}
  Turns c w o r (fresh x) = (c ≡ None → ⊥) × (w ≡ Some x) × (o ≡ None) × (t ≡ g.first)
  Turns c w o r (again x) = r ≡ Some (record { start = t; cargo = x })

  fresh_turns : (c : Configuration) (w o : Option C) (r : Option (Repeat C)) → t ≡ g.first
      → Turns (Some c) w o r (device.fresh_turn image c w o)
  fresh_turns c None o r h = tt
  fresh_turns c (Some x) (Some y) r h = tt
  fresh_turns c (Some x) None r h =
      cond_both (ltb (device.room_in c) (length (image x))) silent (fresh x) (Turns (Some c) (Some x) None r)
      (λ _. tt)
      (λ _. (λ z. absurd cc, refl, refl, h))

  again_turns : (c : Option Configuration) (w o : Option C) (r : Option (Repeat C))
      → Turns c w o r (device.again_turn t r)
  again_turns c w o None = tt
  again_turns c w o (Some r) =
      cond_both (eqb t r.start) (again r.cargo) silent (Turns c w o (Some r))
      (λ h. ap (λ (s : ℕ). Some (record { start = s; cargo = r.cargo })) (sym (eqb-true _ _ h))) (λ _. tt)

  turns_in : (v : Device C) (c : Option Configuration)
      → ((d : Configuration) → c ≡ Some d → d ≡ configuration_for n g)
      → Turns c v.waiting v.sent v.repeat (device.turn_in image v c t)
  turns_in v None own = tt
  turns_in v (Some c) own =
      cond_both (not (device.is_on v.news)) silent
      (cond (eqb t c.first) (device.fresh_turn image c v.waiting v.sent) (device.again_turn t v.repeat))
      (Turns (Some c) v.waiting v.sent v.repeat) (λ _. tt)
      (λ _. cond_both (eqb t c.first) (device.fresh_turn image c v.waiting v.sent) (device.again_turn t v.repeat)
      (Turns (Some c) v.waiting v.sent v.repeat)
      (λ h. fresh_turns c v.waiting v.sent v.repeat
      (eqb-true _ _ h ∙ ap (λ (d : Configuration). d.first) (own c refl)))
      (λ _. again_turns (Some c) v.waiting v.sent v.repeat))

module _ {C : Type 0} (image : C → List ℕ) (n : Numbers) (e : ℕ) (g : Grant) (gathered sent : List ℕ) (last : ℕ)
    (v : Device C) (ds : List (Deed C)) (aware : learned e ds ≡ true)
    (s : Sound image n e g true gathered sent last v ds) (t : ℕ) where
  abbrev Then : Device C → List (Deed C) → Type 0
  Then w es = Sound image n e g true gathered sent last w es

  abbrev sending : C → Sending
  sending x = record { device = e; superframe = superframes ds; timeslot = t; octets = frame_with image n x }

  fresh_frames : (x : C) (y : Sending) → v.sent ≡ None → t ≡ g.first → Among y (sending x ∷ sendings ds)
      → y.device ≡ e → y.superframe ≡ superframes ds
      → (learned e ds ≡ true) × Frames image n e g true gathered sent last (after_turn v (fresh x)) s.book y
  fresh_frames x y none own (inl new) d k = (
    aware,
    inl
        (record {
          timeslot = ap (λ (z : Sending). z.timeslot) new ∙ own;
          cargo = x;
          sent = refl;
          octets =
              ap (λ (z : Sending). z.octets) new;
        }),
  )
  fresh_frames x y none own (inr old) d k =
      elim (s.frames refl y old d k).1 [
        | inl f ↦ let before = f.sent in absurd cc
        | inr f ↦ (
          aware,
          inr
              (record {
                cargo = f.cargo;
                to_repeat = f.to_repeat;
                octets = f.octets;
                spent = f.spent;
                once =
                    f.once;
              }),
        )
      ]

  fresh_sent : (x : C) → (v.configuration ≡ None → ⊥) → v.waiting ≡ Some x → v.sent ≡ None → t ≡ g.first
      → for_retransmission n g.first ≡ false
      → Then (after_turn v (fresh x)) (transmission e t (frame_with image n x) ∷ ds)
  fresh_sent x some waits none own not_again =
      let itself = eq-eqb e e refl in
      let late : for_retransmission n t ≡ false = ap (for_retransmission n) own ∙ not_again in
      let bit = s.quiet none in
      record {
        address = s.address;
        configured = s.configured;
        bound = λ h. absurd (some h);
        book = s.book;
        agrees = record {
          accepts = (rw (waits, none) at s.agrees.accepts);
          tells = s.agrees.tells;
          sends = rw (itself, late, aware) (ap (λ (l : List ℕ). superframes ds ∷ l) (rw none at s.agrees.sends));
          arrives = rw bit (rw none at s.agrees.arrives);
          just = s.agrees.just;
          before = s.agrees.before;
          under_way = rw (itself, late) refl;
          sent_since = rw (itself, late) refl;
          waits = rw (itself, late) refl;
        };
        unheard = s.unheard;
        late = s.late;
        quiet = λ h. absurd cc;
        due = s.due;
        frames = λ _ y among d k. fresh_frames x y none own among d k;
      }

  again_frames : (x : C) (y : Sending) → v.repeat ≡ Some (record { start = t; cargo = x })
      → Among y (sending x ∷ sendings ds) → y.device ≡ e → y.superframe ≡ superframes ds
      → (learned e ds ≡ true) × Frames image n e g true gathered sent last (after_turn v (again x)) s.book y
  again_frames x y some (inl new) d k =
      let due = s.due (record { start = t; cargo = x }) some refl aware in (
        aware,
        subst (λ (z : Sending). Frames image n e g true gathered sent last (after_turn v (again x)) s.book z)
            (sym new)
            (inr (record {
              cargo = x;
              to_repeat = due.0;
              octets = refl;
              spent = refl;
              once =
                  λ h. absurd (both_ways _ due.1 h);
            })),
      )
  again_frames x y some (inr old) d k =
      elim (s.frames refl y old d k).1 [
        | inl f ↦ (aware, inl (record { timeslot = f.timeslot; cargo = f.cargo; sent = f.sent; octets = f.octets }))
        | inr f ↦ let before = f.spent in absurd cc
      ]

  again_sent : (x : C) → v.repeat ≡ Some (record { start = t; cargo = x })
      → ((s : ℕ) → repeat_start n sent g ≡ Some s → for_retransmission n s ≡ true)
      → Then (after_turn v (again x)) (transmission e t (frame_with image n x) ∷ ds)
  again_sent x some again_starts =
      let itself = eq-eqb e e refl in
      let due = s.due (record { start = t; cargo = x }) some refl aware in
      let early : for_retransmission n t ≡ true = again_starts t due.0.starts in
      record {
        address = s.address;
        configured = s.configured;
        bound = s.bound;
        book = s.book;
        agrees = record {
          accepts = s.agrees.accepts;
          tells = s.agrees.tells;
          sends = rw (itself, early) s.agrees.sends;
          arrives = s.agrees.arrives;
          just = s.agrees.just;
          before = s.agrees.before;
          under_way = rw (itself, early) s.agrees.under_way;
          sent_since = rw (itself, early) s.agrees.sent_since;
          waits = rw (itself, early) s.agrees.waits;
        };
        unheard = s.unheard;
        late = s.late;
        quiet = s.quiet;
        due = λ r h. absurd cc;
        frames = λ _ y among d k. again_frames x y some among d k;
      }

-- how many octets were written
sized : (a b : Bool) (f h : Fault) (j l : ℕ)
    → ◌≡◌ {A = Result ℕ Fault} (Ok l) (cond a (Err f) (cond b (Err h) (Ok j))) → l ≡ j
sized true b f h j l q = absurd cc
sized false true f h j l q = absurd cc
sized false false f h j l q = cc

-- a device that sends has cargo for its own timeslot and sent none since its news, or has a repeat that starts there
module _ {C : Type 0} (image : C → List ℕ) (n : Numbers) (g : Grant) (t : ℕ) (v : Device C) where
  abbrev pub Sends : Type 0
  Sends = ((v.sent ≡ None) × (t ≡ g.first)) ⊎ ((x : C) × (v.repeat ≡ Some (record { start = t; cargo = x })))

  sends_in : (turn : Turn C) (l : ℕ) → Turns image n g t v.configuration v.waiting v.sent v.repeat turn
      → suc l ≡ length (frame_of image turn) → Sends
  sends_in silent l facts size = absurd cc
  sends_in (fresh x) l facts size = inl (facts.2, facts.3)
  sends_in (again x) l facts size = inr (x, facts)

  pub sends_by : ((c : Configuration) → v.configuration ≡ Some c → c ≡ configuration_for n g)
      → (buffer : List ℕ) (l : ℕ) → Ok (suc l) ≡ device.send_answer image v t buffer → Sends
  sends_by own buffer l q =
      sends_in (device.turn image v t) l (turns_in image n g t v v.configuration own)
      (sized (device.no_timeslot v.configuration t)
      (ltb (length buffer) (length (frame_of image (device.turn image v t)))) _ _ _ (suc l) q)

-- a device without a configuration sends nothing
pub sends_nothing : {C : Type 0} (image : C → List ℕ) (t : ℕ) (v : Device C) → v.configuration ≡ None
    → (buffer : List ℕ) (l : ℕ) → Ok (suc l) ≡ device.send_answer image v t buffer → ⊥
sends_nothing image t v none buffer l q =
    let size : suc l ≡ length (frame_of image (device.turn image v t)) =
    sized (device.no_timeslot v.configuration t)
    (ltb (length buffer) (length (frame_of image (device.turn image v t)))) _ _ _ (suc l) q in
    let empty : suc l ≡ 0 = size ∙ ap
    (λ (c : Option Configuration). length (frame_of image (device.turn_in image v c t))) none in
    absurd cc

-- octets that were written are those that were sent
transmitted : {C : Type 0} (e t a : ℕ) (xs buffer memory : List ℕ) (l : ℕ) → l ≡ suc (length xs)
    → memory ≡ left_by (Ok l) (a ∷ xs) buffer → ◌≡◌ {A = Deed C} (sent_deed e t l memory) (transmission e t (a ∷ xs))
transmitted e t a xs buffer memory l q p =
    ap (λ (j : ℕ). sent_deed e t j memory) q
    ∙ ap (transmission e t)
    (ap (take (suc (length xs))) p ∙ take_at (a ∷ xs) (drop (suc (length xs)) buffer) (suc (length xs)) refl)

-- a superframe is open where its beacon was announced
pub open_now : (o : Bool) (a : Option (List ℕ)) (xs : List ℕ) → a ≡ cond o (Some xs) None → is_some a ≡ true
    → o ≡ true
open_now true a xs q h = refl
open_now false a xs q h = let never : is_some a ≡ false = ap is_some q in absurd cc

module _ {C : Type 0} (image : C → List ℕ) (m : PlanMeaning) (rules : Rules m) (e i : ℕ) (g : Grant)
    (at : grant_at m i ≡ Some g) (k : Inner) (v : Device C) (ds : List (Deed C)) (steady : Steady m k ds) where
  abbrev pub S : Device C → List (Deed C) → Type 0
  S w es = Sound image m.numbers e g k.opened k.gathered k.sent k.last w es

  pub offered : (x : C) (r : Result (Unit {0}) Fault) → r ≡ offer_answer image v x → S v ds
      → S (offer_state image v x) (deed (is_offered e x r) ∷ ds)
  offered x r q s = offer_keeps image m.numbers e g k.opened k.gathered k.sent k.last v ds x r q s

  pub written : (buffer : List ℕ) (r : Result ℕ Fault) (memory : List ℕ) → r ≡ write_answer v buffer → S v ds
      → S (write_state v buffer) (deed (writes_management e buffer r memory) ∷ ds)
  written buffer r memory q s =
      write_keeps image m.numbers e g k.opened k.gathered k.sent k.last v ds buffer r memory q s

  own_configuration : (c : Configuration) → v.address ≡ g.address → Given m v c → c ≡ configuration_for m.numbers g
  own_configuration c here (j, h, there, same, is) =
      let number = addresses_differ m rules j i h g there at (inl (same ∙ here)) in
      let also : grant_at m i ≡ Some h = subst (λ (l : ℕ). grant_at m l ≡ Some h) number there in
      let one : h ≡ g = cc in
      subst (λ (l : Grant). c ≡ configuration_for m.numbers l) one is

  pub took : (xs : List ℕ) (r : Result (Unit {0}) Fault) (count : ℕ) → r ≡ device.take_answer v xs
      → KeepsRules count ds (deed (takes_management e xs r)) → S v ds
      → S (device.take_state v xs) (deed (takes_management e xs r) ∷ ds)
  took xs r count q keeps s =
      took_by image m.numbers e g k.opened k.gathered k.sent k.last v ds (device.taking v xs) xs r count q keeps
      (λ among c h. own_configuration c s.address (given m v rules xs c (steady.answered xs among) h)) s

  abbrev At : Device C → List (Deed C) → Bool → Type 0
  At w es o = Sound image m.numbers e g o k.gathered k.sent k.last w es

  abbrev Turned : Turn C → ℕ → Type 0
  Turned turn t = Turns image m.numbers g t v.configuration v.waiting v.sent v.repeat turn

  -- a frame in a turn keeps what holds
  turned_fresh : (x : C) (t : ℕ) → Turned (fresh x) t → At v ds k.opened
      → (is_some (announced ds) ≡ true) × (learned e ds ≡ true)
      → At (after_turn v (fresh x)) (transmission e t (frame_with image m.numbers x) ∷ ds) k.opened
  turned_fresh x t facts s keeps =
      let opened = open_now k.opened (announced ds) (beacon_of m.numbers k) steady.announces keeps.0 in
      subst (At (after_turn v (fresh x)) (transmission e t (frame_with image m.numbers x) ∷ ds)) (sym opened)
      (fresh_sent image m.numbers e g k.gathered k.sent k.last v ds keeps.1
      (subst (At v ds) opened s) t x facts.0 facts.1 facts.2 facts.3
      (own_is_no_repeat m rules i g at))

  turned_again : (x : C) (t : ℕ) → Turned (again x) t → At v ds k.opened
      → (is_some (announced ds) ≡ true) × (learned e ds ≡ true)
      → At (after_turn v (again x)) (transmission e t (frame_with image m.numbers x) ∷ ds) k.opened
  turned_again x t facts s keeps =
      let opened = open_now k.opened (announced ds) (beacon_of m.numbers k) steady.announces keeps.0 in
      subst (At (after_turn v (again x)) (transmission e t (frame_with image m.numbers x) ∷ ds)) (sym opened)
      (again_sent image m.numbers e g k.gathered k.sent k.last v ds keeps.1 (subst (At v ds) opened s) t x facts
      (repeats_are_for_retransmission m rules i g at k.sent))

  sent_by : (turn : Turn C) (t : ℕ) (buffer : List ℕ) (r : Result ℕ Fault) (memory : List ℕ) (count : ℕ)
      → Turned turn t → ((l : ℕ) → r ≡ Ok l → l ≡ length (frame_of image turn))
      → memory ≡ left_by r (frame_of image turn) buffer → KeepsRules count ds (deed (calls.sends e t buffer r memory))
      → At v ds k.opened → At (cond (is_ok r) (after_turn v turn) v)
      (deed (calls.sends e t buffer r memory) ∷ ds) k.opened
  sent_by turn t buffer (Err f) memory count facts size p keeps s =
      idle image m.numbers e g k.opened k.gathered k.sent k.last v ds s
  sent_by silent t buffer (Ok l) memory count facts size p keeps s =
      subst (λ (j : ℕ). At v (sent_deed e t j memory ∷ ds) k.opened) (sym (size l refl))
      (idle image m.numbers e g k.opened k.gathered k.sent k.last v ds s)
  sent_by (fresh x) t buffer (Ok l) memory count facts size p keeps s =
      let is : ◌≡◌ {A = Deed C} (sent_deed e t l memory) (transmission e t (frame_with image m.numbers x)) =
      transmitted e t _ (image x) buffer memory l (size l refl) p in
      subst (λ (d : Deed C). At (after_turn v (fresh x)) (d ∷ ds) k.opened) (sym is)
      (turned_fresh x t facts s (subst (KeepsRules count ds) is keeps))
  sent_by (again x) t buffer (Ok l) memory count facts size p keeps s =
      let is : ◌≡◌ {A = Deed C} (sent_deed e t l memory) (transmission e t (frame_with image m.numbers x)) =
      transmitted e t _ (image x) buffer memory l (size l refl) p in
      subst (λ (d : Deed C). At (after_turn v (again x)) (d ∷ ds) k.opened) (sym is)
      (turned_again x t facts s (subst (KeepsRules count ds) is keeps))

  pub sent : (t : ℕ) (buffer : List ℕ) (r : Result ℕ Fault) (memory : List ℕ) (count : ℕ)
      → r ≡ device.send_answer image v t buffer → memory ≡ device.send_memory image v t buffer
      → KeepsRules count ds (deed (calls.sends e t buffer r memory)) → S v ds
      → S (device.send_state image v t buffer) (deed (calls.sends e t buffer r memory) ∷ ds)
  sent t buffer r memory count q p keeps s =
      subst (λ (a : Result ℕ Fault). At (cond (is_ok a) (after_turn v (device.turn image v t)) v)
      (deed (calls.sends e t buffer r memory) ∷ ds) k.opened) q
      (sent_by (device.turn image v t) t buffer r memory count
      (turns_in image m.numbers g t v v.configuration s.configured)
      (λ l h. sized (device.no_timeslot v.configuration t)
      (ltb (length buffer) (length (frame_of image (device.turn image v t)))) _ _ _ l (sym h ∙ q))
      (p ∙ ap (λ (a : Result ℕ Fault). left_by a (frame_of image (device.turn image v t)) buffer) (sym q)) keeps s)

-- A device without a grant.

module _ {C : Type 0} (e : ℕ) (v : Device C) (ds : List (Deed C)) (o : Outside e v ds) where
  module _ (wish : Wish) (phase : Phase) (brought : News) where
    outside_refitted : Outside e (refit v wish phase v.configuration brought) (nothing ∷ ds)
    outside_refitted = record {
      unconfigured = o.unconfigured;
      no_waiting = o.no_waiting;
      no_sent = o.no_sent;
      no_accepted = o.no_accepted;
      no_told = o.no_told;
      none_under_way = o.none_under_way;
      none_since = o.none_since;
      no_waits = o.no_waits;
      no_sendings = o.no_sendings;
    }

    outside_taking : (xs : List ℕ) → Outside e (refit v wish phase v.configuration brought) (taking e xs ∷ ds)
    outside_taking xs = record {
      unconfigured = o.unconfigured;
      no_waiting = o.no_waiting;
      no_sent = o.no_sent;
      no_accepted = o.no_accepted;
      no_told = o.no_told;
      none_under_way = o.none_under_way;
      none_since = o.none_since;
      no_waits = o.no_waits;
      no_sendings = o.no_sendings;
    }

  pub outside_idle : Outside e v (nothing ∷ ds)
  outside_idle = outside_refitted v.wish v.phase v.news

  pub outside_offered : (image : C → List ℕ) (x : C) (r : Result (Unit {0}) Fault) → r ≡ offer_answer image v x
      → Outside e (offer_state image v x) (deed (is_offered e x r) ∷ ds)
  outside_offered image x (Ok tt) q =
      let mode : Ok tt ≡ offer_answer_in image None v.waiting x =
      subst (λ (c : Option Configuration). Ok tt ≡ offer_answer_in image c v.waiting x) o.unconfigured q in
      absurd cc
  outside_offered image x (Err f) q = rw (← q) outside_idle

  pub outside_written : (buffer : List ℕ) (r : Result ℕ Fault) (memory : List ℕ) → r ≡ write_answer v buffer
      → Outside e (write_state v buffer) (deed (writes_management e buffer r memory) ∷ ds)
  outside_written buffer r memory q =
      cond_both (is_ok (write_answer v buffer)) (cond (is_missed v.news) v (in_phase v (thanked v.phase))) v
      (λ (w : Device C). Outside e w (nothing ∷ ds))
      (λ _. cond_both (is_missed v.news) v (in_phase v (thanked v.phase))
      (λ (w : Device C). Outside e w (nothing ∷ ds)) (λ _. outside_idle)
      (λ _. outside_refitted v.wish (thanked v.phase) v.news))
      (λ _. outside_idle)

  outside_took_by : (t : Result Taken Fault) (xs : List ℕ) (r : Result (Unit {0}) Fault) (count : ℕ)
      → r ≡ take_answer_by t → KeepsRules count ds (deed (takes_management e xs r))
      → (Among xs (replies ds) → (c : Configuration) → t ≡ Ok (device.configured c) → ⊥)
      → Outside e (take_state_by v t) (deed (takes_management e xs r) ∷ ds)
  outside_took_by (Ok device.acknowledgment) xs (Ok tt) count q keeps never =
      outside_taking v.wish phase.Known v.news xs
  outside_took_by (Ok (device.configured c)) xs (Ok tt) count q keeps never = absurd (never keeps c refl)
  outside_took_by (Err f) xs (Ok tt) count q keeps never = absurd cc
  outside_took_by (Ok device.acknowledgment) xs (Err f) count q keeps never = absurd cc
  outside_took_by (Ok (device.configured c)) xs (Err f) count q keeps never = absurd cc
  outside_took_by (Err f) xs (Err h) count q keeps never = outside_idle

  pub outside_took : (m : PlanMeaning) → Rules m → (k : Inner) → Steady m k ds
      → ((i : ℕ) (g : Grant) → grant_at m i ≡ Some g → g.address ≡ v.address → ⊥)
      → (xs : List ℕ) (r : Result (Unit {0}) Fault) (count : ℕ) → r ≡ device.take_answer v xs
      → KeepsRules count ds (deed (takes_management e xs r))
      → Outside e (device.take_state v xs) (deed (takes_management e xs r) ∷ ds)
  outside_took m rules k steady nobody xs r count q keeps =
      outside_took_by (device.taking v xs) xs r count q keeps
      (λ among c h. let there = given m v rules xs c (steady.answered xs among) h in
      nobody there.0 there.1 there.2 there.3)

  -- it sends nothing
  outside_sent_by : (image : C → List ℕ) (turn : Turn C) (t : ℕ) (buffer : List ℕ) (r : Result ℕ Fault)
      (memory : List ℕ) → turn ≡ silent → ((l : ℕ) → r ≡ Ok l → l ≡ length (frame_of image turn))
      → Outside e (cond (is_ok r) (after_turn v turn) v) (deed (calls.sends e t buffer r memory) ∷ ds)
  outside_sent_by image turn t buffer (Err f) memory quiet size = outside_idle
  outside_sent_by image turn t buffer (Ok l) memory quiet size =
      let none : l ≡ 0 = size l refl ∙ ap (λ (u : Turn C). length (frame_of image u)) quiet in
      subst (λ (u : Turn C). Outside e (after_turn v u) (sent_deed e t l memory ∷ ds)) (sym quiet)
      (subst (λ (j : ℕ). Outside e v (sent_deed e t j memory ∷ ds)) (sym none) outside_idle)

  pub outside_sent : (image : C → List ℕ) (t : ℕ) (buffer : List ℕ) (r : Result ℕ Fault) (memory : List ℕ)
      → r ≡ device.send_answer image v t buffer
      → Outside e (device.send_state image v t buffer) (deed (calls.sends e t buffer r memory) ∷ ds)
  outside_sent image t buffer r memory q =
      subst (λ (a : Result ℕ Fault). Outside e (cond (is_ok a) (after_turn v (device.turn image v t)) v)
      (deed (calls.sends e t buffer r memory) ∷ ds)) q
      (outside_sent_by image (device.turn image v t) t buffer r memory
      (ap (λ (c : Option Configuration). device.turn_in image v c t) o.unconfigured)
      (λ l h. sized (device.no_timeslot v.configuration t)
      (ltb (length buffer) (length (frame_of image (device.turn image v t)))) _ _ _ l (sym h ∙ q)))
