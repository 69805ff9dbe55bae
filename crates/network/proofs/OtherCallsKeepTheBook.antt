-- What happens elsewhere keeps how a device stands.
use Rattle.std.proofs.Common.{◌≡◌, ℕ, suc, ◌-◌, ◌≤◌, Bool, true, false, cond, eqb, List, [], ◌∷◌, map, take}
use Rattle.std.proofs.Common.{is_ok, Some, None, Ok, Err, Option, Result, sym, refl, ap, ◌∙◌, subst, inl, inr, arith}
use Rattle.std.proofs.lemmas.Bool.{and_parts, and_right, eqb-false}
use Rattle.frame.specs.declared.faults.Fault.{Fault}
use Rattle.frame.specs.declared.command.Wish.{Wish}
use Rattle.frame.specs.Writing.{fitting}
use Rattle.plan.specs.declared.grant.Grant.{Grant}
use Rattle.plan.specs.declared.numbers.Numbers.{Numbers}
use Rattle.plan.specs.Rules.{PlanMeaning}
use Rattle.repeats.specs.BitAndRepeatTimeslots.{place}
use Rattle.repeats.specs.Bitmaps.{acknowledged, nothing_heard}
use Rattle.repeats.proofs.EachGrantsBitsAreAlike.{zero_bit}
use Rattle.coordinator.specs.declared.state.Inner.{Inner}
use Rattle.coordinator.specs.declared.mode.Mode.{Mode}
use Rattle.coordinator.specs.declared.open_superframe.Opened.{Opened}
use Rattle.coordinator.specs.declared.open_superframe.OpenSuperframe.{OpenSuperframe}
use Rattle.coordinator.specs.Steps as coordinator
use Rattle.device.specs.declared.device.Device.{Device}
use Rattle.device.specs.declared.fate.Fate.{Fate}
use Rattle.device.specs.Steps as device
use Rattle.network.specs.Calls.{set_mode, opens, hears_management, closes}
use Rattle.network.specs.Calls.{is_at}
use Rattle.network.specs.Deeds.{Deed, opening, closing, hand_up, reply, news, acceptance, transmission}
use Rattle.network.specs.Deeds.{nothing, deed}
use Rattle.network.specs.History.{Among, Sending, superframes, learned, sendings, accepted, told, own_sendings}
use Rattle.network.specs.History.{arrivals, under_way, sent_since, waits}
use Rattle.network.proofs.CallsAtADevice.{OfADevice, performer}
use Rattle.network.proofs.DeviceBook.{Line, AllBefore, landing_of, Agrees}
use Rattle.network.proofs.StateAgreesWithHistory.{Sound, Outside, Steady, Standing}

-- two histories tell the same of the device at place e
abbrev pub Same : {C : Type 0} → ℕ → List (Deed C) → List (Deed C) → Type 0
Same e ds before = record {
  accepts : accepted e ds ≡ accepted e before;
  tells : told e ds ≡ told e before;
  sends : (again : ℕ → Bool) → own_sendings e again ds ≡ own_sendings e again before;
  arrives : (again : ℕ → Bool) (simple : ℕ)
      → arrivals e again (Some simple) ds ≡ arrivals e again (Some simple) before;
  flies : (again : ℕ → Bool) → under_way e again ds ≡ under_way e again before;
  since : (again : ℕ → Bool) → sent_since e again ds ≡ sent_since e again before;
  waiting : (again : ℕ → Bool) → waits e again ds ≡ waits e again before;
  older : (x : Sending) → Among x (sendings ds) → x.device ≡ e → Among x (sendings before);
}

pub unmoved : {C : Type 0} (e : ℕ) (ds : List (Deed C)) → Same e ds ds
unmoved e ds = record {
  accepts = refl;
  tells = refl;
  sends = λ again. refl;
  arrives = λ again simple. refl;
  flies = λ again. refl;
  since = λ again. refl;
  waiting = λ again. refl;
  older = λ x among here. among;
}

-- lines that were sent before a superframe were sent before a later one
later : {C : Type 0} (j k : ℕ) (book : List (Line C)) → j ≤ k → AllBefore j book → AllBefore k book
later j k [] le before = tt
later j k (y ∷ ys) le before = let first = before.0 in (omega arith, later j k ys le before.1)

agrees_still : {C : Type 0} (again : ℕ → Bool) (simple e : ℕ) (ds before : List (Deed C)) (waiting sent : Option C)
    (k : ℕ)
    (bit : Bool) (book : List (Line C)) → Same e ds before → superframes before ≤ superframes ds
    → Agrees again (Some simple) e before waiting sent k bit book
    → Agrees again (Some simple) e ds waiting sent k bit book
agrees_still again simple e ds before waiting sent k bit book same grows a = record {
  accepts = same.accepts ∙ a.accepts;
  tells = same.tells ∙ a.tells;
  sends = same.sends again ∙ a.sends;
  arrives = ap (map landing_of) (same.arrives again simple) ∙ a.arrives;
  just = a.just;
  before = later _ _ book grows a.before;
  under_way = same.flies again ∙ a.under_way;
  sent_since = same.since again ∙ a.sent_since;
  waits = same.waiting again ∙ a.waits;
}

outside_still : {C : Type 0} (e : ℕ) (v : Device C) (ds before : List (Deed C)) → Same e ds before
    → Outside e v before → Outside e v ds
outside_still e v ds before same s = record {
  unconfigured = s.unconfigured;
  no_waiting = s.no_waiting;
  no_sent = s.no_sent;
  no_accepted = same.accepts ∙ s.no_accepted;
  no_told = same.tells ∙ s.no_told;
  none_under_way = λ again. same.flies again ∙ s.none_under_way again;
  none_since = λ again. same.since again ∙ s.none_since again;
  no_waits = λ again. same.waiting again ∙ s.no_waits again;
  no_sendings = λ x among here. s.no_sendings x (same.older x among here) here;
}

nothing_acknowledged : (n : Numbers) (t : ℕ) → acknowledged n nothing_heard t ≡ false
nothing_acknowledged n t = and_right _ _ (ap (λ (x : ℕ). eqb x 1) (zero_bit (place n t)))

-- what is answered where no superframe may be open
none_open : {A : Type 0} (b : Bool) (f : Fault) (r : Result A Fault) → is_ok (cond b (Err f) r) ≡ true → b ≡ false
none_open true f r e = absurd cc
none_open false f r e = refl

module _ {C : Type 0} (image : C → List ℕ) (n : Numbers) (e : ℕ) where
  -- also whether the device had its news, and the superframes
  pub sound_still : (g : Grant) (opened : Bool) (gathered sent : List ℕ) (last : ℕ) (v : Device C)
      (ds before : List (Deed C)) → Same e ds before → learned e ds ≡ learned e before
      → superframes ds ≡ superframes before → Sound image n e g opened gathered sent last v before
      → Sound image n e g opened gathered sent last v ds
  sound_still g opened gathered sent last v ds before same learns counts s = record {
    address = s.address;
    configured = s.configured;
    bound = s.bound;
    book = s.book;
    agrees = rw (learns, counts) (agrees_still _ _ e ds before _ _ _ _ _ same (omega (arith, counts)) s.agrees);
    unheard = rw learns s.unheard;
    late = rw learns s.late;
    quiet = rw learns s.quiet;
    due = rw (learns, counts) s.due;
    frames = λ is x among here now. rw learns (s.frames is x (same.older x among here) here (now ∙ counts));
  }

  still : (o : Option Grant) (k : Inner) (v : Device C) (ds before : List (Deed C)) → Same e ds before
      → learned e ds ≡ learned e before → superframes ds ≡ superframes before → Standing image n e o k v before
      → Standing image n e o k v ds
  still None k v ds before same learns counts s = outside_still e v ds before same s
  still (Some g) k v ds before same learns counts s =
      sound_still g k.opened k.gathered k.sent k.last v ds before same learns counts s

  -- a coordinator that differs only in its mode and its records
  in_another : (o : Option Grant) (k : Inner) (mode : Mode) (v : Device C) (ds : List (Deed C))
      → Standing image n e o k v ds → Standing image n e o (coordinator.in_mode mode k) v ds
  in_another None k mode v ds s = s
  in_another (Some g) k mode v ds s = s

  with_notes : (o : Option Grant) (k : Inner) (x : coordinator.Managed) (v : Device C) (ds : List (Deed C))
      → Standing image n e o k v ds → Standing image n e o (coordinator.noted k x) v ds
  with_notes None k x v ds s = s
  with_notes (Some g) k x v ds s = s

  -- either of two coordinators
  chosen : (o : Option Grant) (b : Bool) (x y : Inner) (v : Device C) (ds : List (Deed C))
      → Standing image n e o x v ds → Standing image n e o y v ds → Standing image n e o (cond b x y) v ds
  chosen o true x y v ds s t = s
  chosen o false x y v ds s t = t

  -- opening a superframe
  sound_opened : (g : Grant) (gathered sent : List ℕ) (last : ℕ) (v : Device C) (ds : List (Deed C)) (xs : List ℕ)
      → acknowledged n gathered g.first ≡ false
      → ((x : Sending) → Among x (sendings ds) → x.superframe ≤ superframes ds)
      → Sound image n e g false gathered sent last v ds
      → Sound image n e g true gathered sent last v (opening xs ∷ ds)
  sound_opened g gathered sent last v ds xs unheard earlier s =
      let down : suc (superframes ds) - 1 ≡ superframes ds = omega arith in
      record {
        address = s.address;
        configured = s.configured;
        bound = s.bound;
        book = s.book;
        agrees = rw down (agrees_still _ _ e (opening xs ∷ ds) ds _ _ _ _ _ (unmoved e ds) (omega arith) s.agrees);
        unheard = λ _ _. unheard;
        late = λ _ aware. absurd cc;
        quiet = s.quiet;
        due = λ r is _ aware. absurd cc;
        frames = λ _ x among here now. let before = earlier x among in absurd (omega arith);
      }

  outside_opened : (v : Device C) (ds : List (Deed C)) (xs : List ℕ) → Outside e v ds → Outside e v (opening xs ∷ ds)
  outside_opened v ds xs s = outside_still e v (opening xs ∷ ds) ds (unmoved e ds) s

  -- closing it
  sound_closed : (g : Grant) (gathered sent : List ℕ) (last : ℕ) (v : Device C) (ds : List (Deed C))
      → learned e ds ≡ true → Sound image n e g true gathered sent last v ds
      → Sound image n e g false nothing_heard gathered 0 v (closing ∷ ds)
  sound_closed g gathered sent last v ds aware s =
      record {
        address = s.address;
        configured = s.configured;
        bound = s.bound;
        book = s.book;
        agrees = agrees_still _ _ e (closing ∷ ds) ds _ _ _ _ _ (unmoved e ds) (omega arith) (rw aware at s.agrees);
        unheard = λ is. absurd cc;
        late = λ is. absurd cc;
        quiet = rw aware at s.quiet;
        due = λ r due is. absurd cc;
        frames = λ is. absurd cc;
      }

  outside_closed : (v : Device C) (ds : List (Deed C)) → Outside e v ds → Outside e v (closing ∷ ds)
  outside_closed v ds s = outside_still e v (closing ∷ ds) ds (unmoved e ds) s

module _ {C : Type 0} (image : C → List ℕ) (m : PlanMeaning) (e : ℕ) where
  begun_none : (a : ℕ) (w : Wish) → Outside {C = C} e (device.made a w) []
  begun_none a w = record {
    unconfigured = refl;
    no_waiting = refl;
    no_sent = refl;
    no_accepted = refl;
    no_told = refl;
    none_under_way = λ again. refl;
    none_since = λ again. refl;
    no_waits = λ again. refl;
    no_sendings = λ x among here. among;
  }

  -- the beginning
  pub begun : (a : ℕ) (w : Wish) (o : Option Grant) → ((g : Grant) → o ≡ Some g → a ≡ g.address)
      → Standing image m.numbers e o coordinator.made (device.made a w) []
  begun a w None its = begun_none a w
  begun a w (Some g) its = record {
    address = its g refl;
    configured = λ c is. absurd cc;
    bound = λ _. refl;
    book = [];
    agrees = record {
      accepts = refl;
      tells = refl;
      sends = refl;
      arrives = refl;
      just = tt;
      before = tt;
      under_way = refl;
      sent_since = refl;
      waits = refl;
    };
    unheard = λ is. absurd cc;
    late = λ is. absurd cc;
    quiet = λ _. nothing_acknowledged m.numbers g.first;
    due = λ r due is. absurd cc;
    frames = λ is. absurd cc;
  }

  opened_for : (o : Option Grant) (k : Inner) (v : Device C) (ds : List (Deed C)) (xs : List ℕ) → k.opened ≡ false
      → Steady m k ds → Standing image m.numbers e o k v ds
      → Standing image m.numbers e o (coordinator.begun k) v (opening xs ∷ ds)
  opened_for None k v ds xs shut steady s = outside_opened image m.numbers e v ds xs s
  opened_for (Some g) k v ds xs shut steady s =
      let unheard : acknowledged m.numbers k.gathered g.first ≡ false =
      ap (λ (b : List ℕ). acknowledged m.numbers b g.first) (steady.cleared shut)
      ∙ nothing_acknowledged m.numbers g.first in
      let before : Sound image m.numbers e g false k.gathered k.sent k.last v ds =
      subst (λ (b : Bool). Sound image m.numbers e g b k.gathered k.sent k.last v ds) shut s in
      sound_opened image m.numbers e g k.gathered k.sent k.last v ds xs unheard steady.earlier before

  closed_for : (o : Option Grant) (k : Inner) (v : Device C) (ds : List (Deed C)) → k.opened ≡ true
      → learned e ds ≡ true → Standing image m.numbers e o k v ds
      → Standing image m.numbers e o (coordinator.ended k) v (closing ∷ ds)
  closed_for None k v ds is aware s = outside_closed image m.numbers e v ds s
  closed_for (Some g) k v ds is aware s =
      let before : Sound image m.numbers e g true k.gathered k.sent k.last v ds =
      subst (λ (b : Bool). Sound image m.numbers e g b k.gathered k.sent k.last v ds) is s in
      sound_closed image m.numbers e g k.gathered k.sent k.last v ds aware before

  module _ (o : Option Grant) (k : Inner) (v : Device C) (ds : List (Deed C)) where
    -- deeds that are not the device's

    pub idle : Standing image m.numbers e o k v ds → Standing image m.numbers e o k v (nothing ∷ ds)
    idle s = still image m.numbers e o k v (nothing ∷ ds) ds (unmoved e ds) refl refl s

    pub replied : (xs : List ℕ) → Standing image m.numbers e o k v ds
        → Standing image m.numbers e o k v (reply xs ∷ ds)
    replied xs s = still image m.numbers e o k v (reply xs ∷ ds) ds (unmoved e ds) refl refl s

    elsewhere_news : (d : ℕ) → eqb d e ≡ false → (b : Option (List ℕ)) (φ : Option Fate)
        → Standing image m.numbers e o k v ds → Standing image m.numbers e o k v (news d b φ ∷ ds)
    elsewhere_news d differ b φ s =
        let same : Same e (news d b φ ∷ ds) ds = rw differ (unmoved e ds) in
        still image m.numbers e o k v (news d b φ ∷ ds) ds same (rw differ) refl s

    elsewhere_acceptance : (d : ℕ) → eqb d e ≡ false → (x : C) → Standing image m.numbers e o k v ds
        → Standing image m.numbers e o k v (acceptance d x ∷ ds)
    elsewhere_acceptance d differ x s =
        let same : Same e (acceptance d x ∷ ds) ds = rw differ (unmoved e ds) in
        still image m.numbers e o k v (acceptance d x ∷ ds) ds same refl refl s

    elsewhere_transmission : (d : ℕ) → eqb d e ≡ false → (t : ℕ) (xs : List ℕ)
        → Standing image m.numbers e o k v ds → Standing image m.numbers e o k v (transmission d t xs ∷ ds)
    elsewhere_transmission d differ t xs s =
        let same : Same e (transmission d t xs ∷ ds) ds = record {
          accepts = refl;
          tells = refl;
          sends = λ again. rw differ;
          arrives = λ again simple. refl;
          flies = λ again. rw differ;
          since = λ again. rw differ;
          waiting = λ again. rw differ;
          older = λ x among here.
              elim among [
                | inl new ↦ absurd
                    (eqb-false d e differ (sym (ap (λ (y : Sending). y.device) new) ∙ here))
                | inr old ↦ old
              ];
        } in
        still image m.numbers e o k v (transmission d t xs ∷ ds) ds same refl refl s

    -- deeds of another device
    pub elsewhere : (x : Deed C) → OfADevice x → is_at e (performer x) ≡ false → Standing image m.numbers e o k v ds
        → Standing image m.numbers e o k v (x ∷ ds)
    elsewhere (opening xs) of differ s = absurd of
    elsewhere closing of differ s = absurd of
    elsewhere (hand_up t xs simple x) of differ s = absurd of
    elsewhere (reply xs) of differ s = absurd of
    elsewhere (news d b φ) of differ s = elsewhere_news d differ b φ s
    elsewhere (acceptance d x) of differ s = elsewhere_acceptance d differ x s
    elsewhere (transmission d t xs) of differ s = elsewhere_transmission d differ t xs s
    elsewhere x of differ s = still image m.numbers e o k v (x ∷ ds) ds (unmoved e ds) refl refl s

    -- calls of the coordinator

    pub mode_kept : (mode : Mode) (r : Result (Unit {0}) Fault) → Standing image m.numbers e o k v ds
        → Standing image m.numbers e o (coordinator.mode_state k mode) v (deed (set_mode mode r) ∷ ds)
    mode_kept mode r s = chosen image m.numbers e o k.opened k (coordinator.in_mode mode k) v (nothing ∷ ds) (idle s)
        (in_another image m.numbers e o k mode v (nothing ∷ ds) (idle s))

    managed_state : (q : Result coordinator.Managed Fault) (buffer : List ℕ) (now : List (Deed C))
        → Standing image m.numbers e o k v now
        → Standing image m.numbers e o (coordinator.reply_state k q buffer) v now
    managed_state (Ok x) buffer now s =
        chosen image m.numbers e o (is_ok (fitting x.reply buffer)) (coordinator.noted k x) k v now
        (with_notes image m.numbers e o k x v now s) s
    managed_state (Err f) buffer now s = s

    pub managed_kept : (j : ℕ) (xs buffer : List ℕ) (r : Result ℕ Fault) (memory : List ℕ)
        → Standing image m.numbers e o k v ds
        → Standing image m.numbers e o (coordinator.manage_state m k j xs buffer) v
        (deed (hears_management j xs buffer r memory) ∷ ds)
    managed_kept j xs buffer (Ok l) memory s =
        managed_state (coordinator.managing m k j xs) buffer (reply (take l memory) ∷ ds) (replied (take l memory) s)
    managed_kept j xs buffer (Err f) memory s =
        managed_state (coordinator.managing m k j xs) buffer (nothing ∷ ds) (idle s)

    opened_as_answered : (q : Result ℕ Fault) (buffer : List ℕ) (r : Result Opened Fault) (memory : List ℕ)
        → (is_ok q ≡ true → k.opened ≡ false) → r ≡ coordinator.opened_as k.number q → Steady m k ds
        → Standing image m.numbers e o k v ds
        → Standing image m.numbers e o (cond (is_ok q) (coordinator.begun k) k) v (deed (opens buffer r memory) ∷ ds)
    opened_as_answered (Ok l) buffer (Ok x) memory shut is steady s =
        opened_for o k v ds (take x.length memory) (shut refl) steady s
    opened_as_answered (Ok l) buffer (Err f) memory shut is steady s = absurd cc
    opened_as_answered (Err f) buffer (Ok x) memory shut is steady s = absurd cc
    opened_as_answered (Err f) buffer (Err h) memory shut is steady s = idle s

    pub opened_kept : (buffer : List ℕ) (r : Result Opened Fault) (memory : List ℕ)
        → r ≡ coordinator.open_answer m.numbers k buffer → Steady m k ds → Standing image m.numbers e o k v ds
        → Standing image m.numbers e o (coordinator.open_state m.numbers k buffer) v
        (deed (opens buffer r memory) ∷ ds)
    opened_kept buffer r memory is steady s =
        opened_as_answered (coordinator.opening m.numbers k buffer) buffer r memory
        (none_open k.opened _ _) is steady s

    closed_as_answered : (b : Bool) (j : ℕ) (r : Result (Unit {0}) (Fault × OpenSuperframe))
        (f : Fault × OpenSuperframe) → (b ≡ true → k.opened ≡ true) → r ≡ cond b (Ok tt) (Err f)
        → (deed {C = C} (closes j r) ≡ closing → learned e ds ≡ true) → Standing image m.numbers e o k v ds
        → Standing image m.numbers e o (cond b (coordinator.ended k) k) v (deed (closes j r) ∷ ds)
    closed_as_answered true j (Ok u) f opened is aware s = closed_for o k v ds (opened refl) (aware refl) s
    closed_as_answered true j (Err h) f opened is aware s = absurd cc
    closed_as_answered false j (Ok u) f opened is aware s = absurd cc
    closed_as_answered false j (Err h) f opened is aware s = idle s

    pub closed_kept : (j : ℕ) (r : Result (Unit {0}) (Fault × OpenSuperframe)) → r ≡ coordinator.close_answer k j
        → (deed {C = C} (closes j r) ≡ closing → learned e ds ≡ true) → Standing image m.numbers e o k v ds
        → Standing image m.numbers e o (coordinator.close_state k j) v (deed (closes j r) ∷ ds)
    closed_kept j r is aware s = closed_as_answered (coordinator.is_open k j) j r _
        (λ q. (and_parts k.opened (eqb j k.number) q).0) is aware s
