-- A data frame that is heard keeps every device sound: the one that sent it, and the others.
use Rattle.std.proofs.Common.{◌≡◌, ℕ, suc, ◌<◌, ◌≤◌, Bool, true, false, cond, ◌&&◌, ◌⊎◌, List, [], ◌∷◌, ◌++◌, map}
use Rattle.std.proofs.Common.{length, Some, None, Ok, Option, sym, refl, ap, ◌∙◌, subst, inl, inr, ⊎_elim, arith}
use lib.ListN.{length-map}
use Rattle.std.proofs.lemmas.Bool.{cond-false, eq-eqb, ne_eqb}
use Rattle.plan.specs.declared.grant.Grant.{Grant}
use Rattle.plan.specs.Rules.{PlanMeaning, Rules, grant_at}
use Rattle.plan.specs.Answers.{number_with}
use Rattle.plan.proofs.Lawful.{grant_within, names_addressed, addresses_differ}
use Rattle.repeats.specs.Bitmaps.{acknowledged, marked_with}
use Rattle.repeats.specs.BitAndRepeatTimeslots as offsets
use Rattle.repeats.specs.BitAndRepeatTimeslots.{for_retransmission}
use Rattle.repeats.specs.Starts.{repeat_start, sender_at}
use Rattle.repeats.specs.Laws.{BitsAlike}
use Rattle.repeats.proofs.MarkingLeavesOtherGrants.{marked_own, marked_other}
use Rattle.repeats.proofs.AnswersNameTheSender.{names_sender}
use Rattle.repeats.proofs.WhenRepeatsStart.{started}
use Rattle.cargo.specs.Images.{Apart}
use Rattle.cargo.specs.ReceivedCargo.{Receives}
use Rattle.cargo.proofs.ImagesAreReadBack.{delivered}
use Rattle.coordinator.specs.declared.state.Inner.{Inner}
use Rattle.coordinator.specs.Steps.{granted, sending, gathering}
use Rattle.device.specs.declared.device.Device.{Device}
use Rattle.network.specs.Deeds.{Deed, hand_up}
use Rattle.network.specs.History as history
use Rattle.network.specs.History.{Among, Sending, superframes, learned, sendings}
use Rattle.network.specs.Guarantee.{grant_of}
use Rattle.network.proofs.DeviceBook.{Line, Just, AllJust, AllBefore, Landing, landing_of, telling_of, arrivals_of}
use Rattle.network.proofs.DeviceBook.{listed}
use Rattle.network.proofs.DeviceBook.{since, in_flight, Agrees}
use Rattle.network.proofs.FramesAreOwnOrRepeats.{own_is_no_repeat, repeats_are_for_retransmission}
use Rattle.network.proofs.RepeatsAreOfTheLastTold.{last_told}
use Rattle.network.proofs.StateAgreesWithHistory.{frame_with, current, flown, OwnFrame, ToRepeat, AgainFrame, Sound}
use Rattle.network.proofs.StateAgreesWithHistory.{Steady}

-- no arrival is in flight where the bit is zero
no_flight : {C : Type 0} (b : Bool) (n : ℕ) (o : Option C) → b ≡ false → in_flight b n o ≡ []
no_flight b n None e = refl
no_flight b n (Some x) e = cond-false b _ _ e

-- one arrival is where the bit is one
arriving : {C : Type 0} (b : Bool) (n : ℕ) (o : Option C) (x : C) (rest : List (Landing C)) → o ≡ Some x → b ≡ true
    → in_flight b n o ++ rest ≡ record { number = suc n; own = true; cargo = x } ∷ rest
arriving b n o x rest e q = rw (e, q) refl

-- the frame under way is counted beside those whose fates were told
sends_count : {C : Type 0} (k : ℕ) (o : Option C) (x : C) (book : List (Line C)) → o ≡ Some x
    → length (since k o ++ map (λ y. y.sent) book) ≡ suc (length book)
sends_count k o x book e = rw e (ap suc (length-map book (λ y. y.sent)))

-- the grant that is found for a full address
pub grant_found : (m : PlanMeaning) → Rules m → (a : ℕ) (g : Grant) → grant_of m a ≡ Some g
    → (i : ℕ) × (grant_at m i ≡ Some g) × (g.address ≡ a)
grant_found m rules a g found = named (number_with m a) refl found
  where
    named : (o : Option ℕ) → number_with m a ≡ o → granted m o ≡ Some g
        → (i : ℕ) × (grant_at m i ≡ Some g) × (g.address ≡ a)
    named None e q = absurd cc
    named (Some i) e q =
        let w = (names_addressed m rules a i).0 e in
        let same : w.0 ≡ g = cc in
        (i, q, sym (ap (λ (x : Grant). x.address) same) ∙ w.2)

module _ {C : Type 0} (image : C → List ℕ) (m : PlanMeaning) (rules : Rules m) where
  -- the grant of a frame that starts at a timeslot is found by the coordinator
  sender_is : (sent : List ℕ) (alike : BitsAlike m sent) (t i : ℕ) (g : Grant) → grant_at m i ≡ Some g
      → (g.first ≡ t) ⊎ (repeat_start m.numbers sent g ≡ Some t) → granted m (sender_at m sent t) ≡ Some g
  sender_is sent alike t i g at starts = ap (granted m) ((names_sender m sent rules alike t i).1 (g, at, starts)) ∙ at

  -- what the coordinator hears of the device at place e, whose grant is g
  module _ (e i : ℕ) (g : Grant) (at : grant_at m i ≡ Some g) (opened : Bool) (is_open : opened ≡ true)
      (gathered sent : List ℕ) (last : ℕ) (v : Device C) (ds : List (Deed C))
      (s : Sound image m.numbers e g opened gathered sent last v ds) (aware : learned e ds ≡ true) (t : ℕ)
      (xs : List ℕ) (above : last < t) where
    -- a frame from its own timeslot, whose bit is set then
    module _ (x : C) (own : t ≡ g.first) (flying : v.sent ≡ Some x)
        (marked : acknowledged m.numbers (marked_with m.numbers gathered g) g.first ≡ true) where
      old_bit : acknowledged m.numbers gathered g.first ≡ false
      old_bit = tell (acknowledged m.numbers gathered g.first) refl
        where
          tell : (b : Bool) → acknowledged m.numbers gathered g.first ≡ b → b ≡ false
          tell false q = refl
          tell true q = let late = s.late is_open aware q in absurd (omega arith)

      own_agrees : Agrees (for_retransmission m.numbers) (Some g.simple) e
          (hand_up t xs g.simple x ∷ ds) v.waiting v.sent (flown opened (learned e ds) (superframes ds))
          (acknowledged m.numbers
          (current opened (learned e ds) (marked_with m.numbers gathered g) sent) g.first) s.book
      own_agrees =
          let a = s.agrees in
          let r = for_retransmission m.numbers in
          let high : r t ≡ false = ap r own ∙ own_is_no_repeat m rules i g at in
          let bit : acknowledged m.numbers (current opened (learned e ds) gathered sent) g.first ≡ false =
          rw (is_open, aware) old_bit in
          let set : acknowledged m.numbers
          (current opened (learned e ds) (marked_with m.numbers gathered g) sent) g.first ≡ true =
          rw (is_open, aware) marked in
          let number : length (history.own_sendings e r ds) ≡ suc (length s.book) =
          ap length a.sends ∙ sends_count _ v.sent x s.book flying in
          let before : map landing_of (history.arrivals e r (Some g.simple) ds) ≡ arrivals_of s.book =
          a.arrives ∙ ap (λ (l : List (Landing C)). l ++ arrivals_of s.book)
          (no_flight _ (length s.book) v.sent bit) in
          record {
            accepts = a.accepts;
            tells = a.tells;
            sends = a.sends;
            arrives =
                rw (eq-eqb g.simple g.simple refl, high)
                (λ p. record { number = number p; own = true; cargo = x } ∷ before p)
                ∙ sym (arriving _ (length s.book) v.sent x (arrivals_of s.book) flying set);
            just = a.just;
            before = a.before;
            under_way = a.under_way;
            sent_since = a.sent_since;
            waits = a.waits;
          }

      own_heard : Sound image m.numbers e g opened (gathering m.numbers t gathered g) sent t v
          (hand_up t xs g.simple x ∷ ds)
      own_heard =
          let high : for_retransmission m.numbers t ≡ false =
          ap (for_retransmission m.numbers) own ∙ own_is_no_repeat m rules i g at in
          rw high (record {
            address = s.address;
            configured = s.configured;
            bound = s.bound;
            book = s.book;
            agrees = own_agrees;
            unheard = λ _ unaware. absurd cc;
            late = λ _ _ _. omega arith;
            quiet = λ none. absurd cc;
            due = s.due;
            frames = λ o y among device superframe.
                let f = s.frames o y among device superframe in (f.0, ⊎_elim (λ a. inl a) (λ b. inr (still b)) f.1);
          })
        where
          still : {y : Sending} → AgainFrame image m.numbers g sent last v s.book y
              → AgainFrame image m.numbers g sent t v s.book y
          still b =
              record {
                cargo = b.cargo;
                to_repeat = b.to_repeat;
                octets = b.octets;
                spent = b.spent;
                once =
                    λ q. let l = b.once q in omega arith;
              }

    -- a repeat, which sets no bit; it comes before what is sent in the device's own timeslot
    module _ (x : C) (q : ToRepeat image m.numbers g sent t x s.book) (spent : v.repeat ≡ None)
        (once : q.top.again ≡ true → t ≤ last) where
      -- a repeat comes before what its sender sends in its own timeslot
      comes_before : t < g.first
      unfolding offsets.before_bits offsets.before_repeats
      comes_before =
          let w = grant_within m rules i g at in
          let u = started m.numbers sent g t q.starts in
          omega arith

      low : for_retransmission m.numbers t ≡ true
      low = repeats_are_for_retransmission m rules i g at sent t q.starts

      bit_zero : (b : Bool) → acknowledged m.numbers gathered g.first ≡ b → b ≡ false
      bit_zero false e = refl
      bit_zero true e = let late = s.late is_open aware e in let w = comes_before in absurd (omega arith)

      not_yet : (b : Bool) → q.top.again ≡ b → b ≡ false
      not_yet false e = refl
      not_yet true e = let l = once e in absurd (omega arith)

      abbrev heard_again : Line C
      heard_again =
          record {
            cargo = q.top.cargo;
            sent = q.top.sent;
            own = q.top.own;
            again = true;
            fate = q.top.fate;
            online =
                q.top.online;
          }

      just_before : AllJust (q.top ∷ q.rest)
      just_before = subst (λ (l : List (Line C)). AllJust l) q.book_is s.agrees.just

      -- the repeat is of the acceptance whose fate was told last
      repeated_now : history.repeated e (for_retransmission m.numbers) ds ≡ length s.book
      repeated_now = last_told (for_retransmission m.numbers) e opened
          (learned e ds) is_open aware ds v.waiting v.sent _ _ s.book s.agrees

      before_again : AllBefore (superframes ds) (heard_again ∷ q.rest)
      before_again = subst (λ (l : List (Line C)). AllBefore (superframes ds) l) q.book_is s.agrees.before

      just_again : Just heard_again
      just_again = let j = just_before.0 in record {
        confirmed = j.confirmed;
        handed_up = j.handed_up;
        repeated = j.repeated;
        again_only = λ _. q.fate;
        lost = j.lost;
      }

      arrivals_before : arrivals_of s.book ≡ arrivals_of q.rest
      arrivals_before =
          ap (λ (l : List (Line C)). arrivals_of l) q.book_is
          ∙ cond-false _ _ _ (just_before.0.repeated q.fate) ∙ cond-false _ _ _ (not_yet q.top.again refl)

      again_agrees : Agrees (for_retransmission m.numbers) (Some g.simple) e
          (hand_up t xs g.simple x ∷ ds) v.waiting v.sent (flown opened (learned e ds) (superframes ds))
          (acknowledged m.numbers (current opened (learned e ds) gathered sent) g.first) (heard_again ∷ q.rest)
      again_agrees =
          let a = s.agrees in
          let r = for_retransmission m.numbers in
          let bit : acknowledged m.numbers (current opened (learned e ds) gathered sent) g.first ≡ false =
          rw (is_open, aware) (bit_zero _ refl) in
          let number : history.repeated e r ds ≡ suc (length q.rest) = repeated_now ∙ ap length q.book_is in
          let before : map landing_of (history.arrivals e r (Some g.simple) ds) ≡ arrivals_of q.rest =
          a.arrives ∙ ap (λ (l : List (Landing C)). l ++ arrivals_of s.book) (no_flight _ (length s.book) v.sent bit)
          ∙ arrivals_before in
          record {
            accepts =
                a.accepts
                ∙ ap (λ (l : List (Line C)). listed v.waiting ++ (listed v.sent ++ map (λ y. y.cargo) l)) q.book_is;
            tells = a.tells ∙ ap (λ (l : List (Line C)). map telling_of l) q.book_is;
            sends = a.sends
                ∙ ap (λ (l : List (Line C)). since (flown opened (learned e ds) (superframes ds)) v.sent ++ map
                (λ y. y.sent) l) q.book_is;
            arrives =
                rw (eq-eqb g.simple g.simple refl, low)
                (λ p. record { number = number p; own = false; cargo = sym q.cargo p } ∷ before p)
                ∙ sym (cond-false _ _ _ (just_before.0.repeated q.fate))
                ∙ sym (ap (λ (l : List (Landing C)). l ++ arrivals_of (heard_again ∷ q.rest))
                (no_flight _ (suc (length q.rest)) v.sent bit));
            just = (just_again, just_before.1);
            before = before_again;
            under_way = a.under_way;
            sent_since = a.sent_since;
            waits = a.waits;
          }

      again_heard : Sound image m.numbers e g opened (gathering m.numbers t gathered g) sent t v
          (hand_up t xs g.simple x ∷ ds)
      again_heard =
          rw low (record {
            address = s.address;
            configured = s.configured;
            bound = s.bound;
            book = heard_again ∷ q.rest;
            agrees = again_agrees;
            unheard = s.unheard;
            late = λ o a b. let l = s.late o a b in omega arith;
            quiet = s.quiet;
            due = λ r some _ _. absurd cc;
            frames = λ o y among device superframe.
                let f = s.frames o y among device superframe in (f.0, ⊎_elim (λ a. inl a) (λ b. inr (still b)) f.1);
          })
        where
          still : {y : Sending} → AgainFrame image m.numbers g sent last v s.book y
              → AgainFrame image m.numbers g sent t v (heard_again ∷ q.rest) y
          still {y = y} b =
              let same : b.to_repeat.top ∷ b.to_repeat.rest ≡ q.top ∷ q.rest = sym b.to_repeat.book_is ∙ q.book_is in
              let top : b.to_repeat.top ≡ q.top = cc in
              let when : ◌≡◌ {A = Option ℕ} (Some y.timeslot) (Some t) = sym b.to_repeat.starts ∙ q.starts in
              let slot : y.timeslot ≡ t = cc in
              record {
                cargo = b.cargo;
                to_repeat =
                    record {
                      top = heard_again;
                      rest = q.rest;
                      book_is = refl;
                      fate = q.fate;
                      cargo =
                          ap (λ (l : Line C). l.cargo) (sym top) ∙ b.to_repeat.cargo;
                      starts = b.to_repeat.starts;
                    };
                octets = b.octets;
                spent = b.spent;
                once = λ _. omega arith;
              }

  -- the cargo laws
  module _ (short : (x : C) → length (image x) ≤ 124) (apart : Apart image) where
    -- cargo is read out of its frame as it was
    read_out : (x y : C) (xs : List ℕ) → xs ≡ frame_with image m.numbers x → Receives image xs (Ok y) → x ≡ y
    read_out x y xs e received =
        let q = delivered image apart short xs (Ok y) received x e in
        let z : y ≡ x = cc in sym z

    pub heard_of : (e i : ℕ) (g : Grant) → grant_at m i ≡ Some g → (k : Inner) (v : Device C) (ds : List (Deed C))
        → Steady m k ds → k.opened ≡ true → Sound image m.numbers e g k.opened k.gathered k.sent k.last v ds
        → (t : ℕ) (xs : List ℕ) → k.last < t → (y : Sending) → Among y (sendings ds) → y.device ≡ e
        → y.superframe ≡ superframes ds → y.timeslot ≡ t → y.octets ≡ xs → (x : C) → Receives image xs (Ok x)
        → (sending m k t ≡ Some g) × Sound image m.numbers e g k.opened
        (gathering m.numbers t k.gathered g) k.sent t v (hand_up t xs g.simple x ∷ ds)
    heard_of e i g at k v ds steady opened s t xs above y among device superframe timeslot octets x received =
        ⊎_elim own again f.1
      where
        f : (learned e ds ≡ true)
            × (OwnFrame image m.numbers g v y ⊎ AgainFrame image m.numbers g k.sent k.last v s.book y)
        f = s.frames opened y among device superframe

        own : OwnFrame image m.numbers g v y
            → (sending m k t ≡ Some g) × Sound image m.numbers e g k.opened
            (gathering m.numbers t k.gathered g) k.sent t v (hand_up t xs g.simple x ∷ ds)
        own w =
            let same = read_out w.cargo x xs (sym octets ∙ w.octets) received in
            let slot : t ≡ g.first = sym timeslot ∙ w.timeslot in (
              sender_is k.sent steady.sent_alike t i g at (inl (sym slot)),
              subst (λ (z : C). Sound image m.numbers e g k.opened (gathering m.numbers t k.gathered g) k.sent t v
                  (hand_up t xs g.simple z ∷ ds)) same
                  (own_heard e i g at k.opened opened k.gathered k.sent k.last v ds s f.0 t xs above w.cargo slot
                  w.sent (marked_own m rules i g k.gathered at steady.size)),
            )

        again : AgainFrame image m.numbers g k.sent k.last v s.book y
            → (sending m k t ≡ Some g) × Sound image m.numbers e g k.opened
            (gathering m.numbers t k.gathered g) k.sent t v (hand_up t xs g.simple x ∷ ds)
        again w =
            let same = read_out w.cargo x xs (sym octets ∙ w.octets) received in
            let q = w.to_repeat in
            let there : ToRepeat image m.numbers g k.sent t w.cargo s.book =
            record {
              top = q.top;
              rest = q.rest;
              book_is = q.book_is;
              fate = q.fate;
              cargo = q.cargo;
              starts =
                  q.starts ∙ ap Some timeslot;
            } in (
              sender_is k.sent steady.sent_alike t i g at (inr there.starts),
              subst (λ (z : C). Sound image m.numbers e g k.opened (gathering m.numbers t k.gathered g) k.sent t v
                  (hand_up t xs g.simple z ∷ ds)) same
                  (again_heard e i g at k.opened opened k.gathered k.sent k.last v ds s f.0 t xs above w.cargo there
                  w.spent (λ a. let l = w.once a in omega arith)),
            )

    -- the devices that did not send it: no arrival is theirs, and their bits stay
    pub heard_elsewhere : (e i j : ℕ) (g h : Grant) → grant_at m i ≡ Some g → grant_at m j ≡ Some h → (i ≡ j → ⊥)
        → (k : Inner) (v : Device C) (ds : List (Deed C)) → Steady m k ds
        → Sound image m.numbers e h k.opened k.gathered k.sent k.last v ds → (t : ℕ) (xs : List ℕ) (x : C)
        → k.last < t → Sound image m.numbers e h k.opened (gathering m.numbers t k.gathered g) k.sent t v
        (hand_up t xs g.simple x ∷ ds)
    heard_elsewhere e i j g h here there differ k v ds steady s t xs x above = record {
      address = s.address;
      configured = s.configured;
      bound = s.bound;
      book = s.book;
      agrees = record {
        accepts = s.agrees.accepts;
        tells = s.agrees.tells;
        sends = s.agrees.sends;
        arrives = rw (ne_eqb _ _ other)
            (subst (λ (b : Bool). map landing_of
            (history.arrivals e (for_retransmission m.numbers) (Some h.simple) ds) ≡ in_flight b
            (length s.book) v.sent ++ arrivals_of s.book)
            (sym same_current) s.agrees.arrives);
        just = s.agrees.just;
        before = s.agrees.before;
        under_way = s.agrees.under_way;
        sent_since = s.agrees.sent_since;
        waits = s.agrees.waits;
      };
      unheard = λ o u. same_bit ∙ s.unheard o u;
      late = λ o u b. let l = s.late o u (sym same_bit ∙ b) in omega arith;
      quiet = λ none. same_current ∙ s.quiet none;
      due = s.due;
      frames = λ o y among device superframe.
          let f = s.frames o y among device superframe in (f.0, ⊎_elim (λ b. inl b) (λ b. inr (still b)) f.1);
    }
      where
        other : g.simple ≡ h.simple → ⊥
        other q = differ (addresses_differ m rules i j g h here there (inr q))

        bits_of : (b : Bool) → acknowledged m.numbers
            (cond b k.gathered
            (marked_with m.numbers k.gathered g)) h.first ≡ acknowledged m.numbers k.gathered h.first
        bits_of true = refl
        bits_of false = marked_other m rules i j g h k.gathered here there differ steady.size

        same_bit : acknowledged m.numbers
            (gathering m.numbers t k.gathered g) h.first ≡ acknowledged m.numbers k.gathered h.first
        same_bit = bits_of (for_retransmission m.numbers t)

        current_is : (b : Bool) → acknowledged m.numbers
            (cond b (gathering m.numbers t k.gathered g) k.sent) h.first ≡ acknowledged m.numbers
            (cond b k.gathered k.sent) h.first
        current_is true = same_bit
        current_is false = refl

        same_current : acknowledged m.numbers
            (current k.opened (learned e ds)
            (gathering m.numbers t k.gathered g) k.sent) h.first ≡ acknowledged m.numbers
            (current k.opened (learned e ds) k.gathered k.sent) h.first
        same_current = current_is (k.opened && learned e ds)

        still : {y : Sending} → AgainFrame image m.numbers h k.sent k.last v s.book y
            → AgainFrame image m.numbers h k.sent t v s.book y
        still b =
            record {
              cargo = b.cargo;
              to_repeat = b.to_repeat;
              octets = b.octets;
              spent = b.spent;
              once = λ q.
                  let l = b.once q in omega arith;
            }
