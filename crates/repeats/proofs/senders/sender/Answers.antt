use Rattle.std.proofs.Common.{◌≡◌, ℕ, true, false, List, Option, sym, ap, ◌∙◌, subst}
use Rattle.std.proofs.lemmas.Bool.{cond-true, cond-false}
use Rattle.plan.specs.declared.numbers.Numbers.{Numbers}
use Rattle.plan.specs.Rules.{PlanMeaning, Rules}
use Rattle.repeats.specs.BitAndRepeatTimeslots.{for_retransmission}
use Rattle.repeats.specs.Laws.{BitsAlike, NamesSender}
use Rattle.repeats.specs.Starts.{repeater_at, beginner_at, sender_at}
use Rattle.repeats.proofs.AnswersNameTheSender.{names_sender}
use Rattle.repeats.proofs.senders.sender.Goals as goal

named : (m : PlanMeaning) (xs : List ℕ) (t : ℕ) (r : Option ℕ) → Rules m → r ≡ sender_at m xs t → BitsAlike m xs
    → NamesSender m xs t r
named m xs t r rules e alike = subst (NamesSender m xs t) (sym e) (names_sender m xs rules alike t)

repeated : (m : PlanMeaning) (xs : List ℕ) (t : ℕ) → for_retransmission m.numbers t ≡ true
    → repeater_at m xs t ≡ sender_at m xs t
unfolding sender_at
repeated m xs t h = sym (cond-true _ _ _ h)

begun : (m : PlanMeaning) (xs : List ℕ) (t : ℕ) → for_retransmission m.numbers t ≡ false
    → beginner_at m t ≡ sender_at m xs t
unfolding sender_at
begun m xs t h = sym (cond-false _ _ _ h)

pub returns-then-is_for_retransmission : goal.returns-then-is_for_retransmission
returns-then-is_for_retransmission g c =
    let m = g.P.SlotPlan.meaning c.args.plan.now in
    let rules = g.met.P.SlotPlan.keeps c.args.plan.now in
    let asked = sym
    (c.is_for_retransmission.ensures ∙ ap (λ (n : Numbers). for_retransmission n c.args.t) c.numbers.ensures) in
    let e = c.repeater.ensures.answer
    ∙ repeated m c.args.octets.now c.args.t (asked ∙ c.if-is_for_retransmission.true) in
    record { answer = e; names = named m c.args.octets.now c.args.t c.repeater.result rules e }

pub returns-else-is_for_retransmission : goal.returns-else-is_for_retransmission
returns-else-is_for_retransmission g c =
    let m = g.P.SlotPlan.meaning c.args.plan.now in
    let rules = g.met.P.SlotPlan.keeps c.args.plan.now in
    let asked = sym
    (c.is_for_retransmission.ensures ∙ ap (λ (n : Numbers). for_retransmission n c.args.t) c.numbers.ensures) in
    let e = c.beginner.ensures ∙ begun m c.args.octets.now c.args.t (asked ∙ c.if-is_for_retransmission.false) in
    record { answer = e; names = named m c.args.octets.now c.args.t c.beginner.result rules e }
