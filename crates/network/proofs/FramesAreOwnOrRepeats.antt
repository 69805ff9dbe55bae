-- A grant's first timeslot is none for retransmission, and its repeat starts in one.
use Rattle.std.proofs.Common.{◌≡◌, ℕ, true, false, List, Some, arith}
use Rattle.plan.specs.declared.grant.Grant.{Grant}
use Rattle.plan.specs.Rules.{PlanMeaning, Rules, grant_at}
use Rattle.plan.proofs.Lawful.{grant_within}
use Rattle.repeats.specs.BitAndRepeatTimeslots.{for_retransmission}
use Rattle.repeats.specs.Starts.{repeat_start}
use Rattle.repeats.proofs.BitsAndRepeatsLieApart.{own_is_not_for_retransmission}
use Rattle.repeats.proofs.RepeatsAreForRetransmission.{repeat_is_for_retransmission}

module _ (m : PlanMeaning) (rules : Rules m) (i : ℕ) (g : Grant) (at : grant_at m i ≡ Some g) where
  pub own_is_no_repeat : for_retransmission m.numbers g.first ≡ false
  own_is_no_repeat =
      let w = grant_within m rules i g at in
      own_is_not_for_retransmission m rules i g at g.first (omega arith, omega arith)

  pub repeats_are_for_retransmission : (xs : List ℕ) (s : ℕ) → repeat_start m.numbers xs g ≡ Some s
      → for_retransmission m.numbers s ≡ true
  repeats_are_for_retransmission xs s starts =
      let w = grant_within m rules i g at in
      repeat_is_for_retransmission m.numbers xs g s (s, starts, omega arith, omega arith)
