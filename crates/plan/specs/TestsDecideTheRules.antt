-- The tests of the verdict decide the rules.
use Rattle.std.specs.Prelude.{◌≡◌, ℕ, ◌+◌, ◌<◌, ◌≤◌, min, max, true, false, Decides, nat_lt}
use Rattle.std.proofs.Common.{sym, inl, inr, ⊎_elim, arith}
use Rattle.std.proofs.lemmas.Bool.{eqb-true, ltb-true, or_cases, and_left, and_right, lt-leb, le-ltb}
use Rattle.std.proofs.lemmas.Bool.Decides.{nat_tests}
use Rattle.plan.specs.declared.grant.Grant.{Grant}
use Rattle.plan.specs.declared.numbers.Numbers.{Numbers}
use Rattle.plan.specs.Rules.{NumbersKeep, GrantKeeps, Clash, Holds, ShareTimeslot}
use Rattle.plan.specs.Answers.{holding}
use Rattle.plan.specs.Verdicts.{numbers_kept, grant_kept, clashing}

pub holding_decides : (t : ℕ) (g : Grant) → Decides (holding t g) (Holds g t)
holding_decides t g = (λ e. grind (arith, nat_tests), λ h. grind (arith, nat_tests))

pub held_now : (t : ℕ) (g : Grant) → Holds g t → holding t g ≡ true
held_now t g h = (holding_decides t g).1 h

pub held_later : (t : ℕ) (g : Grant) → t < g.first → holding t g ≡ false
held_later t g h = and_left _ _ (lt-leb g.first t h)

pub held_before : (t : ℕ) (g : Grant) → g.first + g.width ≤ t → holding t g ≡ false
held_before t g h = and_right _ _ (le-ltb t (g.first + g.width) h)

pub numbers_decided : (n : Numbers) → Decides (numbers_kept n) (NumbersKeep n)
unfolding numbers_kept
numbers_decided n = (λ e. grind (arith, nat_tests), λ h. grind (arith, nat_tests))

pub grant_decided : (n : Numbers) (g : Grant) → Decides (grant_kept n g) (GrantKeeps n g)
unfolding grant_kept
grant_decided n g = (λ e. grind (arith, nat_tests), λ h. grind (arith, nat_tests))

sharing : (g h : Grant) → nat_lt (max g.first h.first) (min (g.first + g.width) (h.first + h.width)) ≡ true
    → ShareTimeslot g h
sharing g h e =
    let k = ltb-true _ _ e in
    (max g.first h.first, (omega arith, omega arith), (omega arith, omega arith))

pub clash_decided : (g h : Grant) → Decides (clashing g h) (Clash g h)
unfolding clashing
clash_decided g h = (
  λ e. ⊎_elim
      (λ a. inl (eqb-true _ _ a))
      (λ b. inr (⊎_elim (λ s. inl (eqb-true _ _ s)) (λ t. inr (sharing g h t)) (or_cases _ _ b)))
      (or_cases _ _ e),
  λ k. grind (arith, nat_tests),
)

pub clash_swap : (g h : Grant) → Clash g h → Clash h g
clash_swap g h (inl e) = inl (sym e)
clash_swap g h (inr (inl e)) = inr (inl (sym e))
clash_swap g h (inr (inr s)) = inr (inr (s.0, s.2, s.1))
