-- What the verdict says, in the words of the rules.
use Rattle.std.specs.Prelude.{◌≡◌, ℕ, zero, suc, ◌+◌, ◌-◌, ◌<◌, ◌≤◌, Bool, true, false, not, ◌&&◌, ◌||◌, List, length, take, is_some, Some, None, Decides, Option, nat_le, slice_index_or, refl}
use Rattle.std.proofs.Common.{sym, ap, ◌∙◌, subst, inl, inr, ⊎_elim, arith}
use Rattle.std.specs.Option.{option_map}
use Rattle.std.proofs.lemmas.List.{get_or-take, length-take-le}
use Rattle.std.proofs.lemmas.Bool.{and_parts, or_parts, or_cases, leb-true, le-leb, and_from, not-true, not-false, both_ways, cases_Bool, cases_order, cond-true, cond-false}
use Rattle.frame.specs.declared.faults.Fault.{Fault}
use Rattle.frame.specs.declared.faults.Refusal.TheVariants as refusal
use Rattle.frame.specs.Refusals.{fault}
use Rattle.plan.specs.declared.grant.Grant.{Grant}
use Rattle.plan.specs.declared.numbers.Numbers.{Numbers}
use Rattle.plan.specs.Rules.{PlanMeaning, plan_of, count_of, numbered_in, grant_at, Clash, Framed, Rules}
use Rattle.plan.specs.GrantsByPlace.{blank, ClashIn}
use Rattle.plan.specs.Answers.{first_of, passing}
use Rattle.plan.specs.Verdicts.{numbers_kept, grant_kept, clashing, clashing_before, breaking, verdict, KeepsSoFar, BrokenAt, Says, OnlyVerdict}
use Rattle.plan.specs.LeastNumberThatPasses.{First, first_tells, first_found, first_none}
use Rattle.plan.specs.GrantsByNumber.{numbered, passed, passes_there, test_number, test_at}
use Rattle.plan.specs.TestsDecideTheRules.{numbers_decided, grant_decided, clash_decided, clash_swap}

is_there : (o : Option ℕ) → is_some o ≡ true → (k : ℕ) × (o ≡ Some k)
is_there None e = absurd (both_ways false refl e)
is_there (Some k) e = (k, refl)

is_missing : (o : Option ℕ) → is_some o ≡ false → o ≡ None
is_missing None e = refl
is_missing (Some k) e = absurd (both_ways true e refl)

-- a grant that breaks no rule, as the verdict tests it
pub kept_so_far : (m : PlanMeaning) (i : ℕ) → breaking m i ≡ false → KeepsSoFar m i
unfolding breaking clashing_before
kept_so_far m i e g at =
    let parts = or_parts _ _ (sym (passes_there _ _ _ at) ∙ e) in
    let none = is_missing _ parts.1 in
    let tells_none =
    subst (First (λ j. passing (λ h. clashing h g) (grant_at m j)) (i - 1)) none (first_tells _ (i - 1)) in (
      (grant_decided m.numbers g).0 (not-false _ parts.0),
      λ j h below there clash.
          let n = numbered m j h there in
          both_ways _ (sym (passes_there _ _ _ there) ∙ tells_none j n.0 (omega arith)) ((clash_decided h g).1 clash),
    )

-- a grant that breaks one
pub broken_now : (m : PlanMeaning) (i : ℕ) → breaking m i ≡ true → KeepsSoFar m i → ⊥
unfolding breaking clashing_before
broken_now m i e keeps =
    let there = passed _ (grant_at m i) e in
    let k = keeps there.0 there.1 in
    ⊎_elim
    (λ bad. both_ways _ (not-true _ bad) ((grant_decided m.numbers there.0).1 k.0))
    (λ hit.
    let n = is_there _ hit in
    let f = subst (First (λ j. passing (λ h. clashing h there.0) (grant_at m j)) (i - 1)) n.1 (first_tells _ (i - 1)) in
    let other = passed _ (grant_at m n.0) f.2 in
    k.1 n.0 other.0 (omega arith) other.1 ((clash_decided other.0 there.0).0 other.2))
    (or_cases _ _ there.2)

-- where no grant breaks a rule, all rules hold
pub all_keep : (m : PlanMeaning) → Framed m → ((i : ℕ) → 1 ≤ i → i ≤ count_of m → KeepsSoFar m i) → Rules m
all_keep m framed keep =
    record {
      framed = framed;
      own = λ i g at. let n = numbered m i g at in (keep i n.0 n.1 g at).0;
      apart = λ i j g h here there clash.
          let n = numbered m i g here in
          let o = numbered m j h there in
          elim (cases_order i j) [
            | inl e ↦ e
            | inr (inl below) ↦ absurd ((keep j o.0 o.1 h there).1 i g below here clash)
            | inr (inr above) ↦ absurd ((keep i n.0 n.1 g here).1 j h above there (clash_swap g h clash))
          ];
    }

-- where all rules hold, no grant breaks one
pub each_keeps : (m : PlanMeaning) → Rules m → (i : ℕ) → KeepsSoFar m i
each_keeps m r i g at = (r.own i g at, λ j h below there clash. let e = r.apart j i h g there at clash in omega arith)

pub framed_decided : (m : PlanMeaning) → (numbers_kept m.numbers && nat_le (count_of m) 128) ≡ true → Framed m
framed_decided m e =
    let parts = and_parts _ _ e in
    record { numbers = (numbers_decided m.numbers).0 parts.0; few = leb-true _ _ parts.1 }

pub framed_tested : (m : PlanMeaning) → Framed m → (numbers_kept m.numbers && nat_le (count_of m) 128) ≡ true
framed_tested m f = and_from _ _ ((numbers_decided m.numbers).1 f.numbers) (le-leb _ _ f.few)

said_of : (m : PlanMeaning) (o : Option ℕ) → Framed m → First (breaking m) (count_of m) o
    → Says m (option_map (fault refusal.Plan) o)
unfolding breaking
said_of m None framed f = all_keep m framed (λ i low high. kept_so_far m i (f i low high))
said_of m (Some zero) framed f = absurd (omega arith)
said_of m (Some (suc k)) framed f = (
  suc k,
  refl,
  record {
    framed = framed;
    before = λ i below. kept_so_far m i (below_it i below);
    broken = broken_now m (suc k) f.2;
  },
)
  where
    below_it : (i : ℕ) → i < suc k → breaking m i ≡ false
    below_it zero h = refl
    below_it (suc i) h = f.3 (suc i) (omega arith) h

-- the verdict says what it should
pub verdict_says : (m : PlanMeaning) → Says m (verdict m)
unfolding verdict
verdict_says m =
    elim (cases_Bool (numbers_kept m.numbers && nat_le (count_of m) 128)) [
      | inl e ↦ rw e (said_of m _ (framed_decided m e) (first_tells (breaking m) (count_of m)))
      | inr e ↦ rw e (0, refl, λ f. both_ways _ e (framed_tested m f))
    ]

-- and only one verdict is true of a plan
lawful_broken : (m : PlanMeaning) (place : ℕ) → Rules m → BrokenAt m place → ⊥
lawful_broken m zero r b = b r.framed
lawful_broken m (suc i) r b = b.broken (each_keeps m r (suc i))

one_place : (m : PlanMeaning) (p q : ℕ) → BrokenAt m p → BrokenAt m q → p ≡ q
one_place m zero zero b c = refl
one_place m zero (suc j) b c = absurd (b c.framed)
one_place m (suc i) zero b c = absurd (c b.framed)
one_place m (suc i) (suc j) b c =
    elim (cases_order (suc i) (suc j)) [
      | inl e ↦ e
      | inr (inl below) ↦ absurd (b.broken (c.before (suc i) below))
      | inr (inr above) ↦ absurd (c.broken (b.before (suc j) above))
    ]

pub says_once : (m : PlanMeaning) (o p : Option Fault) → Says m o → Says m p → o ≡ p
says_once m None None a b = refl
says_once m None (Some f) a b = absurd (lawful_broken m b.0 a b.2)
says_once m (Some f) None a b = absurd (lawful_broken m a.0 b a.2)
says_once m (Some f) (Some g) a b = ap Some (a.1 ∙ ap (fault refusal.Plan) (one_place m a.0 b.0 a.2 b.2) ∙ sym b.1)

pub only_verdict : (m : PlanMeaning) (o : Option Fault) → o ≡ verdict m → OnlyVerdict m o
only_verdict m o e =
    let s = subst (Says m) (sym e) (verdict_says m) in
    record { says = s; only = λ other t. says_once m other o t s }

-- what is not refused keeps all rules
pub lawful : (m : PlanMeaning) → is_some (verdict m) ≡ false → Rules m
lawful m e = unfaulted (verdict m) e (verdict_says m)
  where
    unfaulted : (o : Option Fault) → is_some o ≡ false → Says m o → Rules m
    unfaulted None e s = s
    unfaulted (Some f) e s = absurd (both_ways true e refl)

-- how a check of a plan comes to the verdict: the frame is broken, a grant is the first to break a rule, or none does
pub verdict_frame : (m : PlanMeaning) → (Framed m → ⊥) → verdict m ≡ Some (fault refusal.Plan 0)
unfolding verdict
verdict_frame m broken =
    elim (cases_Bool (numbers_kept m.numbers && nat_le (count_of m) 128)) [
      | inl e ↦ absurd (broken (framed_decided m e))
      | inr e ↦ cond-false _ _ _ e
    ]

pub framed_verdict : (m : PlanMeaning) (o : Option ℕ) → Framed m → first_of (breaking m) (count_of m) ≡ o
    → verdict m ≡ option_map (fault refusal.Plan) o
unfolding verdict
framed_verdict m o framed e = cond-true _ _ _ (framed_tested m framed) ∙ ap (option_map (fault refusal.Plan)) e

pub verdict_grant : (m : PlanMeaning) (k : ℕ) → Framed m → ((i : ℕ) → 1 ≤ i → i ≤ k → breaking m i ≡ false)
    → k < count_of m → breaking m (k + 1) ≡ true → verdict m ≡ Some (fault refusal.Plan (k + 1))
verdict_grant m k framed before below e =
    framed_verdict m (Some (k + 1)) framed (first_found (breaking m) (count_of m) k before below e)

pub verdict_none : (m : PlanMeaning) (k : ℕ) → Framed m → ((i : ℕ) → 1 ≤ i → i ≤ k → breaking m i ≡ false)
    → count_of m ≤ k → verdict m ≡ None
verdict_none m k framed before past = framed_verdict m None framed (first_none (breaking m) (count_of m) k before past)

-- whether the grant at an index of the list breaks a rule
pub breaking_at : (ns : Numbers) (gs : List Grant) (k : ℕ) (g : Grant) → k < length gs
    → slice_index_or gs k blank ≡ g
    → breaking (plan_of ns gs) (k + 1) ≡ (not (grant_kept ns g) || clashing_before gs k g)
unfolding breaking
breaking_at ns gs k g below e =
    let z : k + 1 - 1 ≡ k = omega arith in
    test_at gs (λ g. not (grant_kept ns g) || clashing_before gs (k + 1 - 1) g) k below
    ∙ ap (λ (n : ℕ). not (grant_kept ns (slice_index_or gs k blank)) || clashing_before gs n
    (slice_index_or gs k blank)) z
    ∙ ap (λ (g : Grant). not (grant_kept ns g) || clashing_before gs k g) e

-- whether one of the grants before it clashes with a grant, by their places
pub clashing_tells : (gs : List Grant) (n : ℕ) (g : Grant) → n ≤ length gs
    → Decides (clashing_before gs n g) (ClashIn (take n gs) g)
unfolding clashing_before
clashing_tells gs n g room = (
  λ e.
      let r = reach in
      let there = is_there _ e in
      let f = subst (First p n) there.1 (first_tells p n) in
      let k = there.0 in
      let hit = (clash_decided (slice_index_or gs (k - 1) blank) g).0
      (sym (test_number gs (λ h. clashing h g) k f.0 (omega arith)) ∙ f.2) in
      (k - 1, omega arith, subst (λ (h : Grant). Clash h g) (sym (get_or-take n gs (k - 1) blank (omega arith))) hit),
  λ c.
      elim (cases_Bool (is_some (first_of p n))) [
        | inl e ↦ e
        | inr e ↦
            let r = reach in
            let none = subst (First p n) (is_missing _ e) (first_tells p n) in
            let hit = subst (λ (h : Grant). Clash h g) (get_or-take n gs c.0 blank (omega arith)) c.2 in
            absurd (both_ways _
            (sym (test_at gs (λ h. clashing h g) c.0 (omega arith))
            ∙ none (c.0 + 1) (omega arith) (omega arith)) ((clash_decided (slice_index_or gs c.0 blank) g).1 hit))
      ],
)
  where
    p : ℕ → Bool
    p = λ j. passing (λ h. clashing h g) (numbered_in gs j)

    reach : length (take n gs) ≡ n
    reach = length-take-le n gs room
