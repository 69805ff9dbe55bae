-- The verdict on what is to be a plan: the one fault that it is refused with, or none.
use Rattle.std.specs.Prelude.{◌≡◌, ℕ, zero, suc, ◌+◌, ◌-◌, ◌/◌, ◌^◌, ◌<◌, min, max, Bool, cond, not, ◌&&◌, ◌||◌, List, is_some, Some, None, Option, ◌==◌, nat_le, nat_lt}
use Rattle.std.specs.Option.{option_map}
use Rattle.frame.specs.declared.faults.Fault.{Fault}
use Rattle.frame.specs.declared.faults.Refusal.TheVariants as refusal
use Rattle.frame.specs.Refusals.{fault}
use Rattle.plan.specs.declared.grant.Grant.{Grant}
use Rattle.plan.specs.declared.numbers.Numbers.{Numbers}
use Rattle.plan.specs.Rules.{PlanMeaning, count_of, numbered_in, grant_at, Clash, GrantKeeps, Framed, Rules}
use Rattle.plan.specs.Answers.{first_of, passing}

-- whether a plan's numbers keep their rules
unfoldable pub numbers_kept : Numbers → Bool
numbers_kept n =
    nat_le n.timeslots 254 && (nat_le n.uplink n.timeslots && (nat_le n.retransmission (n.uplink / 2)
    && ((nat_le 1 n.size && nat_le n.size 124) && ((nat_le 1 n.management && nat_le n.management 7)
    && (nat_le n.coordinator 254 && ((nat_le 11 n.channel && nat_le n.channel 26) && nat_le n.sequence 255))))))

-- whether a grant's timeslots lie in low to high
abbrev pub lying_in : ℕ → ℕ → Grant → Bool
lying_in low high g = nat_le low g.first && nat_le (g.first + g.width - 1) high

-- whether a grant keeps the rules by itself
unfoldable pub grant_kept : Numbers → Grant → Bool
grant_kept n g =
    nat_lt g.address (2 ^ 64) && (nat_le g.simple 254 && (not (g.simple == n.coordinator) && (nat_le 1 g.width
    && (lying_in (n.retransmission + 1) n.uplink g || lying_in (n.uplink + 1) n.timeslots g))))

-- whether two grants share a full address, a simple address or a base timeslot
unfoldable pub clashing : Grant → Grant → Bool
clashing g h =
    (g.address == h.address) || (g.simple == h.simple
    || nat_lt (max g.first h.first) (min (g.first + g.width) (h.first + h.width)))

-- whether one of the grants 1 to n of a list shares something with a grant
unfoldable pub clashing_before : List Grant → ℕ → Grant → Bool
clashing_before gs n g = is_some (first_of (λ j. passing (λ h. clashing h g) (numbered_in gs j)) n)

-- whether grant i breaks a rule by itself or with a grant before it
unfoldable pub breaking : PlanMeaning → ℕ → Bool
breaking m i = passing (λ g. not (grant_kept m.numbers g) || clashing_before m.grants (i - 1) g) (grant_at m i)

-- the fault: a broken number or too many grants come first, with place 0; else the place is the number of the first
-- grant that breaks a rule
unfoldable pub verdict : PlanMeaning → Option Fault
verdict m =
    cond (numbers_kept m.numbers && nat_le (count_of m) 128)
    (option_map (fault refusal.Plan) (first_of (breaking m) (count_of m)))
    (Some (fault refusal.Plan 0))

-- grant i, if there is one, keeps the rules by itself and with each grant before it
abbrev pub KeepsSoFar : PlanMeaning → ℕ → Type 0
KeepsSoFar m i = (g : Grant) → grant_at m i ≡ Some g
    → GrantKeeps m.numbers g × ((j : ℕ) (h : Grant) → j < i → grant_at m j ≡ Some h → Clash h g → ⊥)

-- the first grant that breaks a rule has this number, in a plan whose frame is sound
pub record FirstBroken (m : PlanMeaning) (place : ℕ) : Type 0 where
  pub framed : Framed m
  pub before : (i : ℕ) → i < place → KeepsSoFar m i
  pub broken : KeepsSoFar m place → ⊥

-- why a plan is refused at a place: at 0 its frame is broken, else the first grant that breaks a rule has this number
abbrev pub BrokenAt : PlanMeaning → ℕ → Type 0
BrokenAt m zero = Framed m → ⊥
BrokenAt m (suc i) = FirstBroken m (suc i)

-- what a verdict says: without a fault all rules hold, and a fault is `Plan` at the place where a rule is broken first
abbrev pub Says : PlanMeaning → Option Fault → Type 0
Says m None = Rules m
Says m (Some f) = (place : ℕ) × (f ≡ fault refusal.Plan place) × BrokenAt m place

-- the one verdict that is true of a plan
pub record OnlyVerdict (m : PlanMeaning) (o : Option Fault) : Type 0 where
  pub says : Says m o
  pub only : (other : Option Fault) → Says m other → other ≡ o
