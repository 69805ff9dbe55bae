-- Slot plans: what a plan means, and the rules that it keeps.
use Rattle.std.specs.Prelude.{◌≡◌, ℕ, ◌+◌, ◌-◌, ◌*◌, ◌/◌, ◌^◌, ◌<◌, ◌≤◌, min, cond, ◌⊎◌, List, length, Some, None, Option, ◌==◌, nat_le}
use Rattle.std.specs.List.{slice_get}
use Rattle.frame.specs.declared.direction.Direction.{Direction}
use Rattle.frame.specs.declared.direction.Direction.TheVariants as directions
use Rattle.plan.specs.declared.grant.Grant.{Grant}
use Rattle.plan.specs.declared.numbers.Numbers.{Numbers}

-- what a plan means: its numbers, and its grants in order
pub record PlanMeaning : Type 0 where
  pub numbers : Numbers
  pub grants : List Grant

abbrev pub plan_of : Numbers → List Grant → PlanMeaning
plan_of ns gs = record { numbers = ns; grants = gs }

-- how many grants a plan has
abbrev pub count_of : PlanMeaning → ℕ
count_of m = length m.grants

-- the grant with a number, from 1 on, in a list, or none
abbrev pub numbered_in : List Grant → ℕ → Option Grant
numbered_in gs i = cond (i == 0) None (slice_get gs (i - 1))

-- the grant of a plan with a number, or none
abbrev pub grant_at : PlanMeaning → ℕ → Option Grant
grant_at m i = numbered_in m.grants i

-- base timeslot t is one of a grant's
abbrev pub Holds : Grant → ℕ → Type 0
Holds g t = (g.first ≤ t) × (t < g.first + g.width)

-- a grant's timeslots, of which there is one at least, lie in low to high
abbrev pub LiesIn : ℕ → ℕ → Grant → Type 0
LiesIn low high g = (low ≤ g.first) × (g.first + g.width - 1 ≤ high)

-- the direction of a grant: uplink exactly when it begins among the uplink timeslots
abbrev pub direction_of : Numbers → Grant → Direction
direction_of n g = cond (nat_le g.first n.uplink) directions.Uplink directions.Bidirectional

-- how many octets of payload a grant carries, where a base timeslot takes n of them
abbrev pub carried : ℕ → Grant → ℕ
carried n g = min 124 (g.width * n)

-- how many octets the bitmap of an Online beacon has: the fewest that hold a bit for each of the timeslots R + 1 to N
abbrev pub bitmap_octets : Numbers → ℕ
bitmap_octets n = (n.timeslots - n.retransmission + 7) / 8

-- the rules of a plan's numbers
pub record NumbersKeep (n : Numbers) : Type 0 where
  pub timeslots : n.timeslots ≤ 254
  pub uplink : n.uplink ≤ n.timeslots
  pub retransmission : n.retransmission ≤ n.uplink / 2
  pub size : (1 ≤ n.size) × (n.size ≤ 124)
  pub management : (1 ≤ n.management) × (n.management ≤ 7)
  pub coordinator : n.coordinator ≤ 254
  pub channel : (11 ≤ n.channel) × (n.channel ≤ 26)
  pub sequence : n.sequence ≤ 255

-- the rules that a grant keeps by itself
pub record GrantKeeps (n : Numbers) (g : Grant) : Type 0 where
  pub address : g.address < 2 ^ 64
  pub simple : g.simple ≤ 254
  pub other : g.simple ≡ n.coordinator → ⊥
  pub width : 1 ≤ g.width
  pub timeslots : LiesIn (n.retransmission + 1) n.uplink g ⊎ LiesIn (n.uplink + 1) n.timeslots g

-- two grants share a base timeslot
abbrev pub ShareTimeslot : Grant → Grant → Type 0
ShareTimeslot g h = (t : ℕ) × Holds g t × Holds h t

-- two grants share a full address, a simple address or a base timeslot
abbrev pub Clash : Grant → Grant → Type 0
Clash g h = (g.address ≡ h.address) ⊎ ((g.simple ≡ h.simple) ⊎ ShareTimeslot g h)

-- the numbers keep their rules, and there are not too many grants
pub record Framed (m : PlanMeaning) : Type 0 where
  pub numbers : NumbersKeep m.numbers
  pub few : count_of m ≤ 128

-- all rules: each grant keeps its own, and no two of them clash
pub record Rules (m : PlanMeaning) : Type 0 where
  pub framed : Framed m
  pub own : (i : ℕ) (g : Grant) → grant_at m i ≡ Some g → GrantKeeps m.numbers g
  pub apart : (i j : ℕ) (g h : Grant) → grant_at m i ≡ Some g → grant_at m j ≡ Some h → Clash g h → i ≡ j
