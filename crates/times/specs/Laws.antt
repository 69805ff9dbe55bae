-- Laws of the slot times.
use Rattle.std.specs.Prelude.{◌≡◌, ℕ, ◌+◌, ◌<◌, ◌≤◌, Some}
use Rattle.plan.specs.declared.grant.Grant.{Grant}
use Rattle.plan.specs.declared.numbers.Numbers.{Numbers}
use Rattle.plan.specs.Rules.{PlanMeaning, grant_at, carried}
use Rattle.times.specs.Symbols.{beacon_symbols, frame_symbols, span_of, superframe_symbols}

-- timeslots follow each other without gap or overlap: the first starts where the beacon ends, each other one where
-- the one before ends, and each takes time
pub record FollowEachOther (ns : Numbers) : Type 0 where
  pub first : (span_of ns 1 1).0 ≡ beacon_symbols ns
  pub next : (t : ℕ) → 1 ≤ t → (span_of ns (t + 1) 1).0 ≡ (span_of ns t 1).1
  pub forward : (t : ℕ) → 1 ≤ t → (span_of ns t 1).0 < (span_of ns t 1).1

-- a frame with as much payload as a grant carries, its control octet and its FCS, sent at the grant's start, ends
-- inside the grant's timeslots
abbrev pub FullFramesEndInside : PlanMeaning → Type 0
FullFramesEndInside m =
    (i : ℕ) (g : Grant) → grant_at m i ≡ Some g →
    (span_of m.numbers g.first g.width).0 + frame_symbols (carried m.numbers.size g + 3) ≤
    (span_of m.numbers g.first g.width).1

-- the superframe is as long as its last timeslot's end, and as the beacon where there is no timeslot
pub record EndsWithLastTimeslot (ns : Numbers) : Type 0 where
  pub last : 1 ≤ ns.timeslots → superframe_symbols ns ≡ (span_of ns ns.timeslots 1).1
  pub none : ns.timeslots ≡ 0 → superframe_symbols ns ≡ beacon_symbols ns
