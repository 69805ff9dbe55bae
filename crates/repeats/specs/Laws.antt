-- Laws of the repeats, for every plan and every bitmap in which each grant's bits are alike.
use Rattle.std.specs.Prelude.{◌≡◌, ℕ, ◌+◌, ◌<◌, ◌≤◌, true, ◌⊎◌, List, Some, None, Option}
use Rattle.plan.specs.declared.grant.Grant.{Grant}
use Rattle.plan.specs.declared.numbers.Numbers.{Numbers}
use Rattle.plan.specs.Rules.{PlanMeaning, Rules, grant_at, Holds}
use Rattle.plan.specs.Laws.{Names}
use Rattle.repeats.specs.BitAndRepeatTimeslots.{for_retransmission}
use Rattle.repeats.specs.Bitmaps.{acknowledged}
use Rattle.repeats.specs.Starts.{wants_repeat, repeat_start}

-- each grant's bits are alike: all its timeslots have the bit of its first
abbrev pub BitsAlike : PlanMeaning → List ℕ → Type 0
BitsAlike m xs = (i : ℕ) (g : Grant) → grant_at m i ≡ Some g → (t : ℕ) → Holds g t
    → acknowledged m.numbers xs t ≡ acknowledged m.numbers xs g.first

-- they are alike whatever the plan
abbrev pub AlwaysAlike : List ℕ → Type 0
AlwaysAlike xs = (m : PlanMeaning) → BitsAlike m xs

-- a change of a bitmap for a grant keeps each grant's bits alike, in every plan that has the grant
abbrev pub StaysAlike : Numbers → List ℕ → Grant → List ℕ → Type 0
StaysAlike n xs g ys = (m : PlanMeaning) (i : ℕ) → Rules m → m.numbers ≡ n → grant_at m i ≡ Some g → BitsAlike m xs
    → BitsAlike m ys

-- base timeslot t is one of those in which a grant repeats
abbrev pub RepeatsIn : Numbers → List ℕ → Grant → ℕ → Type 0
RepeatsIn n xs g t = (s : ℕ) × (repeat_start n xs g ≡ Some s) × (s ≤ t) × (t < s + g.width)

-- the repeats of two grants never share a base timeslot
abbrev pub RepeatsApart : PlanMeaning → List ℕ → Type 0
RepeatsApart m xs = (t i j : ℕ) (g h : Grant) → grant_at m i ≡ Some g → grant_at m j ≡ Some h
    → RepeatsIn m.numbers xs g t → RepeatsIn m.numbers xs h t → i ≡ j

-- all repeats lie in the timeslots for retransmission
abbrev pub RepeatsWithin : PlanMeaning → List ℕ → Type 0
RepeatsWithin m xs = (t i : ℕ) (g : Grant) → grant_at m i ≡ Some g → RepeatsIn m.numbers xs g t
    → for_retransmission m.numbers t ≡ true

-- an answer names the one grant whose own repeat starts at timeslot t
abbrev pub NamesRepeater : PlanMeaning → List ℕ → ℕ → Option ℕ → Type 0
NamesRepeater m xs t o = Names m (λ g. repeat_start m.numbers xs g ≡ Some t) o

-- it names the one grant that has a frame start at timeslot t, its own or a repeat
abbrev pub NamesSender : PlanMeaning → List ℕ → ℕ → Option ℕ → Type 0
NamesSender m xs t o = Names m (λ g. (g.first ≡ t) ⊎ (repeat_start m.numbers xs g ≡ Some t)) o

-- a grant is served before another: its repeat lies wholly before the other's, and if it has none, neither has the
-- other
pub record ServedBefore (n : Numbers) (xs : List ℕ) (g h : Grant) : Type 0 where
  pub wholly : (s u : ℕ) → repeat_start n xs g ≡ Some s → repeat_start n xs h ≡ Some u → s + g.width ≤ u
  pub unserved : repeat_start n xs g ≡ None → repeat_start n xs h ≡ None

-- of two grants that are to repeat, the earlier is served before the later
abbrev pub ServedInOrder : PlanMeaning → List ℕ → Type 0
ServedInOrder m xs = (i j : ℕ) (g h : Grant) → grant_at m i ≡ Some g → grant_at m j ≡ Some h
    → wants_repeat m.numbers xs g ≡ true → wants_repeat m.numbers xs h ≡ true → g.first < h.first
    → ServedBefore m.numbers xs g h
