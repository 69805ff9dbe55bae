-- Laws of every plan.
use Rattle.std.specs.Prelude.{◌≡◌, ℕ, ◌⊎◌, Some, Option}
use Rattle.plan.specs.declared.grant.Grant.{Grant}
use Rattle.plan.specs.Rules.{PlanMeaning, count_of, grant_at, Holds}
use Rattle.plan.specs.Answers.{holder_of}

-- at most one grant holds a base timeslot
abbrev pub AtMostOneHolder : PlanMeaning → Type 0
AtMostOneHolder m = (t i j : ℕ) (g h : Grant) → grant_at m i ≡ Some g → grant_at m j ≡ Some h → Holds g t
    → Holds h t → i ≡ j

-- no two grants share a full or a simple address
abbrev pub AddressesDiffer : PlanMeaning → Type 0
AddressesDiffer m = (i j : ℕ) (g h : Grant) → grant_at m i ≡ Some g → grant_at m j ≡ Some h
    → (g.address ≡ h.address) ⊎ (g.simple ≡ h.simple) → i ≡ j

-- there is a grant i, and a property holds of it
abbrev pub GrantWith : PlanMeaning → (Grant → Type 0) → ℕ → Type 0
GrantWith m P i = (g : Grant) × (grant_at m i ≡ Some g) × P g

-- an answer names the one grant with a property: it is `Some i` exactly when there is a grant i with it
abbrev pub Names : PlanMeaning → (Grant → Type 0) → Option ℕ → Type 0
Names m P o = (i : ℕ) → (o ≡ Some i → GrantWith m P i) × (GrantWith m P i → o ≡ Some i)

-- it names the grant that holds base timeslot t
abbrev pub NamesHolder : PlanMeaning → ℕ → Option ℕ → Type 0
NamesHolder m t o = Names m (λ g. Holds g t) o

-- it names the grant with a full address
abbrev pub NamesAddressed : PlanMeaning → ℕ → Option ℕ → Type 0
NamesAddressed m a o = Names m (λ g. g.address ≡ a) o

-- two plans answer alike when they are asked for their numbers, their count, grant i and the holder of base timeslot t
pub record Alike (m o : PlanMeaning) (i t : ℕ) : Type 0 where
  pub numbers : m.numbers ≡ o.numbers
  pub count : count_of m ≡ count_of o
  pub grant : grant_at m i ≡ grant_at o i
  pub holder : holder_of m t ≡ holder_of o t
