-- The answers of a plan, as its meaning fixes them.
use Rattle.std.specs.Prelude.{ℕ, zero, suc, ◌+◌, Bool, false, cond, ◌&&◌, Some, None, Option, nat_eq, nat_le, nat_lt}
use Rattle.std.specs.Option.{option_or, option_map}
use Rattle.plan.specs.declared.grant.Grant.{Grant}
use Rattle.plan.specs.Rules.{PlanMeaning, count_of, grant_at}

-- the least of the numbers 1 to n that passes a test, or none
abbrev pub first_of : (ℕ → Bool) → ℕ → Option ℕ
first_of p zero = None
first_of p (suc n) = option_or (first_of p n) (cond (p (suc n)) (Some (suc n)) None)

-- there is a grant, and it passes a test
abbrev pub passing : (Grant → Bool) → Option Grant → Bool
passing p None = false
passing p (Some g) = p g

-- the number of a plan's first grant that passes a test, or none
abbrev pub first_grant : PlanMeaning → (Grant → Bool) → Option ℕ
first_grant m p = first_of (λ i. passing p (grant_at m i)) (count_of m)

-- whether a base timeslot is one of a grant's
abbrev pub holding : ℕ → Grant → Bool
holding t g = nat_le g.first t && nat_lt t (g.first + g.width)

-- the number of the grant that holds base timeslot t, or none
unfoldable pub holder_of : PlanMeaning → ℕ → Option ℕ
holder_of m t = first_grant m (holding t)

-- the number of the grant with a full address, or none
unfoldable pub number_with : PlanMeaning → ℕ → Option ℕ
number_with m a = first_grant m (λ g. nat_eq g.address a)

-- the grant that a number names, beside the number
abbrev pub with_grant : PlanMeaning → Option ℕ → Option (ℕ × Grant)
with_grant m None = None
with_grant m (Some i) = option_map (λ g. (i, g)) (grant_at m i)
