-- What a listed plan means.
use Rattle.std.specs.Prelude.{vec_items}
use Rattle.plan.specs.declared.listed.ListedPlan.{ListedPlan}
use Rattle.plan.specs.Rules.{PlanMeaning, plan_of}

-- its numbers, and the grants of its list
abbrev pub listed_meaning : ListedPlan → PlanMeaning
listed_meaning p = plan_of p.numbers (vec_items p.grants)
