-- What an even plan means.
use Rattle.plan.specs.declared.even.EvenPlan.{EvenPlan}
use Rattle.plan.specs.Rules.{PlanMeaning}
use Rattle.plan.specs.EvenGrants.{even_plan}

-- its numbers, and as many grants as it counts
abbrev pub even_meaning : EvenPlan → PlanMeaning
even_meaning p = even_plan p.numbers p.grants.count p.grants.width p.grants.address p.grants.simple
