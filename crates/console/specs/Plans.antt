-- What a plan of either kind means.
use Rattle.console.specs.declared.any_plan.AnyPlan.{AnyPlan}
use Rattle.console.specs.declared.any_plan.AnyPlan.TheVariants.{Listed, Even}
use Rattle.plan.specs.EvenPlans.{even_meaning}
use Rattle.plan.specs.ListedPlans.{listed_meaning}
use Rattle.plan.specs.Rules.{PlanMeaning}

abbrev pub plan_meaning : AnyPlan → PlanMeaning
plan_meaning (Listed p) = listed_meaning p
plan_meaning (Even p) = even_meaning p
