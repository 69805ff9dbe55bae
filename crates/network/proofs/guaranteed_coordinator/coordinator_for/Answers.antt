use Rattle.network.proofs.guaranteed_coordinator.coordinator_for.Goals as goal
use Rattle.network.proofs.TheExampleIsARun.{example}
use Rattle.network.proofs.EveryRunIsGuaranteed.{guarantee}

pub returns-clause-guarantee : goal.returns-clause-guarantee
returns-clause-guarantee g c = guarantee g.C.Cargo.image g.met.C.Cargo.short g.met.C.Cargo.apart
    (g.P.SlotPlan.meaning c.args.plan) (g.met.P.SlotPlan.keeps c.args.plan)

pub returns-clause-example : goal.returns-clause-example
returns-clause-example g c = example
