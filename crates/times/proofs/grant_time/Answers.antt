-- The law holds of every plan, whichever grant is asked for.
use Rattle.times.proofs.FramesEndInsideTheirGrant.{inside}
use Rattle.times.proofs.grant_time.Goals as goal

pub returns-clause-inside : goal.returns-clause-inside
returns-clause-inside g c = inside (g.P.SlotPlan.meaning c.args.plan.now) (g.met.P.SlotPlan.keeps c.args.plan.now)
