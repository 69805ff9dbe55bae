-- What a coordinator shows. Clauses speak by these, so that a coordinator and its state can gain fields.
use Rattle.coordinator.specs.declared.coordinator.Coordinator.{Coordinator}
use Rattle.coordinator.specs.declared.mode.Mode.{Mode}
use Rattle.coordinator.specs.declared.state.Inner.{Inner}

-- the plan that a coordinator has
abbrev pub plan_in : {P : Type 0} → Coordinator P → P
plan_in c = c.plan

-- its state beside the plan
abbrev pub state_in : {P : Type 0} → Coordinator P → Inner
state_in c = c.inner

-- the mode that was set last
abbrev pub mode_in : {P : Type 0} → Coordinator P → Mode
mode_in c = (state_in c).mode
