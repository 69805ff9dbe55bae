-- What a host has of its coordinator, and what its calls tell beside the coordinator's own answers.
use Rattle.std.specs.Prelude.{Some, Ok, Err, Option, Result}
use Rattle.frame.specs.declared.faults.Fault.{Fault}
use Rattle.coordinator.specs.declared.state.Inner.{Inner}
use Rattle.coordinator.specs.Coordinators.{plan_in, state_in}
use Rattle.coordinator.specs.OpenSuperframes.{number_in}
use Rattle.coordinator.specs.declared.open_superframe.Opened.{Opened}
use Rattle.coordinator.specs.declared.open_superframe.OpenSuperframe.{OpenSuperframe}
use Rattle.hosts.specs.declared.coordinator_host.Begun.{Begun}
use Rattle.hosts.specs.declared.coordinator_host.CoordinatorHost.{CoordinatorHost}

-- the state of the coordinator
abbrev pub state_held : {P : Type 0} → CoordinatorHost P → Inner
state_held h = state_in h.coordinator

-- its plan
abbrev pub plan_held : {P : Type 0} → CoordinatorHost P → P
plan_held h = plan_in h.coordinator

-- the superframe that is open, if one is
abbrev pub open_held : {P : Type 0} → CoordinatorHost P → Option OpenSuperframe
open_held h = h.held

-- what is told of a superframe that was opened
abbrev pub begun_as : Result Opened Fault → Result Begun Fault
begun_as (Ok o) = Ok (record { number = number_in o.superframe; length = o.length })
begun_as (Err f) = Err f

-- the superframe that is open after another was to be opened
abbrev pub open_after : Result Opened Fault → Option OpenSuperframe → Option OpenSuperframe
open_after (Ok o) h = Some o.superframe
open_after (Err f) h = h
