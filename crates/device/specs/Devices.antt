-- What a device shows of itself.
use Rattle.std.specs.Prelude.{ℕ, Bool, is_some, Option}
use Rattle.frame.specs.declared.command.Configuration.{Configuration}
use Rattle.device.specs.declared.device.Device.{Device}
use Rattle.device.specs.declared.phase.Phase.{Phase}

-- its full address
abbrev pub address_in : {C : Type 0} → Device C → ℕ
address_in v = v.address

-- how far it has come
abbrev pub phase_in : {C : Type 0} → Device C → Phase
phase_in v = v.phase

-- its configuration, if it has one
abbrev pub configuration_in : {C : Type 0} → Device C → Option Configuration
configuration_in v = v.configuration

-- whether cargo waits
abbrev pub is_waiting : {C : Type 0} → Device C → Bool
is_waiting v = is_some v.waiting

-- whether cargo was sent whose fate is not told
abbrev pub has_sent : {C : Type 0} → Device C → Bool
has_sent v = is_some v.sent
