-- What is held stays the open superframe.
use Rattle.std.proofs.Common.{◌≡◌, true, sym, subst}
use Rattle.coordinator.specs.declared.state.Inner.{Inner}
use Rattle.hosts.specs.HeldSuperframes.{holds}
use Rattle.hosts.proofs.StaysOpen.{manage_keeps}
use Rattle.hosts.proofs.coordinator_host.CoordinatorHost.hear_management.Goals as goal

pub invariant_of-self-2 : goal.invariant_of-self-2
invariant_of-self-2 g c =
    let host = c.args.self.now in
    let keeps = manage_keeps _ host.coordinator.inner _ c.args.octets.now c.args.buffer.now host.held host.own in
    record { own = subst (λ (s : Inner). holds s host.held ≡ true) (sym c.hear_management.ensures.state) keeps }
