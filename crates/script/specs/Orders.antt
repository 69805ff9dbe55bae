-- What kind of cargo a line gives, and which orders a network that carries a kind understands.
use Rattle.std.specs.Prelude.{Bool, true, false}
use Rattle.script.specs.declared.cargo_kind.CargoKind.{CargoKind}
use Rattle.script.specs.declared.cargo_kind.CargoKind.TheVariants as kind
use Rattle.script.specs.declared.given_cargo.GivenCargo.{GivenCargo}
use Rattle.script.specs.declared.given_cargo.GivenCargo.TheVariants as given
use Rattle.script.specs.declared.network_order.DeviceOrder.TheVariants as device_order
use Rattle.script.specs.declared.network_order.NetworkOrder.{NetworkOrder}
use Rattle.script.specs.declared.network_order.NetworkOrder.TheVariants as network_order

-- the kind of given cargo, also where its values are no cargo
abbrev pub kind_given : GivenCargo → CargoKind
kind_given (given.Reading r) = kind.Reading
kind_given (given.Panel p) = kind.Panel

-- whether two kinds are one
abbrev pub same_kind : CargoKind → CargoKind → Bool
same_kind kind.Reading kind.Reading = true
same_kind kind.Panel kind.Panel = true
same_kind a b = false

-- whether a network that carries a kind understands an order: an offer has to be of that kind
abbrev pub understood : NetworkOrder → CargoKind → Bool
understood (network_order.Device name (device_order.Offer cargo)) carried = same_kind (kind_given cargo) carried
understood order carried = true
