use Rattle.std.proofs.Common.{◌≡◌, Ok, rules}
use Rattle.device.specs.Beacons.{beacon_taken}
use Rattle.device.specs.Steps.{beacon_answer}
use Rattle.device.proofs.FateGrounds.{grounded}
use Rattle.device.proofs.device.Device.beacon.Goals as goal

pub returns-clause-grounds : goal.returns-clause-grounds
returns-clause-grounds g c =
    let v = c.args.self.now in
    let xs = c.args.octets.now in
    let a : Ok c.told_by-fate.result ≡ beacon_answer v xs = search rules in
    grounded v (beacon_taken v.configuration xs) _ a
