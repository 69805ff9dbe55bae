use Rattle.std.proofs.Common.{◌≡◌, rules}
use Rattle.frame.specs.Octets.{octet}
use Rattle.frame.proofs.command.read_command.Goals as goal

pub returns-in-ConfigurationRequest : goal.returns-in-ConfigurationRequest
returns-in-ConfigurationRequest c =
    let e : octet c.args.octets.now 1 ≡ 15 = search rules in rw e c.read_configuration_request.ensures
