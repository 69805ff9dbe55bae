-- The management octet is the eleventh of the parameters.
use Rattle.std.proofs.Common.{◌≡◌, ap, ◌∙◌, arith}
use Rattle.std.specs.Option.{unwrap_or}
use Rattle.frame.specs.Octets.{octet}
use Rattle.capture.proofs.dissected.CommandedDisplay.fmt.Goals as goal

pub returns-in-ConfigurationRequest-clause-writes : goal.returns-in-ConfigurationRequest-clause-writes
returns-in-ConfigurationRequest-clause-writes g c =
    let management : c.unwrap_or-management.result ≡ octet c.args.self.now.1.octets.now 10 =
    c.unwrap_or-management.ensures ∙ ap (λ o. unwrap_or o 0) c.copied.ensures ∙
    c.get.ensures.lookup.4 (omega arith) 0 in
    rw c.in-ConfigurationRequest.is (simp management at c.write-in-ConfigurationRequest.ensures.writes)
