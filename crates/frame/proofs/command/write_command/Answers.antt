-- A status is written as its fields say.
use Rattle.std.proofs.Common.{ℕ, [], ◌∷◌, ap, lit≤}
use Rattle.frame.specs.declared.command.Command.TheVariants as commands
use Rattle.frame.specs.CommandParts.{octets_with}
use Rattle.frame.specs.Messages.{configuration_status, command_frame}
use Rattle.frame.proofs.WrittenReadsBack.{written}
use Rattle.frame.proofs.command.write_command.Goals as goal

pub returns-in-ConfigurationStatus : goal.returns-in-ConfigurationStatus
returns-in-ConfigurationStatus c =
    let status = c.in-ConfigurationStatus in
    let put = c.put_command-in-ConfigurationStatus.ensures in
    let numbers = λ (d : ℕ). status.simple ∷ status.wish.width ∷ d ∷ status.first ∷ status.width ∷ [] in
    let same =
    ap (λ (d : ℕ). octets_with configuration_status status.address (numbers d)) c.into-in-ConfigurationStatus.ensures in
    let said = commands.ConfigurationStatus status.address status.simple status.wish status.first status.width in
    rw status.is (written (command_frame said) _ _ _ _ same put.fits (lit≤ tt) put.answer put.memory)
