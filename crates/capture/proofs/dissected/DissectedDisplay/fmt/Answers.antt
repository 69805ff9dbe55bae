-- The digits of an acknowledgment's octet.
use Rattle.capture.proofs.AcknowledgmentDigits.{type_digits}
use Rattle.capture.proofs.dissected.DissectedDisplay.fmt.Goals as goal

pub returns-in-Acknowledgment-clause-writes : goal.returns-in-Acknowledgment-clause-writes
returns-in-Acknowledgment-clause-writes g c =
    let shown = type_digits c.in-Acknowledgment.acknowledged in
    rw c.in-Acknowledgment.is
    (simp (c.laid_out.ensures, c.in_radix.ensures, c.from-code.ensures, shown) at c.write-in-Acknowledgment.ensures.writes)
