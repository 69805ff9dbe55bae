use Rattle.std.proofs.Common.{arith}
use Rattle.std.proofs.lemmas.Grind.{common_steps}
use Rattle.device.proofs.BitmapTest.{fits_tested}
use Rattle.device.proofs.beacon.Beacon.agrees.Goals as goal

pub returns-then-timeslots-configuration : goal.returns-then-timeslots-configuration
returns-then-timeslots-configuration c =
    let k = fits_tested c.fits.result _ _ c.fits.ensures in
    grind (arith, common_steps)
