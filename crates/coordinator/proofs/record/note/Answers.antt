use Rattle.std.proofs.Common.{rules, refl}
use Rattle.coordinator.proofs.record.note.Goals as goal

pub returns-then-place-records : goal.returns-then-place-records
returns-then-place-records g c = λ r by.
    let e = by _ _ (record { shown = _; shows = refl; left = _; met = c.change.ensures; leaves = refl }) in search rules
