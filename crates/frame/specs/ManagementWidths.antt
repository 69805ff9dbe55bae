-- The width of a management timeslot.
use Rattle.std.specs.Prelude.{ℕ}
use Rattle.frame.specs.declared.management_width.ManagementWidth.{ManagementWidth}

-- how many base timeslots it is
abbrev pub width_of : ManagementWidth → ℕ
width_of w = w.timeslots
