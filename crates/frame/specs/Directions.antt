-- The directions that a device can want for its timeslots.
use Rattle.std.specs.Prelude.{ℕ, cond, List, Some, None, Option, codes, ◌==◌}
use Rattle.frame.specs.declared.direction.Direction.{Direction}
use Rattle.frame.specs.declared.direction.Direction.TheVariants as directions

-- the octet of a direction
abbrev pub direction_code : Direction → ℕ
direction_code directions.Uplink = 0
direction_code directions.Bidirectional = 1

-- the direction that an octet stands for, if it is listed
abbrev pub direction_of : ℕ → Option Direction
direction_of n =
    cond (n == direction_code directions.Uplink) (Some directions.Uplink)
    (cond (n == direction_code directions.Bidirectional) (Some directions.Bidirectional) None)

-- a direction as text
abbrev pub direction_text : Direction → List ℕ
direction_text directions.Uplink = codes "uplink"
direction_text directions.Bidirectional = codes "bidirectional"
