-- Octets in parts.
use Rattle.std.proofs.Common.{ℕ, ◌+◌, ◌<◌, ◌≤◌, List, Bor, length, take, get_or, arith}
use Rattle.std.proofs.lemmas.List.Folds.{length-flat_map-take}
use Rattle.frame.specs.Writing.{joined}

-- a part and those before it are no longer than all of them
pub part_within : (parts : List (Bor (List ℕ))) (i : ℕ) (d : Bor (List ℕ)) → i < length parts →
    length (get_or parts i d).now + length (joined (take i parts)) ≤ length (joined parts)
part_within parts i d h = omega (arith, length-flat_map-take (λ (p : Bor (List ℕ)). p.now) parts i d h)
