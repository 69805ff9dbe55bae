-- Two digits are text.
use Rattle.std.proofs.Common.{arith, ◌<◌}
use Rattle.hexadecimal.proofs.DigitsOfOctets.{digits_are_text}
use Rattle.hexadecimal.proofs.hex.write_octet.Goals as goal

pub unwrap-requires : goal.unwrap-requires
unwrap-requires g c =
    let small : c.args.octet < 256 = omega (arith, c.ranges.octet) in
    let text = digits_are_text c.args.octet small in
    grind (arith, text, c.digits.ensures, c.from_utf8.ensures.cases)
