-- The octets that are kept, with one more.
use Rattle.std.proofs.Common.{◌<◌, ◌≡◌, length, ◌∙◌, arith}
use Rattle.std.proofs.lemmas.Bool.Decides.{nat_tests}
use Rattle.hexadecimal.proofs.FirstOctetsKept.{kept_room, kept_full}
use Rattle.hexadecimal.proofs.line.HexLine.keep.Goals as goal

pub returns-then-not-is_full-clause-stores : goal.returns-then-not-is_full-clause-stores
returns-then-not-is_full-clause-stores c =
    let room : length c.args.self.now.octets.items < 126 =
    grind (arith, nat_tests, c.is_full.ensures.value, c.is_full.ensures.fits) in
    c.push.ensures.items ∙ kept_room 126 c.args.octet c.args.self.now.octets.items room

pub returns-else-not-is_full-clause-stores : goal.returns-else-not-is_full-clause-stores
returns-else-not-is_full-clause-stores c =
    let full : length c.args.self.now.octets.items ≡ 126 = grind (arith, nat_tests, c.is_full.ensures.value) in
    kept_full 126 c.args.octet c.args.self.now.octets.items full
