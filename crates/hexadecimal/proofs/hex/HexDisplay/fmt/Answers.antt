-- The octets, written one after another.
use Rattle.std.proofs.Common.{◌+◌, true, ◌++◌, get_or, take, refl}
use Rattle.std.proofs.Output.{has_written_append, has_written_of_eq}
use Rattle.hexadecimal.specs.Grammar.{octet_digits, spelling}
use Rattle.hexadecimal.proofs.DigitsOfOctets.{spelling_more}
use Rattle.hexadecimal.proofs.hex.HexDisplay.fmt.Goals as goal

pub loop-octet-preserved : goal.loop-octet-preserved
loop-octet-preserved g c plain =
    let took = g.W.Write.write_str_gives in
    let octets = c.args.self.now.0.now in
    let i = c.loop-octet.octet-index in
    let from = c.args.f.now in
    let middle = c.loop-octet.f in
    let end = c.write_octet.new.f in
    let before = spelling (take i octets) in
    let digits = octet_digits (get_or octets i 0) in
    let one = c.loop-octet.invariant plain in
    let two = c.in_ok-write_octet.ensures one.plain (refl {a = true}) in
    let more = spelling_more octets i c.loop-octet-test.true in
    has_written_of_eq took from (before ++ digits) (spelling (take (i + 1) octets)) end more
    (has_written_append took from before middle digits end one two)
