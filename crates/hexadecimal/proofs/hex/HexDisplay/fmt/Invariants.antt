use Rattle.std.proofs.Common.{take}
use Rattle.std.specs.Fmt.{IsPlainFormatter, HasWritten}
use Rattle.hexadecimal.specs.Grammar.{spelling}
use Rattle.hexadecimal.proofs.hex.HexDisplay.fmt.Given as goal

-- the octets so far were written, if the formatter was plain
abbrev pub invariant-loop-octet : goal.invariant-loop-octet
invariant-loop-octet g l =
    IsPlainFormatter l.initial.f →
    HasWritten g.W.Write.write_str_gives l.initial.f (spelling (take l.octet-index l.self.0.now)) l.f
