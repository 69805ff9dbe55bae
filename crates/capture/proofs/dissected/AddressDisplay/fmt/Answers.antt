use Rattle.std.proofs.Common.{ℕ, List, ◌∙◌, subst}
use Rattle.std.specs.Fmt.{WritesOnOk}
use Rattle.hexadecimal.specs.Grammar.{text_of}
use Rattle.capture.proofs.AddressOctets.{highest_first}
use Rattle.capture.proofs.dissected.AddressDisplay.fmt.Goals as goal

pub returns-clause-writes : goal.returns-clause-writes
returns-clause-writes g c =
    subst (λ (l : List ℕ). WritesOnOk g.W.Write.write_str_gives c.args.f.now c.write.result (text_of l) c.write.new.self)
    (c.to_be_bytes.ensures ∙ highest_first c.args.self.now.0) c.write.ensures.writes
