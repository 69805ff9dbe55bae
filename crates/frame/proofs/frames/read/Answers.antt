-- The laws follow from the answer.
use Rattle.std.proofs.Common.{◌≡◌, Result, sym, ◌∙◌, subst, arith, rules}
use Rattle.frame.specs.declared.faults.Fault.{Fault}
use Rattle.frame.specs.Formats.{Told, reading}
use Rattle.frame.specs.FreeBits.{WrittenBack}
use Rattle.frame.specs.Views.{seen}
use Rattle.frame.proofs.ReadWritesBack.{written_back}
use Rattle.frame.proofs.LongOctets.{told_by_start}
use Rattle.frame.proofs.frames.read.Goals as goal

pub returns : goal.returns
returns c =
    let xs = c.args.octets.now in
    let e : seen c.read_subtype.result ≡ reading xs = search rules in
    record {
      answer = e;
      written_back =
          subst (λ (r : Result Told Fault). WrittenBack xs r) (sym e)
          (written_back xs (λ i. omega (arith, c.type_inv.octets i)));
      told_by_start = e ∙ told_by_start xs;
    }
