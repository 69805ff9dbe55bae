use Rattle.std.proofs.Common.{◌≡◌, ◌*◌, ◌%◌, ◌^◌, ◌<◌, set, arith}
use lib.Bits.{bit_xor}
use Rattle.std.proofs.lemmas.Nat.{one_shl, xor_lt, pow_below}
use Rattle.cargo.specs.Inputs.{inputs_in}
use Rattle.cargo.specs.InputsAreBitsOfANumber.{length_inputs_in, other_input}
use Rattle.cargo.proofs.panel.Panel.with_input.Goals as goal

pub invariant_of-result : goal.invariant_of-result
invariant_of-result c =
    let n = c.args.self.inputs in
    let count = c.args.self.count in
    let k = c.args.k in
    let p : (1 * 2 ^ k) % 2 ^ 64 ≡ 2 ^ k = one_shl k 64 (omega arith) in
    let below : bit_xor n (2 ^ k) < 2 ^ count =
    xor_lt count n (2 ^ k) c.args.self.unused (pow_below k count c.requires) in
    record {
      some = c.args.self.some;
      few = c.args.self.few;
      unused = rw p below;
      counted = length_inputs_in count _;
    }

pub returns : goal.returns
returns c =
    let n = c.args.self.inputs in
    let count = c.args.self.count in
    let k = c.args.k in
    let p : (1 * 2 ^ k) % 2 ^ 64 ≡ 2 ^ k = one_shl k 64 (omega arith) in
    let e : inputs_in count (bit_xor n (2 ^ k)) ≡ set (inputs_in count n) k c.args.on =
    other_input k count n c.is_on.result c.args.on c.requires c.is_on.ensures c.if-is_on-on.false in
    rw p e
