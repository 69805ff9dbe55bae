use Rattle.std.proofs.Common.{◌≡◌, ℕ, ◌+◌, ◌*◌, ◌%◌, ◌^◌, ◌<◌, ◌≤◌, Bool, List, [], ◌∷◌, length, reverse, refl, ap, ◌∙◌, mod-eq_of_lt, rules, arith}
use lib.Bits.{bit_or}
use Rattle.std.proofs.Math.Nat.{pow-le-pow_right}
use Rattle.std.specs.List.{fold}
use Rattle.std.proofs.lemmas.List.{reverse-append}
use Rattle.std.proofs.lemmas.List.Sums.{fold-append}
use Rattle.std.proofs.lemmas.Nat.{or_shifted}
use Rattle.cargo.specs.Inputs.{bit, number}
use Rattle.cargo.specs.InputsAreBitsOfANumber.{bit_small, number_below, inputs_in_number}
use Rattle.cargo.proofs.panel.number_of.Goals as goal

-- one input below those of a number
abbrev with_input : ℕ → Bool → ℕ
with_input n on = bit_or (n * 2 % 2 ^ 64) (bit on)

with_input_is : (n : ℕ) (on : Bool) → n < 2 ^ 63 → with_input n on ≡ bit on + 2 * n
with_input_is n on h =
    let small = bit_small on in
    let fits : n * 2 % 2 ^ 64 ≡ n * 2 = mod-eq_of_lt (omega arith) in
    rw fits (or_shifted n 1 (bit on) (omega arith) ∙ omega arith)

folded : (inputs : List Bool) → length inputs ≤ 64 → fold with_input 0 (reverse inputs) ≡ number inputs
folded [] h = refl
folded (on ∷ inputs) h =
    let below = number_below inputs in
    let few : length inputs ≤ 63 = omega arith in
    let room : 2 ^ length inputs ≤ 2 ^ 63 = pow-le-pow_right (omega arith) few in
    ap (fold with_input 0) (reverse-append (on ∷ []) inputs)
    ∙ fold-append with_input 0 (reverse inputs) (on ∷ [])
    ∙ ap (λ (n : ℕ). with_input n on) (folded inputs (omega arith))
    ∙ with_input_is (number inputs) on (omega arith)

pub returns : goal.returns
returns c =
    let xs = c.args.inputs.now in
    let e : c.fold.result ≡ fold with_input 0 (reverse xs) = search rules in
    let n : c.fold.result ≡ number xs = e ∙ folded xs c.requires in
    record { below = rw n (number_below xs); inputs = rw n (inputs_in_number xs) }
