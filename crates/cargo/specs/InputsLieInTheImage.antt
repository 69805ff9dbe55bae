-- Inputs in octets: the image of a panel is the number of its inputs, and then the octets of the number that they
-- are, lowest first.
use Rattle.std.specs.Prelude.{◌≡◌, ℕ, zero, suc, ◌+◌, ◌*◌, ◌/◌, ◌%◌, ◌^◌, ◌<◌, ◌≤◌, Bool, false, List, ◌∷◌, length, get_or, take, drop, slice_index_or, refl}
use Rattle.std.proofs.Common.{ap, ◌∙◌, one-add, arith}
use Rattle.std.proofs.Math.Nat.{pow-succ', pow-le-pow_right}
use Rattle.std.proofs.lemmas.Nat.{pow-add}
use Rattle.std.proofs.lemmas.List.{get_or-take, get_or-drop, length-take, drop-drop}
use Rattle.frame.specs.Octets.{octet, little}
use Rattle.cargo.specs.Inputs.{bit, number, inputs_in, octets_for, packed, panel_image, LaidOut}
use Rattle.cargo.specs.InputsAreBitsOfANumber.{length_inputs_in, number_inputs_in, number_below, number_bit, number_split}

-- eight inputs at most fill one octet
eight_below : (inputs : List Bool) → number (take 8 inputs) < 256
eight_below inputs =
    let some = length-take 8 inputs in
    let below = number_below (take 8 inputs) in
    let few : length (take 8 inputs) ≤ 8 = omega arith in
    let most : 2 ^ length (take 8 inputs) ≤ 2 ^ 8 = pow-le-pow_right (omega arith) few in
    omega arith

pub length-packed : (n : ℕ) (inputs : List Bool) → length (packed n inputs) ≡ n
length-packed zero inputs = refl
length-packed (suc n) inputs = ap suc (length-packed n (drop 8 inputs))

pub packed_little : (n : ℕ) (inputs : List Bool) → packed n inputs ≡ little n (number inputs)
packed_little zero inputs = refl
packed_little (suc n) inputs =
    let small = eight_below inputs in
    let split : number inputs ≡ number (take 8 inputs) + 256 * number (drop 8 inputs) = number_split 8 inputs in
    let low : number inputs % 256 ≡ number (take 8 inputs) = omega arith in
    let high : number inputs / 256 ≡ number (drop 8 inputs) = omega arith in
    rw (low, high) (ap (λ (l : List ℕ). number (take 8 inputs) ∷ l) (packed_little n (drop 8 inputs)))

-- an image by the number that the inputs are
pub image_little : (count n : ℕ) → n < 2 ^ count → panel_image (inputs_in count n) ≡ count ∷ little (octets_for count) n
image_little count n h =
    let l = length_inputs_in count n in
    rw l (ap (λ (l : List ℕ). count ∷ l)
    (packed_little (octets_for count) (inputs_in count n)
    ∙ ap (little (octets_for count)) (number_inputs_in count n h)))

octet_packed : (n : ℕ) (inputs : List Bool) (j : ℕ) → j < n
    → octet (packed n inputs) j ≡ number (take 8 (drop (8 * j) inputs))
octet_packed zero inputs j h = absurd (omega arith)
octet_packed (suc n) inputs zero h = refl
octet_packed (suc n) inputs (suc j) h =
    octet_packed n (drop 8 inputs) j (omega arith)
    ∙ ap (λ (l : List Bool). number (take 8 l))
    (drop-drop (8 * j) 8 inputs ∙ ap (λ (m : ℕ). drop m inputs) (omega arith))

pub laid_out : (inputs : List Bool) → LaidOut inputs (panel_image inputs)
laid_out inputs = record {
  count = refl;
  size = rw (length-packed (octets_for (length inputs)) inputs) (omega arith);
  places = λ k h.
      rw (one-add (k / 8), octet_packed (octets_for (length inputs)) inputs (k / 8) h)
      (number_bit (take 8 (drop (8 * (k / 8)) inputs)) (k % 8) ∙ ap bit (here k));
  octets = λ j h.
      rw (one-add j, octet_packed (octets_for (length inputs)) inputs j h) (eight_below (drop (8 * j) inputs));
}
  where
    here : (k : ℕ) → slice_index_or (take 8 (drop (8 * (k / 8)) inputs)) (k % 8) false ≡ slice_index_or inputs k false
    here k =
        get_or-take 8 (drop (8 * (k / 8)) inputs) (k % 8) false (omega arith)
        ∙ get_or-drop (8 * (k / 8)) inputs (k % 8) false
        ∙ ap (λ (i : ℕ). get_or inputs i false) (omega arith)

-- the first octets of a number
pub take-little : (w k n : ℕ) → w ≤ k → take w (little k n) ≡ little w n
take-little zero k n h = refl
take-little (suc w) zero n h = absurd (omega arith)
take-little (suc w) (suc k) n h = ap (λ (l : List ℕ). n % 256 ∷ l) (take-little w k (n / 256) (omega arith))

pub length-little : (w n : ℕ) → length (little w n) ≡ w
length-little zero n = refl
length-little (suc w) n = ap suc (length-little w (n / 256))

pow_octets : (w : ℕ) → 256 ^ w ≡ 2 ^ (8 * w)
pow_octets zero = refl
pow_octets (suc w) =
    let more : 8 * suc w ≡ 8 + 8 * w = omega arith in
    rw (more, pow-add 2 8 (8 * w), pow-succ' 256 w, pow_octets w)

-- that many bits fit the octets that they need
pub fits_octets : (count n : ℕ) → n < 2 ^ count → n < 256 ^ octets_for count
fits_octets count n h =
    let enough : count ≤ 8 * octets_for count = omega arith in
    let room : 2 ^ count ≤ 2 ^ (8 * octets_for count) = pow-le-pow_right (omega arith) enough in
    rw (pow_octets (octets_for count)) (omega arith)

-- an image has at most nine octets
pub image_length : (inputs : List Bool) → length (panel_image inputs) ≡ 1 + octets_for (length inputs)
image_length inputs = (laid_out inputs).size
