-- Cargo goes by a buffer of its own into a data frame.
use Rattle.std.proofs.Common.{◌≡◌, ℕ, ◌≤◌, Bool, true, false, cond, ltb, List, ◌++◌, length, take, drop, Ok, Err}
use Rattle.std.proofs.Common.{Result, sym, ap, ◌∙◌, arith}
use Rattle.std.proofs.lemmas.List.{take_all, take-append-le}
use Rattle.std.proofs.lemmas.Bool.{cond-false, le-ltb}
use Rattle.frame.specs.declared.faults.Fault.{Fault}
use Rattle.frame.specs.Messages.{data_frame, octets_of}
use Rattle.frame.specs.Writing.{fitting, left_by, writing, Written}

-- what a test answers with Ok
only_ok : (b : Bool) (f : Fault) (n k : ℕ) → Ok k ≡ cond b (Err f) (Ok n) → k ≡ n
only_ok true f n k e = let z : ◌≡◌ {A = ℕ} 0 1 = cc in absurd (omega arith)
only_ok false f n k e = cc

-- octets that were written are the buffer's start
pub start_written : (xs room after : List ℕ) (r : Result ℕ Fault) (k : ℕ)
    → r ≡ fitting xs room → after ≡ left_by r xs room → r ≡ Ok k → take k after ≡ xs
start_written xs room after r k answer memory ok =
    let n = only_ok (ltb (length room) (length xs)) _ (length xs) k (sym ok ∙ answer) in
    let left : after ≡ xs ++ drop (length xs) room = memory ∙ ap (λ (o : Result ℕ Fault). left_by o xs room) ok in
    let least : length xs ≤ length xs = omega arith in
    rw (n, left) (take-append-le (length xs) xs (drop (length xs) room) least ∙ take_all (length xs) xs least)

-- a short payload is written whole or refused with Space
short_fits : (xs buffer : List ℕ) → length xs ≤ 124
    → writing (data_frame xs) buffer ≡ fitting (octets_of (data_frame xs)) buffer
short_fits xs buffer few = cond-false _ _ _ (le-ltb 125 (length (octets_of (data_frame xs))) (omega arith))

module _ (xs ys buffer after : List ℕ) (r : Result ℕ Fault)
    (few : length xs ≤ 124) (same : ys ≡ xs) (written : Written (data_frame ys) buffer r after) where
  pub answered : r ≡ fitting (octets_of (data_frame xs)) buffer
  answered = written.answer ∙ ap (λ (zs : List ℕ). writing (data_frame zs) buffer) same ∙ short_fits xs buffer few

  pub remembered : after ≡ left_by r (octets_of (data_frame xs)) buffer
  remembered = written.memory ∙ ap (λ (zs : List ℕ). left_by r (octets_of (data_frame zs)) buffer) same
