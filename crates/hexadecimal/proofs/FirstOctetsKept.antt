-- The octets that are kept of a line.
use Rattle.std.proofs.Common.{◌≡◌, ℕ, zero, suc, ◌<◌, List, [], ◌∷◌, ◌++◌, length, take, sym, refl, ap, ◌∙◌, arith}
use Rattle.std.proofs.Common.{length-append, take_all}
use lib.Seq.{take-append-le}

-- what is past the first n octets does not matter to the first n of a longer list
pub take_again : (n : ℕ) (xs ys : List ℕ) → take n (take n xs ++ ys) ≡ take n (xs ++ ys)
take_again zero xs ys = refl
take_again (suc n) [] ys = refl
take_again (suc n) (x ∷ xs) ys = ap (λ l. x ∷ l) (take_again n xs ys)

-- one octet more, where there is room
pub kept_room : (n x : ℕ) (xs : List ℕ) → length xs < n → xs ++ x ∷ [] ≡ take n (xs ++ x ∷ [])
kept_room n x xs room = sym (take_all n (xs ++ x ∷ []) (simp length-append (omega arith)))

-- and none, where there is not
pub kept_full : (n x : ℕ) (xs : List ℕ) → length xs ≡ n → xs ≡ take n (xs ++ x ∷ [])
kept_full n x xs full = sym (take-append-le n xs (x ∷ []) (omega arith) ∙ take_all n xs (omega arith))
