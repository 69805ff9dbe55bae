-- The text of octets.
use Rattle.std.proofs.Common.{◌≡◌, ℕ, zero, suc, ◌+◌, ◌/◌, ◌%◌, ◌<◌, List, [], ◌∷◌, ◌++◌, length, get_or, take, sym, refl}
use Rattle.std.proofs.Common.{ap, ◌∙◌, arith}
use Rattle.std.specs.Str.{IsAscii, IsUtf8}
use Rattle.std.proofs.lemmas.Bool.Decides.{nat_tests}
use Rattle.std.proofs.lemmas.List.{take_more}
use Rattle.std.proofs.lemmas.Str.{IsUtf8-from_ascii}
use Rattle.hexadecimal.specs.Grammar.{digit_code, octet_digits, spelling}

spelling_append : (xs ys : List ℕ) → spelling (xs ++ ys) ≡ spelling xs ++ spelling ys
spelling_append [] ys = refl
spelling_append (x ∷ xs) ys = ap (λ l. octet_digits x ++ l) (spelling_append xs ys)

-- one octet more
pub spelling_more : (xs : List ℕ) (i : ℕ) → i < length xs →
    spelling (take i xs) ++ octet_digits (get_or xs i 0) ≡ spelling (take (i + 1) xs)
spelling_more xs i h = sym (ap spelling (take_more xs i 0 h) ∙ spelling_append (take i xs) (get_or xs i 0 ∷ []))

code_ascii : (d : ℕ) → d < 16 → digit_code d < 128
code_ascii d h = grind (arith, nat_tests)

digits_ascii : (octet : ℕ) → octet < 256 → IsAscii (octet_digits octet)
digits_ascii octet h zero = code_ascii (octet / 16) (omega arith)
digits_ascii octet h (suc zero) = code_ascii (octet % 16) (omega arith)
digits_ascii octet h (suc (suc i)) = omega arith

-- the digits of an octet are text
pub digits_are_text : (octet : ℕ) → octet < 256 → IsUtf8 (octet_digits octet)
digits_are_text octet h = IsUtf8-from_ascii (octet_digits octet) (digits_ascii octet h)
