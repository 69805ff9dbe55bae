use Rattle.std.proofs.Common.{◌≡◌, ℕ, ◌-◌, ◌*◌, Bool, not, eqb, List, length, Decides, refl, sym, ◌∙◌, inl, inr, arith, rules}
use Rattle.std.specs.List.{range_with_len, list_all}
use Rattle.std.proofs.lemmas.Bool.{cases_lt}
use Rattle.std.proofs.lemmas.Iterator.{YieldsList-from_range}
use Rattle.std.proofs.lemmas.Iterator.Search.{all_from_yields_List}
use Rattle.std.proofs.lemmas.Nat.{mod_below}
use borrow.Author.Tests.{tests}
use Rattle.plan.specs.declared.numbers.Numbers.{Numbers}
use Rattle.plan.specs.Rules.{bitmap_octets}
use Rattle.repeats.specs.BitAndRepeatTimeslots.{bit_count}
use Rattle.repeats.specs.Bitmaps.{bit, Fits}
use Rattle.repeats.proofs.MarkingSetsTheGrantsBits.{bit_past}
use Rattle.repeats.proofs.AllAndFilterOverARange.{each_passes, all_pass}
use Rattle.repeats.proofs.group_acknowledgment.GroupAcknowledgment.fits.Goals as goal

-- whether each bit from the first padding bit to the last octet's end is zero tells whether octets of the right
-- length fit
tells : (n : Numbers) (xs : List ℕ) (r : Bool) → length xs ≡ bitmap_octets n
    → r ≡ list_all (λ k. not (eqb (bit xs k) 1)) (range_with_len (bit_count n) (length xs * 8 - (bit_count n)))
    → Decides r (Fits n xs)
tells n xs r size e = (
  λ h. record {
    size = size;
    padding = λ k low. elim (cases_lt k (length xs * 8)) [
      | inl below ↦
          let z = each_passes (λ j. not (eqb (bit xs j) 1)) _ _ k (sym e ∙ h) low (omega arith) in
          grind (arith, tests, mod_below)
      | inr above ↦ bit_past xs k (omega arith)
    ];
  },
  λ fits. e ∙ all_pass (λ j. not (eqb (bit xs j) 1)) _ _ (λ j low. let z = fits.padding j low in rw z refl),
)

pub returns-then-self-bitmap_octets : goal.returns-then-self-bitmap_octets
returns-then-self-bitmap_octets c =
    let n = c.args.self.numbers in
    let xs = c.args.self.octets.now in
    tells n xs c.all.result (search rules)
    (all_from_yields_List (λ k. not (eqb (bit xs k) 1)) _ _ c.all.result c.all.ensures.ran
    (YieldsList-from_range (bit_count n) (length xs * 8) _ (search rules) refl) (λ x b q k. search (rules, tests)))
