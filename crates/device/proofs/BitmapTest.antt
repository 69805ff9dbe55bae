-- The test of a beacon's bitmap decides whether the bitmap fits.
use Rattle.std.proofs.Common.{◌≡◌, ℕ, zero, suc, ◌+◌, ◌-◌, ◌*◌, ◌<◌, ◌≤◌, Bool, true, Decides, eqb, List, length}
use Rattle.std.proofs.Common.{refl, inl, inr, arith}
use Rattle.std.proofs.lemmas.Bool.{and_parts, and_from, eqb-true, eq-eqb, cases_eq, cases_lt}
use Rattle.plan.specs.declared.numbers.Numbers.{Numbers}
use Rattle.plan.specs.Rules.{bitmap_octets}
use Rattle.repeats.specs.Bitmaps.{bit, Fits}
use Rattle.repeats.proofs.MarkingSetsTheGrantsBits.{bit_past}
use Rattle.device.specs.Beacons.{clear, bitmap_fits}
use Rattle.device.proofs.TestsAgree.{decides_alike}

-- bits that are tested clear are zero
cleared : (xs : List ℕ) (k count j : ℕ) → clear xs k count ≡ true → k ≤ j → j < k + count → bit xs j ≡ 0
cleared xs k zero j e low high = absurd (omega arith)
cleared xs k (suc count) j e low high =
    let parts = and_parts (eqb (bit xs k) 0) (clear xs (suc k) count) e in
    elim (cases_eq j k) [
      | inl q ↦ rw q (eqb-true _ _ parts.0)
      | inr n ↦ cleared xs (suc k) count j parts.1 (omega arith) (omega arith)
    ]

-- and bits that are zero are tested so
clearing : (xs : List ℕ) (k count : ℕ) → ((j : ℕ) → k ≤ j → bit xs j ≡ 0) → clear xs k count ≡ true
clearing xs k zero h = refl
clearing xs k (suc count) h =
    and_from _ _ (eq-eqb (bit xs k) 0 (h k (omega arith))) (clearing xs (suc k) count (λ j low. h j (omega arith)))

fits_tells : (n : Numbers) (xs : List ℕ)
    → (bitmap_fits n xs ≡ true → Fits n xs) × (Fits n xs → bitmap_fits n xs ≡ true)
unfolding bitmap_fits
fits_tells n xs = (
  λ e.
      let parts = and_parts (eqb (length xs) (bitmap_octets n)) _ e in
      let first = n.timeslots - n.retransmission in
      record {
        size = eqb-true _ _ parts.0;
        padding = λ j low. elim (cases_lt j (8 * length xs)) [
          | inl below ↦ cleared xs first (8 * length xs - first) j parts.1 (omega arith) (omega arith)
          | inr above ↦ bit_past xs j (omega arith)
        ];
      },
  λ fits.
      and_from _ _ (eq-eqb (length xs) (bitmap_octets n) fits.size)
      (clearing xs _ _ (λ j low. fits.padding j (omega arith))),
)

pub fits_tested : (b : Bool) (n : Numbers) (xs : List ℕ) → Decides b (Fits n xs) → b ≡ bitmap_fits n xs
fits_tested b n xs d = decides_alike b _ d (fits_tells n xs)
