-- Which grant holds a timeslot in a plan of grants that follow one another evenly.
use Rattle.std.proofs.Common.{◌≡◌, ℕ, ◌+◌, ◌-◌, ◌*◌, ◌/◌, ◌<◌, ◌≤◌, true, false, ltb, Some, None, sym, ap, ◌∙◌, inl, inr, mul-le-mul_right, arith}
use Rattle.std.specs.Bool.{then_some}
use Rattle.std.proofs.lemmas.Nat.{div-add-mod', mod_below}
use Rattle.std.proofs.lemmas.Bool.{cases_lt, lt-ltb, le-ltb}
use Rattle.plan.specs.declared.even_grants.EvenGrants.{EvenGrants}
use Rattle.plan.specs.declared.numbers.Numbers.{Numbers}
use Rattle.plan.specs.Rules.{count_of, grant_at}
use Rattle.plan.specs.Answers.{passing, holding, holder_of}
use Rattle.plan.specs.TestsDecideTheRules.{held_now, held_later, held_before}
use Rattle.plan.specs.LeastNumberThatPasses.{first_found, first_none}
use Rattle.plan.specs.GrantsByNumber.{passes_there}
use Rattle.plan.proofs.EvenGrantsNeverClash.{next_width, plan, nth, even_count, even_at}

module _ (ns : Numbers) (gs : EvenGrants) where
  tested_at : (t i : ℕ) → 1 ≤ i → i ≤ gs.count → passing (holding t) (grant_at (plan ns gs) i) ≡ holding t (nth ns gs i)
  tested_at t i low high = passes_there (holding t) _ _ (even_at ns gs i low high)

  -- where there is no grant, none holds a timeslot
  pub held_in_none : (t : ℕ) → gs.count ≡ 0 → holder_of (plan ns gs) t ≡ None
  unfolding holder_of
  held_in_none t h =
      let c = even_count ns gs in
      first_none (λ i. passing (holding t) (grant_at (plan ns gs) i))
      (count_of (plan ns gs)) 0 (λ i low high. absurd (omega arith)) (omega arith)

  -- no grant begins before the retransmission timeslots end
  pub held_by_none : (t : ℕ) → t ≤ ns.retransmission → holder_of (plan ns gs) t ≡ None
  unfolding holder_of
  held_by_none t h =
      let c = even_count ns gs in
      first_none (λ i. passing (holding t) (grant_at (plan ns gs) i)) (count_of (plan ns gs)) gs.count
      (λ i low high. tested_at t i low high ∙ held_later t (nth ns gs i) (omega arith)) (omega arith)

  module _ (t : ℕ) (some : 1 ≤ gs.width) (past : ns.retransmission < t) where
    -- how many whole widths stand before t
    abbrev q : ℕ
    q = (t - ns.retransmission - 1) / gs.width

    bounds : (q * gs.width ≤ t - ns.retransmission - 1) × (t - ns.retransmission - 1 < q * gs.width + gs.width)
    bounds =
        let e = div-add-mod' (t - ns.retransmission - 1) gs.width in
        let l = mod_below (t - ns.retransmission - 1) gs.width some in
        (omega arith, omega arith)

    ended : (i : ℕ) → 1 ≤ i → i ≤ q → holding t (nth ns gs i) ≡ false
    ended i low high =
        let b = bounds in
        let m = mul-le-mul_right {m = i} {n = q} gs.width high in
        let e = next_width i gs.width low in
        held_before t (nth ns gs i) (omega arith)

    held : holding t (nth ns gs (q + 1)) ≡ true
    held =
        let b = bounds in
        let z : q + 1 - 1 ≡ q = omega arith in
        let e = ap (λ (k : ℕ). k * gs.width) z in
        held_now t (nth ns gs (q + 1)) (omega arith, omega arith)

    pub held_by : q < gs.count → holder_of (plan ns gs) t ≡ Some (q + 1)
    unfolding holder_of
    held_by below =
        let c = even_count ns gs in
        first_found (λ i. passing (holding t) (grant_at (plan ns gs) i)) (count_of (plan ns gs)) q
        (λ i low high. tested_at t i low (omega arith) ∙ ended i low high) (omega arith)
        (tested_at t (q + 1) (omega arith) (omega arith) ∙ held)

    pub held_past : gs.count ≤ q → holder_of (plan ns gs) t ≡ None
    unfolding holder_of
    held_past far =
        let c = even_count ns gs in
        first_none (λ i. passing (holding t) (grant_at (plan ns gs) i)) (count_of (plan ns gs)) gs.count
        (λ i low high. tested_at t i low high ∙ ended i low (omega arith)) (omega arith)

    -- the holder, by the test whether there are so many grants
    pub held_where : (k : ℕ) → k ≡ q → then_some (ltb k gs.count) (k + 1) ≡ holder_of (plan ns gs) t
    held_where k e =
        elim (cases_lt k gs.count) [
          | inl below ↦ rw (lt-ltb k gs.count below) (ap (λ (n : ℕ). Some (n + 1)) e ∙ sym (held_by (omega arith)))
          | inr far ↦ rw (le-ltb k gs.count far) (sym (held_past (omega arith)))
        ]
