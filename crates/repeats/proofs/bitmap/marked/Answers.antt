use Rattle.std.proofs.Common.{◌≡◌, ℕ, suc, ◌+◌, ◌-◌, ◌≤◌, List, length, sym, ap, ◌∙◌, subst, arith}
use Rattle.plan.specs.declared.grant.Grant.{Grant}
use Rattle.plan.specs.declared.numbers.Numbers.{Numbers}
use Rattle.repeats.specs.Bitmaps.{with_timeslot, with_timeslots, marked_with, Marks}
use Rattle.repeats.proofs.EachGrantsBitsAreAlike.{always_alike, stays_alike}
use Rattle.repeats.proofs.MarkingSetsTheGrantsBits.{length-with_timeslots, marks}
use Rattle.repeats.proofs.bitmap.marked.Goals as goal

-- one more timeslot is marked
one_more : (n : Numbers) (xs ys zs : List ℕ) (f t : ℕ) → f ≤ t → ys ≡ with_timeslots n xs f (t - f)
    → zs ≡ with_timeslot n ys t → zs ≡ with_timeslots n xs f (t + 1 - f)
one_more n xs ys zs f t low e h =
    let here : f + (t - f) ≡ t = omega arith in
    let next : t + 1 - f ≡ suc (t - f) = omega arith in
    h ∙ ap (with_timeslot n ys) (sym here) ∙ ap (λ (x : List ℕ). with_timeslot n x (f + (t - f))) e
    ∙ sym (ap (with_timeslots n xs f) next)

-- what the loop ends with is the marked bitmap
ended : (n : Numbers) (xs ys : List ℕ) (g : Grant) (t : ℕ) → t ≡ g.first + g.width
    → ys ≡ with_timeslots n xs g.first (t - g.first) → ys ≡ marked_with n xs g
ended n xs ys g t past e = e ∙ ap (with_timeslots n xs g.first) (omega arith)

-- marking keeps the length
was_long : (n : Numbers) (xs ys : List ℕ) (f b : ℕ) → ys ≡ with_timeslots n xs f b → length ys ≡ 32 → length xs ≡ 32
was_long n xs ys f b e h = sym (length-with_timeslots n xs f b) ∙ ap length (sym e) ∙ h

pub returns : goal.returns
returns c =
    let n = c.args.numbers in
    let xs = c.args.bitmap in
    let g = c.args.grant in
    let ys = c.loop-t.marked in
    let from : ys ≡ with_timeslots n xs g.first (c.loop-t.t - g.first) = cc in
    let e = ended n xs ys g c.loop-t.t (omega arith) from in
    let long = was_long n xs ys _ _ c.loop-t.invariant.1 c.loop-t.invariant.0 in
    let each = subst (Marks n xs g) (sym e) (marks n xs g long) in
    record { answer = e; marks = each; start = always_alike; alike = stays_alike n xs ys g each }
