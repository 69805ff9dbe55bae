-- Of the open superframe, once a device had its news: what it sent last before is the acceptance whose fate it told
-- last.
use Rattle.std.proofs.Common.{◌≡◌, ℕ, suc, Bool, true, List, [], ◌∷◌, ◌++◌, map, length, Some, None, Option}
use Rattle.std.proofs.Common.{refl, ap, ◌∙◌, arith}
use Rattle.std.proofs.lemmas.Bool.{lt-ltb, le-ltb}
use Rattle.network.specs.Deeds.{Deed}
use Rattle.network.specs.History.{before, superframes, repeated}
use Rattle.network.proofs.DeviceBook.{Line, AllBefore, since, Agrees}
use Rattle.network.proofs.StateAgreesWithHistory.{flown}

module _ {C : Type 0} where
  -- all lines of a book were sent before
  all_before : (k : ℕ) (book : List (Line C)) → AllBefore k book → before k (map (λ y. y.sent) book) ≡ length book
  all_before k [] b = refl
  all_before k (y ∷ ys) b = rw (lt-ltb y.sent k b.0) (ap suc (all_before k ys b.1))

  -- and what is under way was not
  without_flight : (k : ℕ) (sent : Option C) (book : List (Line C)) → AllBefore k book
      → before k (since k sent ++ map (λ y. y.sent) book) ≡ length book
  without_flight k None book b = all_before k book b
  without_flight k (Some x) book b = rw (le-ltb k k (omega arith)) (all_before k book b)

  pub last_told : (again : ℕ → Bool) (e : ℕ) (opened aware : Bool) → opened ≡ true → aware ≡ true
      → (ds : List (Deed C)) (waiting sent : Option C)
      (simple : ℕ) (bit : Bool) (book : List (Line C))
      → Agrees again (Some simple) e ds waiting sent (flown opened aware (superframes ds)) bit book
      → repeated e again ds ≡ length book
  last_told again e opened aware is_open is_aware ds waiting sent simple bit book a =
      let now : flown opened aware (superframes ds) ≡ superframes ds = rw (is_open, is_aware) refl in
      ap (before (superframes ds)) (rw now at a.sends) ∙ without_flight (superframes ds) sent book a.before
