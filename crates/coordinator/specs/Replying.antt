-- How a management frame is replied to: what the functions say that the call is made of.
use Rattle.std.specs.Prelude.{◌≡◌, ℕ, List, Some, None, Ok, Err, Option, Result}
use Rattle.frame.specs.declared.faults.Fault.{Fault}
use Rattle.frame.specs.declared.faults.Refusal.TheVariants as refusal
use Rattle.frame.specs.Refusals.{fault}
use Rattle.coordinator.specs.declared.state.Inner.{Inner}
use Rattle.coordinator.specs.declared.record.Record.{Record}
use Rattle.coordinator.specs.Steps.{Managed, record_at, with_record, replying, reply_state, reply_memory}

-- the record of grant i became what a change makes of it, where each change of a record is the one that `r` gives
abbrev pub Notes : (Record → Record → Type 0) → List Record → ℕ → List Record → Type 0
Notes Changes before i after =
    (r : Record → Record) → ((x y : Record) → Changes x y → y ≡ r x)
    → after ≡ with_record before i (r (record_at before i))

-- the number of the grant that a device has
abbrev pub known : Option ℕ → Result ℕ Fault
known (Some i) = Ok i
known None = Err (fault refusal.Stranger 0)

-- what a management frame leads to was carried out: `r` was answered, state and buffer became `s'` and `after`
pub record Replied
    (s : Inner) (x : Result Managed Fault) (before : List ℕ) (r : Result ℕ Fault) (s' : Inner) (after : List ℕ) : Type 0 where
  pub answer : r ≡ replying x before
  pub state : s' ≡ reply_state s x before
  pub memory : after ≡ reply_memory x before
