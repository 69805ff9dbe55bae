-- The superframe that is open stays open where a management frame is heard.
use Rattle.std.proofs.Common.{◌≡◌, ℕ, Bool, true, false, cond, List, is_ok, Some, None, Ok, Err, Option, Result}
use Rattle.frame.specs.declared.faults.Fault.{Fault}
use Rattle.frame.specs.Writing.{fitting}
use Rattle.plan.specs.Rules.{PlanMeaning}
use Rattle.coordinator.specs.declared.state.Inner.{Inner}
use Rattle.coordinator.specs.declared.open_superframe.OpenSuperframe.{OpenSuperframe}
use Rattle.coordinator.specs.Steps.{Managed, managing, noted, reply_state, manage_state}
use Rattle.hosts.specs.HeldSuperframes.{holds}

-- either of two states
pub either_keeps : (b : Bool) (s s' : Inner) (h : Option OpenSuperframe)
    → holds s h ≡ true → holds s' h ≡ true → holds (cond b s s') h ≡ true
either_keeps true s s' h p q = p
either_keeps false s s' h p q = q

pub noted_keeps : (s : Inner) (x : Managed) (h : Option OpenSuperframe)
    → holds s h ≡ true → holds (noted s x) h ≡ true
noted_keeps s x None p = p
noted_keeps s x (Some k) p = p

pub reply_keeps : (s : Inner) (x : Result Managed Fault) (b : List ℕ) (h : Option OpenSuperframe)
    → holds s h ≡ true → holds (reply_state s x b) h ≡ true
reply_keeps s (Ok x) b h p = either_keeps (is_ok (fitting x.reply b)) (noted s x) s h (noted_keeps s x h p) p
reply_keeps s (Err f) b h p = p

pub manage_keeps : (m : PlanMeaning) (s : Inner) (k : ℕ) (xs b : List ℕ) (h : Option OpenSuperframe)
    → holds s h ≡ true → holds (manage_state m s k xs b) h ≡ true
manage_keeps m s k xs b h p = reply_keeps s (managing m s k xs) b h p
