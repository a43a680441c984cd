-- The conditions of a step are told by the log and by what is seen of the locations of the job.
use Rattle.std.proofs.Common.{◌≡◌, ◌<◌, ℕ, subst, sym}
use Rattle.mp_names.specs.declared.kinds.Kind.{Kind}
use Rattle.mp_names.specs.declared.kinds.Kind.TheVariants.{Ingest, SendControl, Route, Receive, Extract, Settle, Apply, SendRow, Write, Exchange}
use Rattle.mp_names.specs.declared.locations.Frontier.{Frontier}
use Rattle.mp_names.specs.declared.locations.Loc.{Loc}
use Rattle.mp_names.specs.declared.locations.Loc.TheVariants.{CtlMail, Mail, State, Host, OutMail}
use Rattle.mp_names.specs.declared.names.Name.{Name}
use Rattle.mp_names.specs.declared.names.Name.TheVariants.{Packet, Group, Settled}
use Rattle.mp_names.specs.Outlines.{Outline, control_at, time_of}
use Rattle.mp_names.specs.Logs.{Log}
use Rattle.mp_names.specs.Frontiers.{HasPassed, HasReached}
use Rattle.mp_names.specs.Locations.{IsLocation}
use Rattle.mp_machine.specs.Steps.{IsDue, IsNext, IsReady, KindFits, MayApply, MayLeave, MaySettle}
use Rattle.mp_machine.specs.Worlds.{Worker}
use Rattle.mp_worker_invariant.specs.Laws.{ConditionsAgree}

-- two workers with one log, which see the same of the job's locations

module _ (o : Outline) (w : ℕ) (a b : Worker) (same : (at : Loc) → IsLocation o.stages at → a.seen at ≡ b.seen at) where
  abbrev other : Worker
  other = record b { log = a.log }

  passed_too : (at : Loc) (t : ℕ) → IsLocation o.stages at → HasPassed (a.seen at) t → HasPassed (b.seen at) t
  passed_too at t l h = subst (λ (f : Frontier). HasPassed f t) (same at l) h

  passed_both : (at : Loc) (t : ℕ) → IsLocation o.stages at → HasPassed (b.seen at) t → HasPassed (a.seen at) t
  passed_both at t l h = subst (λ (f : Frontier). HasPassed f t) (sym (same at l)) h

  due_too : (j : ℕ) (x : Name) → IsDue o w a j x → IsDue o w other j x
  due_too j (Packet i c t) h = (h.0, passed_too CtlMail t tt h.1)
  due_too j _ h = h

  due_both : (j : ℕ) (x : Name) → IsDue o w other j x → IsDue o w a j x
  due_both j (Packet i c t) h = (h.0, passed_both CtlMail t tt h.1)
  due_both j _ h = h

  leave_too : (j : ℕ) → j < o.stages → (x : Name) → MayLeave o w a j x → MayLeave o w other j x
  leave_too j l (Packet i c t) h = (subst (λ (f : Frontier). HasReached f t) (same (Host j) l) h.0, h.1)
  leave_too j l _ h = h

  settle_too : (j : ℕ) (x : Name) → MaySettle o w a j x → MaySettle o w other j x
  settle_too j (Settled i t) h = (passed_too CtlMail t tt h.0, h.1)
  settle_too j _ h = h

  apply_too : (j : ℕ) → j < o.stages → (x : Name) → MayApply o w a j x → MayApply o w other j x
  apply_too j l (Group i t k) h = (passed_too (Mail j) t l h.0, passed_too (State j) t l h.1, h.2, h.3)
  apply_too j l _ h = h

  agree : (kind : Kind) (x : Name) → KindFits o kind → IsNext o w a kind x → IsReady o w a kind x → IsNext o w other kind x × IsReady o w other kind x
  agree Ingest x fits next ready = (next, tt)
  agree SendControl x fits next ready = (next, (λ paced j i lj li less. passed_too (Host j) (control_at o i).time lj (ready paced j i lj li less)))
  agree (Route j) x fits next ready = (next, passed_too CtlMail (time_of o x) tt ready)
  agree (Receive v) x fits next ready = (tt, tt)
  agree (Extract j) x fits next ready = ((due_too j x next.0, (λ y h l. next.1 y (due_both j y h) l)), leave_too j fits x ready)
  agree (Settle j) x fits next ready = (next, settle_too j x ready)
  agree (Apply j) x fits next ready = (next, apply_too j fits x ready)
  agree SendRow x fits next ready = (next, tt)
  agree Write x fits next ready = (next, passed_too OutMail (time_of o x) tt ready)
  agree Exchange x fits next ready = absurd next

pub conditions_agree : ConditionsAgree
conditions_agree o w kind x a b fits log same can =
    subst (λ (l : Log). IsNext o w (record b { log = l }) kind x × IsReady o w (record b { log = l }) kind x) log (agree o w a b same kind x fits can.0 can.1)
