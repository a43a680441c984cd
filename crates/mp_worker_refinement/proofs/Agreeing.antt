-- Two workers with one log, which see the same of the outline's locations, have the same conditions.
use Rattle.std.proofs.Common.{◌≡◌, ◌<◌, ℕ, subst, sym}
use Rattle.mp_names.specs.declared.kinds.Kind.{Kind}
use Rattle.mp_names.specs.declared.kinds.Kind.TheVariants.{Ingest, SendControl, Route, Receive, Extract, Settle, Apply, SendRow, Write, Exchange}
use Rattle.mp_names.specs.declared.locations.Frontier.{Frontier}
use Rattle.mp_names.specs.declared.locations.Loc.{Loc}
use Rattle.mp_names.specs.declared.locations.Loc.TheVariants.{CtlMail, Mail, State, Host, OutMail}
use Rattle.mp_names.specs.declared.names.Name.{Name}
use Rattle.mp_names.specs.declared.names.Name.TheVariants.{Packet, Group, Settled}
use Rattle.mp_names.specs.Outlines.{Outline, control_at, time_of}
use Rattle.mp_names.specs.Logs.{Log}
use Rattle.mp_names.specs.Frontiers.{HasPassed, HasReached}
use Rattle.mp_names.specs.Locations.{IsLocation}
use Rattle.mp_machine.specs.Steps.{IsDue, IsNext, IsReady, KindFits, MayApply, MayLeave, MaySettle}
use Rattle.mp_machine.specs.Worlds.{Worker}

abbrev pub SeesAs : Outline → Worker → Worker → Type 0
SeesAs o a b = (at : Loc) → IsLocation o.stages at → a.seen at ≡ b.seen at

module _ (o : Outline) (w : ℕ) where
  passed : (a b : Worker) → SeesAs o a b → (at : Loc) (t : ℕ) → IsLocation o.stages at → HasPassed (a.seen at) t → HasPassed (b.seen at) t
  passed a b same at t l h = subst (λ (f : Frontier). HasPassed f t) (same at l) h

  -- the worker that sees as the second does, with the log of the first
  abbrev seeing : Worker → Worker → Worker
  seeing a b = record b { log = a.log }

  due : (a b : Worker) → SeesAs o a b → (j : ℕ) (x : Name) → IsDue o w a j x → IsDue o w (seeing a b) j x
  due a b same j (Packet i c t) h = (h.0, passed a b same CtlMail t tt h.1)
  due a b same j _ h = h

  leave : (a b : Worker) → SeesAs o a b → (j : ℕ) → j < o.stages → (x : Name) → MayLeave o w a j x → MayLeave o w (seeing a b) j x
  leave a b same j l (Packet i c t) h = (subst (λ (f : Frontier). HasReached f t) (same (Host j) l) h.0, h.1)
  leave a b same j l _ h = h

  settle : (a b : Worker) → SeesAs o a b → (j : ℕ) (x : Name) → MaySettle o w a j x → MaySettle o w (seeing a b) j x
  settle a b same j (Settled i t) h = (passed a b same CtlMail t tt h.0, h.1)
  settle a b same j _ h = h

  apply : (a b : Worker) → SeesAs o a b → (j : ℕ) → j < o.stages → (x : Name) → MayApply o w a j x → MayApply o w (seeing a b) j x
  apply a b same j l (Group i t k) h = (passed a b same (Mail j) t l h.0, passed a b same (State j) t l h.1, h.2, h.3)
  apply a b same j l _ h = h

  agree : (a b : Worker) → SeesAs o a b → (kind : Kind) (x : Name) → KindFits o kind → IsNext o w a kind x → IsReady o w a kind x → IsNext o w (seeing a b) kind x × IsReady o w (seeing a b) kind x
  agree a b same Ingest x fits next ready = (next, tt)
  agree a b same SendControl x fits next ready = (next, (λ paced j i lj li less. passed a b same (Host j) (control_at o i).time lj (ready paced j i lj li less)))
  agree a b same (Route j) x fits next ready = (next, passed a b same CtlMail (time_of o x) tt ready)
  agree a b same (Receive v) x fits next ready = (tt, tt)
  agree a b same (Extract j) x fits next ready =
      let back = λ (at : Loc) (l : IsLocation o.stages at). sym (same at l) in
      ((due a b same j x next.0, (λ y h l. next.1 y (due (seeing a b) a back j y h) l)), leave a b same j fits x ready)
  agree a b same (Settle j) x fits next ready = (next, settle a b same j x ready)
  agree a b same (Apply j) x fits next ready = (next, apply a b same j fits x ready)
  agree a b same SendRow x fits next ready = (next, tt)
  agree a b same Write x fits next ready = (next, passed a b same OutMail (time_of o x) tt ready)
  agree a b same Exchange x fits next ready = absurd next

  pub conditions_agree : (a b : Worker) → a.log ≡ b.log → SeesAs o a b → (kind : Kind) (x : Name) → KindFits o kind → IsNext o w a kind x × IsReady o w a kind x → IsNext o w b kind x × IsReady o w b kind x
  conditions_agree a b log same kind x fits can =
      subst (λ (l : Log). IsNext o w (record b { log = l }) kind x × IsReady o w (record b { log = l }) kind x) log (agree a b same kind x fits can.0 can.1)
