-- What a step of one kind came to, as the answer of a step of a worker.
use Rattle.std.proofs.Common.{◌≡◌, ℕ, List, Option, None, Some, Ok, Err, ap, subst, sym}
use Rattle.std.specs.Prelude.{IfNone, IfSome, IsErrAnd}
use Rattle.std.specs.declared.result.Result.{Result}
use Rattle.mp_names.specs.declared.kinds.Kind.{Kind}
use Rattle.mp_names.specs.declared.kinds.Kind.TheVariants as kind
use Rattle.mp_names.specs.declared.names.Name.{Name}
use Rattle.mp_names.specs.Logs.{Log}
use Rattle.mp_names.specs.Outlines.{Outline}
use Rattle.mp_names.proofs.Grows.{grows_trans}
use Rattle.mp_machine.specs.Steps.{logged}
use Rattle.mp_machine.proofs.Keeps.{logged_grows}
use Rattle.mp_stamps.specs.declared.seen.Seen.{Seen}
use Rattle.mp_model.specs.Facts.{JobFacts, QueryFacts}
use Rattle.mp_board.specs.declared.causes.Cause.{Cause}
use Rattle.mp_msg.specs.declared.names.Names.{Names}
use Rattle.mp_output.specs.declared.refused.OutRefused.{OutRefused}
use Rattle.mp_output.specs.declared.refused.OutRefused.TheVariants.{WriteFault, NoMemory}
use Rattle.mp_worker_refinement.specs.Served.{IsAtHub}
use Rattle.mp_worker_refinement.specs.State.{CanMake, WorkerState}
use Rattle.mp_worker_refinement.specs.Steps.{StepsByMail}
use Rattle.mp_worker_steps.specs.Writing.{Writes}
use Rattle.mp_turns.specs.declared.turn.Stop.{Stop}
use Rattle.mp_turns.specs.declared.turn.Stop.TheVariants as stop
use Rattle.mp_turns.specs.declared.turn.Turn.{Turn}
use Rattle.mp_turns.specs.declared.turn.Turn.TheVariants as turn
use Rattle.mp_worker.specs.Exchanging.{Exchanges}
use Rattle.mp_turns.specs.Stops.{stop_of_write}
use Rattle.mp_worker.specs.Turns.{Answers}
use Rattle.mp_worker.specs.Writing.{WritesInTurn}

module _ (had_room was_full was_empty : ℕ → ℕ → Type 0) (o : Outline) (made : Kind) (old new : WorkerState) where
  -- the answer of a step that put names into the log, or none
  pub answers : (E : Type 0) (name : Option Names) (given : Turn) → IfSome name (λ told. given ≡ turn.Did told.first told.count) → IfNone name (given ≡ turn.NotNow)
      → StepsByMail had_room was_full was_empty o made old new {E = E} (Ok name) → Answers had_room was_full was_empty o made old new (Ok given)
  answers E (Some x) given is none steps = subst (λ (t : Turn). Answers had_room was_full was_empty o made old new (Ok t)) (sym is) steps
  answers E None given some is steps = subst (λ (t : Turn). Answers had_room was_full was_empty o made old new (Ok t)) (sym is) steps

  -- the answer of a write that failed
  pub answers_refused : (e : OutRefused) (r : Result Turn Stop) → IsErrAnd r (λ s. s ≡ stop_of_write e) → made ≡ kind.Write → new ≡ old → Answers had_room was_full was_empty o made old new r
  answers_refused e (Ok x) is write same = absurd is
  answers_refused WriteFault (Err s) is write same = subst (λ (t : Stop). Answers had_room was_full was_empty o made old new (Err t)) (sym is) (write, same)
  answers_refused NoMemory (Err s) is write same = subst (λ (t : Stop). Answers had_room was_full was_empty o made old new (Err t)) (sym is) same

  -- the answer of a step for which there was no memory
  pub answers_no_memory : (r : Result Turn Stop) → IsErrAnd r (λ s. s ≡ stop.Memory) → new ≡ old → Answers had_room was_full was_empty o made old new r
  answers_no_memory (Ok x) is same = absurd is
  answers_no_memory (Err s) is same = subst (λ (t : Stop). Answers had_room was_full was_empty o made old new (Err t)) (sym is) same

  -- a worker that makes a step, or doesn't, stays at its hub
  module _ {H : Type 0} (serves : H → ℕ → Type 0) (posted : H → ℕ → Log) (version : H → ℕ) (hub : H) (at : IsAtHub serves posted version old hub) where
    pub stays_at_hub : {E : Type 0} (r : Result (Option Names) E) → StepsByMail had_room was_full was_empty o made old new r → IsAtHub serves posted version new hub
    stays_at_hub (Ok (Some x)) steps =
        subst (λ (s : WorkerState). IsAtHub serves posted version s hub) (sym steps.makes.after)
        (record { served = at.served; has_posted = at.has_posted; grows = grows_trans old.posted old.log (logged made old.log steps.names) at.grows (logged_grows made old.log steps.names); later = at.later })
    stays_at_hub (Ok None) steps = subst (λ (s : WorkerState). IsAtHub serves posted version s hub) (sym steps.1) at
    stays_at_hub (Err e) same = subst (λ (s : WorkerState). IsAtHub serves posted version s hub) (sym same) at

  -- an exchange puts no name into the log
  no_name : made ≡ kind.Exchange → (x : Name) → CanMake o made old x → ⊥
  no_name is x can = (subst (λ (k : Kind). CanMake o k old x) is can).next

  module _ {H : Type 0} (after : H → ℕ → Log → H → Type 0) (kept : H → H → Type 0) (shows : H → Seen → Type 0) (goes_on : H → Type 0) (was_stopped : H → Cause → Type 0) (was_busy : H → Type 0) (before now : H) where
    -- the answer of an exchange
    pub answers_exchange : made ≡ kind.Exchange → (r : Result Turn Stop) → Exchanges after kept shows goes_on was_stopped was_busy old new before now r → Answers had_room was_full was_empty o made old new r
    answers_exchange is (Ok (turn.Did x n)) says = absurd says
    answers_exchange is (Ok (turn.Seen version)) says = (is, says.0)
    answers_exchange is (Ok turn.NotNow) says = ((λ x can. absurd (no_name is x can)), says.0)
    answers_exchange is (Ok turn.Busy) says = (is, says.0)
    answers_exchange is (Err stop.Write) says = absurd says
    answers_exchange is (Err stop.Memory) says = says.0
    answers_exchange is (Err (stop.Other cause)) says = (is, says.0)

    -- its log is what it was
    pub same_log_after : (r : Result Turn Stop) → Exchanges after kept shows goes_on was_stopped was_busy old new before now r → new.log ≡ old.log
    same_log_after (Ok (turn.Did x n)) says = absurd says
    same_log_after (Ok (turn.Seen version)) says = ap (λ (s : WorkerState). s.log) says.0.after
    same_log_after (Ok turn.NotNow) says = ap (λ (s : WorkerState). s.log) says.0
    same_log_after (Ok turn.Busy) says = ap (λ (s : WorkerState). s.log) says.0
    same_log_after (Err stop.Write) says = absurd says
    same_log_after (Err stop.Memory) says = ap (λ (s : WorkerState). s.log) says.0
    same_log_after (Err (stop.Other cause)) says = ap (λ (s : WorkerState). s.log) says.0

-- What a write leaves in a sink

module _ {Cell S : Type 0} (q : QueryFacts Cell) (job : JobFacts) (written : S → Option (List ℕ)) (faults : S → ℕ) (s : WorkerState) (old new : S) where
  pub writes_in_turn : (name : Option Names) (given : Turn) → IfSome name (λ told. given ≡ turn.Did told.first told.count) → IfNone name (given ≡ turn.NotNow) → Writes q job written faults s old new (Ok name) → WritesInTurn q job written faults s old new (Ok given)
  writes_in_turn (Some x) given is none writes = subst (λ (t : Turn). WritesInTurn q job written faults s old new (Ok t)) (sym is) writes
  writes_in_turn None given some is writes = subst (λ (t : Turn). WritesInTurn q job written faults s old new (Ok t)) (sym is) writes

  pub refused_in_turn : (e : OutRefused) (r : Result Turn Stop) → IsErrAnd r (λ s. s ≡ stop_of_write e) → Writes q job written faults s old new (Err e) → WritesInTurn q job written faults s old new r
  refused_in_turn e (Ok x) is writes = absurd is
  refused_in_turn WriteFault (Err k) is writes = subst (λ (t : Stop). WritesInTurn q job written faults s old new (Err t)) (sym is) writes
  refused_in_turn NoMemory (Err k) is writes = subst (λ (t : Stop). WritesInTurn q job written faults s old new (Err t)) (sym is) writes
