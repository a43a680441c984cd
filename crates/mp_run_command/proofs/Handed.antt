-- What a run leaves in the sink of its answer, also where the answer waited in a buffer, and in the answer's file.
use Rattle.std.proofs.Common.{◌≡◌, ◌≤◌, ◌∙◌, ℕ, Err, List, [], Ok, Option, Result, arith, drop, inl, inr, refl, subst, sym, take, take-append-drop}
use Rattle.std.specs.Prelude.{IfErr, IfOk, OnErr, OnOk}
use Rattle.std.specs.Option.{ForSome}
use Rattle.mp_answer_laws.specs.Runs.{RunLeaves}
use Rattle.mp_board.specs.declared.causes.Cause.{Cause}
use Rattle.mp_board.specs.declared.causes.Cause.TheVariants as cause
use Rattle.mp_buffered.proofs.Front.{begun_part}
use Rattle.mp_command_files.specs.declared.refusal.Refusal.{Refusal}
use Rattle.mp_command_files.specs.Outcome.{StopsAnswer}
use Rattle.mp_command_files.specs.Refused.{EndsAs, outcome_of, refused_for}
use Rattle.mp_model.specs.Facts.{JobFacts, QueryFacts}
use Rattle.mp_outside.specs.declared.fault.Fault.{Fault}
use Rattle.mp_outside.specs.declared.fault.Fault.TheVariants as fault
use Rattle.mp_outside.specs.Fault.{HasCause, Rose}
use Rattle.mp_outside.specs.Files.{Files}
use Rattle.mp_outside.specs.Sink.{Beside, grown}
use Rattle.mp_outside.proofs.SinkLemmas.{rose_before, rose_later}
use Rattle.mp_report.proofs.Prefixes.{part_taken, prefix_then}
use Rattle.mp_run_command.specs.Answered.{Answers, AnswersFile}
use Rattle.mp_run_command.specs.Flushed.{once_flushed}
use Rattle.mp_run_command.specs.Stopped.{refused_after}

module _ {T : Type 0} where
  -- what is told of a run is told of what it came to
  pub told_once : (Is : T → Type 0) (ran : Result T Refusal) (flushed : Result Unit Fault) (end : Result T Refusal) → end ≡ once_flushed ran flushed → IfOk ran Is → IfOk end Is
  told_once Is (Ok run) (Ok done) end is told = subst (λ (e : Result T Refusal). IfOk e Is) (sym is) told
  told_once Is (Ok run) (Err f) end is told = subst (λ (e : Result T Refusal). IfOk e Is) (sym is) tt
  told_once Is (Err r) flushed end is told = subst (λ (e : Result T Refusal). IfOk e Is) (sym is) tt

  -- where it came to something, all was written and handed on
  pub whole_once : (Written Handed : Type 0) (ran : Result T Refusal) (flushed : Result Unit Fault) (end : Result T Refusal) → end ≡ once_flushed ran flushed → OnOk ran Written → OnOk flushed Handed → OnOk end (Written × Handed)
  whole_once Written Handed (Ok run) (Ok done) end is w h = subst (λ (e : Result T Refusal). OnOk e (Written × Handed)) (sym is) (w, h)
  whole_once Written Handed (Ok run) (Err f) end is w h = subst (λ (e : Result T Refusal). OnOk e (Written × Handed)) (sym is) tt
  whole_once Written Handed (Err r) flushed end is w h = subst (λ (e : Result T Refusal). OnOk e (Written × Handed)) (sym is) tt

  -- it was stopped as a run is, or as a write is
  pub stopped_once : (ran : Result T Refusal) (flushed : Result Unit Fault) (end : Result T Refusal) → end ≡ once_flushed ran flushed → IfErr ran (λ r. StopsAnswer (outcome_of r)) → IfErr end (λ r. StopsAnswer (outcome_of r))
  stopped_once (Ok run) (Ok done) end is stops = subst (λ (e : Result T Refusal). IfErr e (λ r. StopsAnswer (outcome_of r))) (sym is) tt
  stopped_once (Ok run) (Err fault.Failed) end is stops = subst (λ (e : Result T Refusal). IfErr e (λ r. StopsAnswer (outcome_of r))) (sym is) (inl refl)
  stopped_once (Ok run) (Err fault.NoMemory) end is stops = subst (λ (e : Result T Refusal). IfErr e (λ r. StopsAnswer (outcome_of r))) (sym is) (inr refl)
  stopped_once (Err r) flushed end is stops = subst (λ (e : Result T Refusal). IfErr e (λ r. StopsAnswer (outcome_of r))) (sym is) stops

  -- by a fault only where one was counted
  pub failed_once : (before between after : ℕ) (ran : Result T Refusal) (flushed : Result Unit Fault) (end : Result T Refusal) → end ≡ once_flushed ran flushed
      → before ≤ between → between ≤ after → IfErr ran (λ r. EndsAs r 7 → Rose before between) → HasCause between after flushed → IfErr end (λ r. EndsAs r 7 → Rose before after)
  failed_once before between after (Ok run) (Ok done) end is first then failed cause = subst (λ (e : Result T Refusal). IfErr e (λ r. EndsAs r 7 → Rose before after)) (sym is) tt
  failed_once before between after (Ok run) (Err fault.Failed) end is first then failed cause =
      subst (λ (e : Result T Refusal). IfErr e (λ r. EndsAs r 7 → Rose before after)) (sym is) (λ seven. rose_later before between after first (cause.failed refl))
  failed_once before between after (Ok run) (Err fault.NoMemory) end is first then failed cause =
      subst (λ (e : Result T Refusal). IfErr e (λ r. EndsAs r 7 → Rose before after)) (sym is) (λ eight. absurd (omega (arith, eight)))
  failed_once before between after (Err r) flushed end is first then failed cause =
      subst (λ (e : Result T Refusal). IfErr e (λ r. EndsAs r 7 → Rose before after)) (sym is) (λ seven. rose_before before between after first then (failed seven))

  -- What reached a file in which nothing was is a beginning of the answer, however the run ended
  pub reached : (ran : Result T Refusal) (old written new : Option (List ℕ)) (waits answer : List ℕ) → ForSome old (λ bytes. bytes ≡ []) → grown new waits ≡ written
      → OnOk ran (written ≡ grown old answer) → OnErr ran ((k : ℕ) × (written ≡ grown old (take k answer))) → (j : ℕ) × (new ≡ grown old (take j answer))
  reached (Ok run) old written new waits answer none same whole part = begun_part old new waits answer none (same ∙ whole)
  reached (Err r) old written new waits answer none same whole part =
      let begun = take part.0 answer in
      let made = begun_part old new waits begun none (same ∙ part.1) in
      part_taken old new (take made.0 begun) answer
      (prefix_then _ _ _ (drop made.0 begun, take-append-drop made.0 begun) (drop part.0 answer, take-append-drop part.0 answer)) made.1

module _ {Cell S : Type 0} (q : QueryFacts Cell) (job : JobFacts) (written : S → Option (List ℕ)) (faults : S → ℕ) (frame : S → Beside) {V T : Type 0} (had has : S) where
  -- by what a whole run leaves
  pub ran_on : (v : V) (t : T) → RunLeaves q job written faults frame (Ok v) had has → Answers q job.events written faults frame (Ok t) had has
  ran_on v t leaves = record { whole = leaves.whole; part = tt; refused = tt; failed = tt; appends = leaves.appends }

  pub was_stopped : (why : Cause) → RunLeaves q job written faults frame {V = V} (Err why) had has → Answers q job.events written faults frame {T = T} (Err (refused_after why)) had has
  was_stopped cause.Write leaves = record { whole = tt; part = leaves.part; refused = inl refl; failed = λ seven. leaves.failed refl; appends = leaves.appends }
  was_stopped cause.Memory leaves = record { whole = tt; part = leaves.part; refused = inr refl; failed = λ eight. absurd (omega (arith, eight)); appends = leaves.appends }

-- a fault that was counted in a later part of a call was counted in the call
pub failed_later : {T : Type 0} (before between after : ℕ) (end : Result T Refusal) → before ≤ between → IfErr end (λ r. EndsAs r 7 → Rose between after) → IfErr end (λ r. EndsAs r 7 → Rose before after)
failed_later before between after (Ok x) first failed = tt
failed_later before between after (Err r) first failed = λ seven. rose_later before between after first (failed seven)

-- a file that can't be begun is as it was
pub not_begun : {D T : Type 0} (files : D → Option Files) (write_faults : D → ℕ) (name answer : List ℕ) (why : Fault) (old new : D) → files new ≡ files old
    → write_faults old ≤ write_faults new → HasCause {T = Unit {0}} (write_faults old) (write_faults new) (Err why) → AnswersFile files write_faults name answer {T = T} (Err (refused_for why)) old new
not_begun files write_faults name answer fault.Failed old new same grow cause =
    record { whole = tt; part = inl same; refused = inl refl; failed = λ seven. cause.failed refl; faults_grow = grow }
not_begun files write_faults name answer fault.NoMemory old new same grow cause =
    record { whole = tt; part = inl same; refused = inr refl; failed = λ eight. absurd (omega (arith, eight)); faults_grow = grow }
