-- What a run leaves in the sink of its answer, and in the answer's file.
use Rattle.std.specs.Prelude.{◌≡◌, ◌≤◌, ◌∷◌, [], ℕ, IfErr, List, OnErr, OnOk, Option, Result}
use Rattle.mp_answer_laws.specs.Lines.{HasBegun}
use Rattle.mp_command_files.specs.declared.refusal.Refusal.{Refusal}
use Rattle.mp_command_files.specs.Outcome.{StopsAnswer}
use Rattle.mp_command_files.specs.Refused.{EndsAs, outcome_of}
use Rattle.mp_command.specs.Writing.{WritesSome, answer_at}
use Rattle.mp_model.specs.declared.record.Event.{Event}
use Rattle.mp_model.specs.Answers.{one_thread_answer}
use Rattle.mp_model.specs.Facts.{QueryFacts}
use Rattle.mp_outside.specs.Fault.{Rose}
use Rattle.mp_outside.specs.Files.{Files, with_file}
use Rattle.mp_outside.specs.Sink.{Beside, OnlyAppends, grown}

-- The one-thread answer, or a beginning of it where the run was stopped: for want of memory, or by a write, and then the sink's count of faults rose
pub record Answers {Cell S : Type 0} (q : QueryFacts Cell) (events : List Event) (written : S → Option (List ℕ)) (faults : S → ℕ) (frame : S → Beside) {T : Type 0} (end : Result T Refusal) (had has : S) : Type 0 where
  pub whole : OnOk end (written has ≡ grown (written had) (one_thread_answer q events))
  pub part : OnErr end (HasBegun q events (written had) (written has))
  pub refused : IfErr end (λ r. StopsAnswer (outcome_of r))
  pub failed : IfErr end (λ r. EndsAs r 7 → Rose (faults had) (faults has))
  pub appends : OnlyAppends frame faults had has

-- The file of this name holds the answer; or, where the run was stopped, it is as it was or holds a beginning of the answer. The depot's
-- count of faults doesn't fall, and rose where a write stopped the run
pub record AnswersFile {D : Type 0} (files : D → Option Files) (write_faults : D → ℕ) (name answer : List ℕ) {T : Type 0} (end : Result T Refusal) (old new : D) : Type 0 where
  pub whole : OnOk end (files new ≡ with_file (files old) name answer)
  pub part : OnErr end (WritesSome (λ _ text. text ≡ answer) (answer_at name ∷ []) (files old) (files new))
  pub refused : IfErr end (λ r. StopsAnswer (outcome_of r))
  pub failed : IfErr end (λ r. EndsAs r 7 → Rose (write_faults old) (write_faults new))
  pub faults_grow : write_faults old ≤ write_faults new
