-- What is written is a beginning of the one-thread answer, and in the end all of it.
use Rattle.std.specs.Prelude.{◌≡◌, ℕ, [], ◌∷◌, ◌++◌, take}
use Rattle.mp_names.specs.declared.kinds.Kind.{Kind}
use Rattle.mp_names.specs.declared.kinds.Kind.TheVariants.{Write}
use Rattle.mp_names.specs.declared.names.Name.{Name}
use Rattle.mp_names.specs.declared.names.Name.TheVariants.{Written}
use Rattle.mp_names.specs.Logs.{Log, LogIsLegal, with_settled}
use Rattle.mp_machine.specs.Steps.{IsNext, logged}
use Rattle.mp_machine.specs.Worlds.{Worker}
use Rattle.mp_machine.specs.Promises.{LogIsFull}
use Rattle.mp_model.specs.Facts.{JobFacts, QueryFacts}
use Rattle.mp_model.specs.Answers.{one_thread_answer}
use Rattle.mp_outline.specs.JobOutline.{outline_of}
use Rattle.mp_output.specs.Holding.{answer_at}
use Rattle.mp_answer_laws.specs.Lines.{written_lines}

module _ {Cell : Type 0} (q : QueryFacts Cell) (job : JobFacts) where
  -- what a legal log of worker 0 has written is a beginning of the one-thread answer
  abbrev pub WrittenLinesBegin : Type 0
  WrittenLinesBegin = (log : Log) → LogIsLegal (outline_of q job) 0 log → (k : ℕ) × (written_lines q job.events log ≡ take k (one_thread_answer q job.events))

  -- and so it is with a part, from the front, of the lines of the time that is written next
  abbrev pub PartsOfLinesBegin : Type 0
  PartsOfLinesBegin =
      (log : Log) (t n : ℕ)
      → LogIsLegal (outline_of q job) 0 (with_settled log (Written t))
      → (k : ℕ) × (written_lines q job.events log ++ take n (answer_at q job.events t) ≡ take k (one_thread_answer q job.events))

  -- a full log has written all of it
  abbrev pub FullLogsAnswer : Type 0
  FullLogsAnswer = (log : Log) → LogIsFull (outline_of q job) 0 log → written_lines q job.events log ≡ one_thread_answer q job.events

  -- a time that is written adds its lines
  abbrev pub WritingAddsLines : Type 0
  WritingAddsLines = (log : Log) (t : ℕ) → written_lines q job.events (with_settled log (Written t)) ≡ written_lines q job.events log ++ answer_at q job.events t

  -- and no other step adds any
  abbrev pub OthersWriteNothing : Type 0
  OthersWriteNothing =
      (w : ℕ) (worker : Worker) (kind : Kind) (x : Name)
      → (kind ≡ Write → ⊥)
      → IsNext (outline_of q job) w worker kind x
      → written_lines q job.events (logged kind worker.log (x ∷ [])) ≡ written_lines q job.events worker.log
