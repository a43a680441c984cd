-- The lines that worker 0 has written, by its log.
use Rattle.std.specs.Prelude.{◌≡◌, ℕ, List, [], Option, filter, flat_map, take}
use Rattle.mp_names.specs.declared.names.Name.{Name}
use Rattle.mp_names.specs.declared.names.Name.TheVariants.{Written}
use Rattle.mp_names.specs.Names.{is_written}
use Rattle.mp_names.specs.Logs.{Log}
use Rattle.mp_outside.specs.Sink.{grown}
use Rattle.mp_model.specs.declared.record.Event.{Event}
use Rattle.mp_model.specs.Answers.{one_thread_answer}
use Rattle.mp_model.specs.Facts.{QueryFacts}
use Rattle.mp_output.specs.Holding.{answer_at}

module _ {Cell : Type 0} (q : QueryFacts Cell) (events : List Event) where
  -- the answer's lines of a time that is written
  abbrev pub lines_of_time : Name → List ℕ
  lines_of_time (Written t) = answer_at q events t
  lines_of_time _ = []

  -- the answer's lines of the times that the log has as written, in that order
  abbrev pub written_lines : Log → List ℕ
  written_lines log = flat_map lines_of_time (filter is_written log.settled)

  -- on top of what was there before, the lines stand that the log has as written
  abbrev pub HasWritten : Option (List ℕ) → Log → Option (List ℕ) → Type 0
  HasWritten before log now = now ≡ grown before (written_lines log)

  -- on top of what was there before, a beginning of the one-thread answer stands
  abbrev pub HasBegun : Option (List ℕ) → Option (List ℕ) → Type 0
  HasBegun before now = (k : ℕ) × (now ≡ grown before (take k (one_thread_answer q events)))
