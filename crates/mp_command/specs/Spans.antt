-- The part of the events that a run takes: all of them, those before a time, or those from the time of a checkpoint on.
use Rattle.std.specs.Prelude.{ℕ, ◌≡◌, Some, List, filter, nat_le, nat_lt}
use Rattle.mp_checkpoint_laws.specs.Files.{Format, IsFileOf, format_of}
use Rattle.mp_model.specs.declared.record.Event.{Event}
use Rattle.mp_model.specs.Facts.{JobFacts, QueryFacts}
use Rattle.mp_restart_laws.specs.Saves.{HoldsWhatIsLeft, StandsInOrder}
use Rattle.mp_opening.specs.Checkpoints.{CheckpointOf, saved_in}
use Rattle.mp_words.specs.Values.{From, SpanAsked, Until, Whole}

-- the job where it stops at a time: only control records of earlier times are left
abbrev pub stopped_at : ℕ → JobFacts → JobFacts
stopped_at t job = record job { controls = filter (λ control. nat_lt control.time t) job.controls; until = Some t }

module _ {Cell : Type 0} (text : ℕ → Cell → List ℕ) where
  -- the job where it goes on from a checkpoint: control records of earlier times than the checkpoint's are left out
  abbrev pub resumed_from : CheckpointOf Cell → JobFacts → JobFacts
  resumed_from c job = record job { controls = filter (λ control. nat_le c.time control.time) job.controls; from = Some (saved_in text c) }

module _ {Cell : Type 0} (q : QueryFacts Cell) where
  -- The checkpoint of what events leave just before a time: the cells that aren't fresh, and the wakes that are left, in order
  pub record IsLeftAt (events : List Event) (t : ℕ) (c : CheckpointOf Cell) : Type 0 where
    pub time : c.time ≡ t
    pub left : HoldsWhatIsLeft q events c
    pub order : StandsInOrder q c

-- A query by its number, the texts of its cells and its table, with these values of its rules
module _ {Cell : Type 0} (number : ℕ) (text : ℕ → Cell → List ℕ) (facts : List ℕ → QueryFacts Cell) (values : List ℕ) where
  -- what the files of its checkpoints say
  abbrev pub format_by : Format Cell
  format_by = format_of number values (facts values) text

  -- the bytes are the file of the checkpoint of what events leave at a time
  abbrev pub IsSaveOf : List Event → ℕ → List ℕ → Type 0
  IsSaveOf events t bytes = (c : CheckpointOf Cell) × IsLeftAt (facts values) events t c × IsFileOf format_by c bytes

  -- the bytes that are read are as the span wants them: the file of a checkpoint, where a run goes on from one
  abbrev pub IsConfirmedBy : SpanAsked → List ℕ → Type 0
  IsConfirmedBy Whole bytes = Unit {0}
  IsConfirmedBy (Until time save) bytes = Unit {0}
  IsConfirmedBy (From name) bytes = (c : CheckpointOf Cell) × IsFileOf format_by c bytes

  -- they are not: a run goes on from them, and they are the file of no checkpoint
  abbrev pub IsRefutedBy : SpanAsked → List ℕ → Type 0
  IsRefutedBy Whole bytes = ⊥
  IsRefutedBy (Until time save) bytes = ⊥
  IsRefutedBy (From name) bytes = (c : CheckpointOf Cell) → IsFileOf format_by c bytes → ⊥
