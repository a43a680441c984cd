-- What workers on one thread keep where a step of a list is refused: the steps before it, and the lines written by then.
use Rattle.std.specs.Prelude.{◌≡◌, ◌⊎◌, ℕ, ◌+◌, List, [], ◌∷◌, ◌++◌, Option}
use Rattle.mp_names.specs.declared.kinds.Kind.TheVariants as kind
use Rattle.mp_names.specs.declared.kinds.Kind.{Kind}
use Rattle.mp_model.specs.Facts.{JobFacts, QueryFacts}
use Rattle.mp_outline.specs.JobOutline.{outline_of}
use Rattle.mp_machine.specs.Runs.{Turn, made_count}
use Rattle.mp_board.specs.declared.causes.Cause.{Cause}
use Rattle.mp_board.specs.declared.causes.Cause.TheVariants as cause
use Rattle.mp_answer_laws.specs.Lines.{HasBegun}
use Rattle.mp_plain.specs.Driven.{Driven, HasWritten, LeadsOn, Steps}

-- the first of the steps is a write
abbrev pub IsWriteNext : Steps → Type 0
IsWriteNext [] = ⊥
IsWriteNext (step ∷ rest) = step.1 ≡ kind.Write

module _ {Cell : Type 0} (q : QueryFacts Cell) (job : JobFacts) where
  -- A list of steps was driven up to a refused one, or no step was made. Those before it are kept and counted. After `Write` it is a write. What stands in the sink are the lines written by then; only a write may have begun more
  pub record KeepsSteps (steps : Steps) (why : Cause) (old new : Driven) (had has : Option (List ℕ)) : Type 0 where
    pub kept : Steps
    pub left : Steps
    pub turns : List Turn
    pub parts : steps ≡ kept ++ left
    pub lead : LeadsOn (outline_of q job) kept turns old.state new.state
    pub counted : new.made ≡ old.made + made_count turns
    pub refused : (kept ≡ []) ⊎ ((step : ℕ × Kind) × (rest : Steps) × (left ≡ step ∷ rest))
    pub write : why ≡ cause.Write → IsWriteNext left
    pub lines : (before : Option (List ℕ)) → HasWritten q job.events before old.state had
        → HasWritten q job.events before new.state has ⊎ (IsWriteNext left × HasBegun q job.events before has)
