-- The steps that a worker keeps: what is kept at first, and after a step.
use Rattle.std.specs.Prelude.{Bool, true, false, List, [], Option, None, Some, Ok}
use Rattle.std.specs.declared.result.Result.{Result}
use Rattle.mp_names.specs.declared.kinds.Kept.{Kept}
use Rattle.mp_names.specs.declared.kinds.Kind.{Kind}
use Rattle.mp_worker_refinement.specs.State.{kept_with}
use Rattle.mp_turns.specs.declared.turn.Turn.{Turn}
use Rattle.mp_turns.specs.declared.turn.Turn.TheVariants.{Did, Seen}
use Rattle.mp_turns.specs.declared.turn.Stop.{Stop}

-- what a worker that has made no step keeps: where it is to keep its steps, none so far
abbrev pub no_steps : Bool → Option (List Kept)
no_steps true = Some []
no_steps false = None

-- where steps are kept, those after a step of this kind with this answer: one that was made is kept, an exchange with the version that it saw
abbrev pub steps_after : Option (List Kept) → Kind → Result Turn Stop → Option (List Kept)
steps_after steps kind (Ok (Did x n)) = kept_with steps kind 0
steps_after steps kind (Ok (Seen version)) = kept_with steps kind version
steps_after steps kind r = steps
