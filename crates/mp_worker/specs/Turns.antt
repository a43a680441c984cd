-- What a step came to, by its answer.
use Rattle.std.specs.Prelude.{◌≡◌, ℕ, Ok, Err}
use Rattle.std.specs.declared.result.Result.{Result}
use Rattle.mp_names.specs.declared.kinds.Kind.{Kind}
use Rattle.mp_names.specs.declared.kinds.Kind.TheVariants as kind
use Rattle.mp_names.specs.Outlines.{Outline}
use Rattle.mp_worker_refinement.specs.State.{WorkerState}
use Rattle.mp_worker_refinement.specs.Steps.{IsHinderedByMail, MakesByMail, Sees}
use Rattle.mp_turns.specs.declared.turn.Turn.{Turn}
use Rattle.mp_turns.specs.declared.turn.Turn.TheVariants.{Did, Seen, NotNow, Busy}
use Rattle.mp_turns.specs.declared.turn.Stop.{Stop}
use Rattle.mp_turns.specs.declared.turn.Stop.TheVariants.{Write, Memory, Other}

module _ (had_room was_full was_empty : ℕ → ℕ → Type 0) (o : Outline) (made : Kind) (old new : WorkerState) where
  -- the step was made, or an exchange saw a new version, or the step can't be made; where a hub was held, or the worker has to stop, it is as it was
  abbrev pub Answers : Result Turn Stop → Type 0
  Answers (Ok (Did x n)) = MakesByMail had_room was_full was_empty o made old new (record { first = x; count = n })
  Answers (Ok (Seen version)) = (made ≡ kind.Exchange) × Sees old version new
  Answers (Ok NotNow) = IsHinderedByMail had_room was_full was_empty o made old new
  Answers (Ok Busy) = (made ≡ kind.Exchange) × (new ≡ old)
  Answers (Err Write) = (made ≡ kind.Write) × (new ≡ old)
  Answers (Err Memory) = new ≡ old
  Answers (Err (Other cause)) = (made ≡ kind.Exchange) × (new ≡ old)
