-- What workers on one thread keep where a step of a schedule is refused: the steps before it, and the lines written by then.
use Rattle.std.specs.Prelude.{◌≡◌, ◌⊎◌, ℕ, ◌+◌, List, [], ◌++◌, Option}
use Rattle.mp_names.specs.declared.kinds.Kind.TheVariants as kind
use Rattle.mp_names.specs.Outlines.{Outline}
use Rattle.mp_model.specs.Facts.{JobFacts, QueryFacts}
use Rattle.mp_outline.specs.JobOutline.{outline_of}
use Rattle.mp_machine.specs.Runs.{run_of_machine}
use Rattle.mp_worker_refinement.specs.SystemState.{SystemState}
use Rattle.mp_board.specs.declared.causes.Cause.{Cause}
use Rattle.mp_board.specs.declared.causes.Cause.TheVariants as cause
use Rattle.mp_draws.specs.Draws.{draw_of}
use Rattle.mp_answer_laws.specs.Lines.{HasBegun}
use Rattle.mp_plain.specs.Driven.{AreAfter, Driven, HasWritten, LeadsOn, Steps}
use Rattle.mp_schedule.specs.Schedule.{FollowsSchedule, IsTried}

-- after these steps a write is tried for this draw
abbrev pub IsWriteTried : Outline → ℕ → Steps → SystemState → Type 0
IsWriteTried o draw made old =
    (w : ℕ) × ((before : Steps) → AreAfter o before old → IsTried o old.post.depth (run_of_machine o old.post.depth (before ++ made)) draw (w, kind.Write))

module _ {Cell : Type 0} (q : QueryFacts Cell) (job : JobFacts) where
  -- After these steps, in trying the places of a draw, a step was refused. After `Write` it is a write. What stands in the sink are the lines written by then; only a write may have begun more
  pub record RefusesDraw (draw : ℕ) (why : Cause) (made : Steps) (old new : SystemState) (had has : Option (List ℕ)) : Type 0 where
    pub write : why ≡ cause.Write → IsWriteTried (outline_of q job) draw made old
    pub lines : (before : Option (List ℕ)) → HasWritten q job.events before old had
        → HasWritten q job.events before new has ⊎ (IsWriteTried (outline_of q job) draw made old × HasBegun q job.events before has)

  -- A step of a draw was refused, and none is made
  pub record RefusesPick (draw : ℕ) (why : Cause) (old new : Driven) (had has : Option (List ℕ)) : Type 0 where
    pub still : LeadsOn (outline_of q job) [] [] old.state new.state
    pub counted : new.made ≡ old.made
    pub refused : RefusesDraw draw why [] old.state new.state had has

  -- A seed's schedule was followed up to a draw of which a step was refused. The steps before it are kept and counted
  pub record KeepsSchedule (seed : ℕ) (why : Cause) (old new : Driven) (had has : Option (List ℕ)) : Type 0 where
    pub n : ℕ
    pub follows : FollowsSchedule (outline_of q job) seed n old.state new.state
    pub counted : new.made ≡ old.made + n
    pub refused : RefusesDraw (draw_of seed n) why follows.steps old.state new.state had has
