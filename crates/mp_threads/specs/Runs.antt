-- How a crew is driven, and what its run comes to.
use Rattle.std.specs.Prelude.{◌≡◌, ◌↔◌, ℕ, All, Bool, Err, IfErr, IfOk, List, Ok, OnOk, Option, false, map, true}
use Rattle.std.specs.Global.{Global}
use Rattle.std.specs.declared.result.Result.{Result}
use Rattle.std.specs.declared.vec.Vec.{Vec}
use Rattle.mp_names.specs.Outlines.{Outline}
use Rattle.mp_outside.specs.Sink.{Beside}
use Rattle.mp_model.specs.Facts.{JobFacts, QueryFacts}
use Rattle.mp_outline.specs.JobOutline.{outline_of}
use Rattle.mp_board.specs.declared.causes.Cause.{Cause}
use Rattle.mp_board.specs.declared.causes.Cause.TheVariants.{Write}
use Rattle.mp_answer_laws.specs.Runs.{RunLeaves}
use Rattle.mp_worker_refinement.specs.State.{WorkerState}
use Rattle.mp_threads_member.specs.Below.{Stop}
use Rattle.mp_threads_member.specs.Below.TheVariants as own
use Rattle.mp_threads_member.specs.Driving.{Drives, IsFinished, IsTold}
use Rattle.mp_threads_member.specs.Members.{MemberState}
use Rattle.mp_threads_crew.specs.Crews.{AreFinished}
use Rattle.mp_threads_place.specs.Places.{OneHasTold, mark_of}
use Rattle.mp_threads_place.specs.declared.back.Marked.{Marked}
use Rattle.mp_threads_place.specs.declared.place.Place.{Place}

-- Workers come back of a crew with these marks: finished, and with the same marks
pub record ComeBack (o : Outline) (crew : List Marked) (workers : List WorkerState) : Type 0 where
  pub marks : map mark_of workers ≡ crew
  pub finished : All (IsFinished o) workers

-- A run has all its workers only if those with the caller were driven to their end, and a write failed exactly where worker 0's own did
pub record EndsAs {V : Type 0} (driven : Result Bool Stop) (result : Result V Cause) : Type 0 where
  pub over : OnOk result (driven ≡ Ok true)
  pub write : (result ≡ Err Write) ↔ (driven ≡ Err own.Write)

module _ {Cell S : Type 0} (q : QueryFacts Cell) (job : JobFacts) (written : S → Option (List ℕ)) (faults : S → ℕ) (frame : S → Beside) where
  -- Worker 0 and the others that are here were driven: to their end, or until one of them stopped, which the others are told
  pub record AreDriven (result : Result Bool Stop) (old new : MemberState) (places : List (Place Marked MemberState)) (had has : S) : Type 0 where
    pub drives : Drives q job written faults frame result old new had has
    pub finished : result ≡ Ok true → IsFinished (outline_of q job) new.worker
    pub told : IfErr result (λ stop. IsTold stop new.hub)
    pub other : result ≡ Ok false → OneHasTold places

  -- A crew has run: its workers come back by their numbers, finished and with their marks, and in the sink is what a run leaves there
  pub record HaveRun (crew : List MemberState) (result : Result (Vec WorkerState Global) Cause) (had has : S) : Type 0 where
    pub finished : IfOk result (λ workers. AreFinished (outline_of q job) workers.items)
    pub marks : IfOk result (λ workers. map mark_of workers.items ≡ map (λ m. mark_of m.worker) crew)
    pub leaves : RunLeaves q job written faults frame result had has
