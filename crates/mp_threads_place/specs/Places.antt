-- Where a worker is, and what is known of it when it comes back.
use Rattle.std.specs.Prelude.{◌≡◌, ℕ, List, Ok, Err, Option, None, Some, is_some, slice_get}
use Rattle.std.specs.declared.result.Result.{Result}
use Rattle.mp_names.specs.Outlines.{Outline}
use Rattle.mp_threads_hub.specs.Hubs.{SeesStop}
use Rattle.mp_worker_refinement.specs.State.{WorkerState}
use Rattle.mp_threads_member.specs.Below.{Stop}
use Rattle.mp_threads_member.specs.Driving.{IsFinished, IsTold}
use Rattle.mp_threads_member.specs.Members.{HasDoneNothing, MemberState}
use Rattle.mp_threads_place.specs.declared.back.Back.{Back}
use Rattle.mp_threads_place.specs.declared.back.Marked.{Marked}
use Rattle.mp_threads_place.specs.declared.back.Back.TheVariants.{Finished, Undriven, Stopped}
use Rattle.mp_threads_place.specs.declared.place.Place.{Place}
use Rattle.mp_threads_place.specs.declared.place.Place.TheVariants.{Away, Here}

-- what tells a worker apart: its number, and whether it keeps its steps
abbrev pub mark_of : WorkerState → Marked
mark_of s = record { number = s.number; keeps = is_some s.steps }

-- What a thread gives back is the worker with this mark: it is finished; or it was not driven, and has done nothing; or its
-- seat has seen that a worker stopped
abbrev pub IsBack : Outline → Marked → Back MemberState → Type 0
IsBack o mark (Finished m) = (mark_of m.worker ≡ mark) × IsFinished o m.worker
IsBack o mark (Undriven m) = (mark_of m.worker ≡ mark) × HasDoneNothing m
IsBack o mark (Stopped m) = (mark_of m.worker ≡ mark) × SeesStop m.hub

-- it was not driven
abbrev pub IsUndriven : {M : Type 0} → Back M → Type 0
IsUndriven (Undriven m) = Unit {0}
IsUndriven _ = ⊥

-- the worker that came back
abbrev pub member_in : {M : Type 0} → Back M → M
member_in (Finished m) = m
member_in (Undriven m) = m
member_in (Stopped m) = m

-- the worker with this mark is finished, or its seat has seen that a worker stopped
abbrev pub ComesToEnd : Outline → Marked → Result MemberState MemberState → Type 0
ComesToEnd o mark (Ok m) = (mark_of m.worker ≡ mark) × IsFinished o m.worker
ComesToEnd o mark (Err m) = (mark_of m.worker ≡ mark) × SeesStop m.hub

-- the worker that came to its end
abbrev pub worker_in : Result MemberState MemberState → Option WorkerState
worker_in (Ok m) = Some m.worker
worker_in (Err m) = None

-- the mark of the worker
abbrev pub mark_at : Place Marked MemberState → Marked
mark_at (Away mark) = mark
mark_at (Here m) = mark_of m.worker

-- the worker is here, and the others are told why it stopped
abbrev pub HasTold : Place Marked MemberState → Stop → Type 0
HasTold (Away mark) stop = ⊥
HasTold (Here m) stop = IsTold stop m.hub

-- one of the workers is here, and stopped, and the others are told so
abbrev pub OneHasTold : List (Place Marked MemberState) → Type 0
OneHasTold places = (k : ℕ) × (place : Place Marked MemberState) × (stop : Stop) × (slice_get places k ≡ Some place) × HasTold place stop
