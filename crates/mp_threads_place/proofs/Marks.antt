-- Marks of workers, and a worker that came to its end.
use Rattle.std.proofs.Common.{◌≡◌, Some, Ok, Err, refl, subst, sym}
use Rattle.std.specs.Prelude.{is_some}
use Rattle.std.specs.declared.result.Result.{Result}
use Rattle.std.proofs.lemmas.Option.{same_Some}
use Rattle.mp_names.specs.Logs.{Log}
use Rattle.mp_names.specs.Outlines.{Outline}
use Rattle.mp_seat.specs.Seats.{SeatState}
use Rattle.mp_worker_refinement.specs.State.{WorkerState}
use Rattle.mp_threads_member.specs.Below.{Stop}
use Rattle.mp_threads_member.specs.Below.{Write, Memory, Other}
use Rattle.mp_threads_hub.specs.Hubs.{SeesStop}
use Rattle.mp_threads_member.specs.Members.{MemberState}
use Rattle.mp_threads_member.specs.Driving.{IsFinished, IsTold}
use Rattle.mp_threads_place.specs.Places.{ComesToEnd, mark_of, worker_in}
use Rattle.mp_threads_place.specs.declared.back.Marked.{Marked}

-- a worker keeps its mark with its number, where it keeps its steps as before
pub same_mark : (a b : WorkerState) → a.number ≡ b.number → is_some a.steps ≡ is_some b.steps → mark_of a ≡ mark_of b
same_mark a b number keeps = rw (number, keeps) refl

-- a stop that is told is seen at the seat
pub told_sees : (stop : Stop) (seat : SeatState Log) → IsTold stop seat → SeesStop seat
told_sees Write seat told = told
told_sees Memory seat told = told
told_sees (Other cause) seat told = (cause, told)

-- a worker that came to its end
pub worker_is_back : (o : Outline) (mark : Marked) (came : Result MemberState MemberState) (w : WorkerState) → ComesToEnd o mark came → Some w ≡ worker_in came → (mark_of w ≡ mark) × IsFinished o w
worker_is_back o mark (Ok m) w is e = subst (λ (s : WorkerState). (mark_of s ≡ mark) × IsFinished o s) (sym (same_Some w m.worker e)) is
worker_is_back o mark (Err m) w is e = absurd (cc)
