use Rattle.std.proofs.Common.{◌≡◌, ◌%◌, ◌+◌, ◌-◌, [], length}
use Rattle.mp_outline.specs.JobOutline.{outline_of}
use Rattle.mp_machine.specs.Places.{places}
use Rattle.mp_plain.specs.Driven.{LeadsOn}
use Rattle.mp_plain.specs.Places.{IsPlaceIn, place_number}
use Rattle.mp_plain.proofs.Leaving.{HaveLeft}
use Rattle.mp_schedule.proofs.Tried.{NoneOf}
use Rattle.mp_schedule.proofs.seed.step_from.Given as goal
use Rattle.mp_model.specs.Tables.{table_of}

abbrev pub invariant-loop-tried : goal.invariant-loop-tried
invariant-loop-tried g l =
    let job = g.J.Naming.job in
    let q = table_of g.Q.Query.facts job in
    let o = outline_of q job in
    let s = g.S.Sink in
    record {
      still : LeadsOn o [] [] l.fn.plain.state l.plain.state;
      made : l.plain.made ≡ l.fn.plain.made;
      place : IsPlaceIn job.shape l.place;
      at : place_number job.shape l.place ≡ (l.draw % length (places o) + l.tried) % length (places o);
      none : NoneOf o l.fn.plain.state (l.draw % length (places o)) l.tried;
      left : HaveLeft q job s.written s.faults s.frame l.fn.plain.state l.plain.state l.fn.sink l.sink;
    }

abbrev pub decreases-loop-tried : goal.decreases-loop-tried
decreases-loop-tried g l = l.places - l.tried
