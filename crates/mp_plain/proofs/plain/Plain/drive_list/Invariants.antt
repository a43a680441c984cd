use Rattle.std.proofs.Common.{◌≡◌, ◌≤◌, length, take, vec_capacity}
use Rattle.mp_outline.specs.JobOutline.{outline_of}
use Rattle.mp_plain.specs.Driving.{MakesSteps}
use Rattle.mp_plain.proofs.Leaving.{HaveLeft}
use Rattle.mp_plain.proofs.plain.Plain.drive_list.Given as goal
use Rattle.mp_model.specs.Tables.{table_of}

abbrev pub invariant-loop-worker : goal.invariant-loop-worker
invariant-loop-worker g l = let job = g.J.Naming.job in let q = table_of g.Q.Query.facts job in let s = g.S.Sink in record {
  room : length l.steps ≤ vec_capacity l.turns;
  many : length l.turns.items ≡ l.worker-index;
  makes : MakesSteps (outline_of q job) (take l.worker-index l.steps) l.turns.items l.initial.self l.self;
  left : HaveLeft q job s.written s.faults s.frame l.initial.self.state l.self.state l.initial.sink l.sink;
}
