use Rattle.std.proofs.Common.{◌≡◌, ◌+◌, ◌-◌, ◌^◌}
use Rattle.mp_outline.specs.JobOutline.{outline_of}
use Rattle.mp_draws.specs.Draws.{state_after}
use Rattle.mp_schedule.proofs.Followed.{LeadsBy}
use Rattle.mp_plain.proofs.Leaving.{HaveLeft}
use Rattle.mp_schedule.proofs.seed.drive_seed.Given as goal
use Rattle.mp_model.specs.Tables.{table_of}

abbrev pub invariant-loop-draws : goal.invariant-loop-draws
invariant-loop-draws g l =
    let job = g.J.Naming.job in
    let q = table_of g.Q.Query.facts job in
    let s = g.S.Sink in
    record {
      by : LeadsBy (outline_of q job) l.seed l.made l.fn.plain.state l.plain.state;
      counted : l.plain.made ≡ l.fn.plain.made + l.made;
      drawn : l.draws ≡ state_after l.seed l.made;
      left : HaveLeft q job s.written s.faults s.frame l.fn.plain.state l.plain.state l.fn.sink l.sink;
    }

abbrev pub decreases-loop-draws : goal.decreases-loop-draws
decreases-loop-draws g l = 2 ^ 64 - 1 - l.made
