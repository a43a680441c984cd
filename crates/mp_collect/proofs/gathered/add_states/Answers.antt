use Rattle.std.proofs.Common.{ℕ, map}
use Rattle.mp_msg.specs.States.{BinContent}
use Rattle.mp_collect.specs.Gathered.{as_cell, as_wake}
use Rattle.mp_collect.proofs.Entries.{one_more}
use Rattle.mp_collect.proofs.gathered.add_states.Goals as goal

pub loop-stage-preserved : goal.loop-stage-preserved
loop-stage-preserved g c =
    let all = c.loop-stage in
    let now : ℕ × BinContent g.row.C.Denot = (c.in-Some.stage, c.in-Some.state) in
    record {
      cells = one_more (λ s. map (as_cell s.0) s.1.cells) c.args.cells.now.items all.cells.items c.add_state.new.cells.items all.yielded now all.invariant.cells c.in_ok-add_state.ensures.cells;
      wakes = one_more (λ s. map (as_wake s.0) s.1.wakes) c.args.wakes.now.items all.wakes.items c.add_state.new.wakes.items all.yielded now all.invariant.wakes c.in_ok-add_state.ensures.wakes;
    }
