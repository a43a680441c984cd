use Rattle.mp_host_states.proofs.Finding.{cell_is}
use Rattle.mp_host_states.proofs.Stepped.{step_cells, step_fits, step_keeps}
use Rattle.mp_msg.proofs.Sorted.{by_key-ascends}
use Rattle.mp_host_states.proofs.stepping.step_state.Goals as goal

pub step_in-requires-clause-fits : goal.step_in-requires-clause-fits
step_in-requires-clause-fits g c = λ κs b.
    let q = g.Q.Query.facts (g.Q.Query.values c.args.query.now) in
    step_fits q c.args.stage c.state.inside.cells c.args.group.now (rw (← c.state.view_is) at c.requires.fits)

pub step_wakes-requires-clause-woken : goal.step_wakes-requires-clause-woken
step_wakes-requires-clause-woken g c = rw c.make_room_for.ensures.same (rw (← c.state.view_is) at c.requires.woken)

pub invariant_of-state-2 : goal.invariant_of-state-2
invariant_of-state-2 g c = record { cells = by_key-ascends c.step_in.new.cells.entries; wakes = c.step_wakes.ensures.ascending }

pub returns-clause-wakes : goal.returns-clause-wakes
returns-clause-wakes g c = rw (← c.state.view_is) (rw c.make_room_for.ensures.same at c.step_wakes.ensures.exact)

pub returns-clause-cells : goal.returns-clause-cells
returns-clause-cells g c =
    let q = g.Q.Query.facts (g.Q.Query.values c.args.query.now) in
    rw (← c.state.view_is) (step_cells q c.args.stage c.state.inside.cells c.args.group.now c.step_in.new.cells c.in_ok-outputs.ensures.cells)

pub returns-clause-kept : goal.returns-clause-kept
returns-clause-kept g c =
    let q = g.Q.Query.facts (g.Q.Query.values c.args.query.now) in
    rw (← c.state.view_is) (step_keeps q c.args.stage c.state.inside.cells c.args.group.now c.step_in.new.cells c.in_ok-outputs.ensures.kept)

pub returns-clause-outputs : goal.returns-clause-outputs
returns-clause-outputs g c =
    let q = g.Q.Query.facts (g.Q.Query.values c.args.query.now) in
    rw (← c.state.view_is, cell_is (q.fresh c.args.stage) c.state.inside.cells c.args.group.now.key) c.in_ok-outputs.ensures.outputs

pub returns-clause-in_order : goal.returns-clause-in_order
returns-clause-in_order g c = record { cells = by_key-ascends c.step_in.new.cells.entries; wakes = c.step_wakes.ensures.ascending }

pub returns-clause-same_wakes : goal.returns-clause-same_wakes
returns-clause-same_wakes g c = rw (← c.state.view_is) (λ idle. (rw c.make_room_for.ensures.same at c.step_wakes.ensures.same) idle c.state.invariant.wakes)
