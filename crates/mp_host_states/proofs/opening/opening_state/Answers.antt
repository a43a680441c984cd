use Rattle.mp_model.specs.Tables.{table_of}
use Rattle.mp_msg.proofs.Sorted.{by_key-ascends}
use Rattle.mp_host_states.proofs.Begun.{state_at_first}
use Rattle.mp_host_states.proofs.opening.opening_state.Goals as goal

pub invariant_of-result : goal.invariant_of-result
invariant_of-result g c = record { cells = by_key-ascends c.in_ok-cells.cells.entries; wakes = c.in_ok-wakes.ensures.ascending }

pub returns : goal.returns
returns g c =
    let job = c.args.job.now in
    state_at_first (table_of g.Q.Query.facts job) job c.args.stage c.args.bin c.in_ok-opening.opening.items c.opening_wakes.result.now c.in_ok-cells.cells c.in_ok-wakes.wakes.wakes
    c.in_ok-opening.ensures
    c.opening_wakes.ensures
    (rw c.query.ensures at c.in_ok-cells.ensures)
    c.in_ok-wakes.ensures.same
    c.in_ok-wakes.ensures.ascending
