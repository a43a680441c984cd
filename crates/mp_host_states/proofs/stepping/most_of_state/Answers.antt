use Rattle.mp_host_states.proofs.Finding.{cell_is}
use Rattle.mp_host_states.proofs.Stepped.{step_fits}
use Rattle.mp_host_states.proofs.stepping.most_of_state.Goals as goal

pub most_in-requires-clause-fits : goal.most_in-requires-clause-fits
most_in-requires-clause-fits g c = λ κs b.
    let q = g.Q.Query.facts (g.Q.Query.values c.args.query.now) in
    step_fits q c.args.stage c.state.inside.cells c.args.group.now (rw (← c.state.view_is) at c.requires.fits)

pub returns : goal.returns
returns g c =
    let q = g.Q.Query.facts (g.Q.Query.values c.args.query.now) in
    rw (← c.state.view_is, cell_is (q.fresh c.args.stage) c.state.inside.cells c.args.group.now.key) c.most_in.ensures
