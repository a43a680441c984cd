use Rattle.std.proofs.Common.{◌∙◌, ap, get_or}
use Rattle.mp_host_states.specs.States.{States}
use Rattle.mp_host_states.proofs.Found.{cell_found}
use Rattle.mp_host_states.proofs.in_hand.most_of_group.Goals as goal

pub most_of_state-requires-clause-fits : goal.most_of_state-requires-clause-fits
most_of_state-requires-clause-fits g c = λ κs b.
    let q = g.Q.Query.facts (g.Q.Query.values c.args.query.now) in
    let one = c.index.result.now in
    let cell = cell_found c.args.states.now c.args.group.now.time c.args.group.now.key c.place_of-at.result c.place_of-at.ensures one (c.index.ensures ∙ ap (λ (s : States g.row.Q-Cell.Denot). get_or s.held c.place_of-at.result one) c.states.view_is) (q.fresh c.args.stage) in
    rw cell at c.requires.fits

pub returns : goal.returns
returns g c =
    let q = g.Q.Query.facts (g.Q.Query.values c.args.query.now) in
    let one = c.index.result.now in
    let cell = cell_found c.args.states.now c.args.group.now.time c.args.group.now.key c.place_of-at.result c.place_of-at.ensures one (c.index.ensures ∙ ap (λ (s : States g.row.Q-Cell.Denot). get_or s.held c.place_of-at.result one) c.states.view_is) (q.fresh c.args.stage) in
    rw cell c.most_of_state.ensures
