use Rattle.mp_stamps.specs.Counts.{count_in}
use Rattle.mp_stamps.proofs.Edges.{at_host, at_mail, at_move, at_route, at_state}
use Rattle.mp_stamps.proofs.flow.of_stage.Goals as goal

pub returns-clause-route : goal.returns-clause-route
returns-clause-route c = at_route (count_in c.args.counts.now) c.args.stage _ _ _ c.requires.origin c.first_time-own_route.ensures c.earlier-route.ensures

pub returns-clause-mail : goal.returns-clause-mail
returns-clause-mail c = at_mail (count_in c.args.counts.now) c.args.stage _ _ _ (returns-clause-route c) c.first_time-own_mail.ensures c.earlier-mail.ensures

pub returns-clause-moves : goal.returns-clause-moves
returns-clause-moves c = at_move (count_in c.args.counts.now) c.args.stage _ _ _ c.requires.ctl_mail c.first_time-own_move.ensures c.earlier-moves.ensures

pub returns-clause-state : goal.returns-clause-state
returns-clause-state c = at_state (count_in c.args.counts.now) c.args.stage _ _ _ (returns-clause-moves c) c.first_time-own_state.ensures c.earlier-state.ensures

pub returns-clause-host : goal.returns-clause-host
returns-clause-host c =
    at_host (count_in c.args.counts.now) c.args.stage _ _ _ _ _ (returns-clause-mail c) (returns-clause-state c) c.first_time-own_host.ensures c.earlier-inputs.ensures c.earlier-host.ensures
