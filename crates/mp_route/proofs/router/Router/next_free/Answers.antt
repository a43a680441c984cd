use Rattle.mp_route.proofs.Going.{first_may_go, is_least_held, is_passed, may_go_first, not_passed}
use Rattle.mp_route.proofs.router.Router.next_free.Goals as goal
use Rattle.mp_model.specs.Tables.{table_of}

pub returns-then-not-passed-clause-none_may : goal.returns-then-not-passed-clause-none_may
returns-then-not-passed-clause-none_may g c =
    let job = g.J.Naming.job in
    let s = c.self.inside in
    let r = c.in_ok-first.first.now in
    let first = c.in_ok-first.ensures.some in
    rw (← c.self.view_is) (λ w log x h m.
    not_passed c.args.seen.now c.frontier.result r.time c.frontier.ensures c.if-not-passed.ensures.1 (may_go_first s.stage s.held r first c.first.ensures.in_order (table_of g.Q.Query.facts job) job c.self.invariant.1 w log h c.args.seen.now x m))

pub returns-clause-least : goal.returns-clause-least
returns-clause-least g c =
    let s = c.self.inside in
    let r = c.in_ok-first.first.now in
    rw (← c.self.view_is) (is_least_held s.stage s.held r c.in_ok-first.ensures.some c.first.ensures.in_order)

pub returns-clause-may_go : goal.returns-clause-may_go
returns-clause-may_go g c =
    let job = g.J.Naming.job in
    let s = c.self.inside in
    let r = c.in_ok-first.first.now in
    let passed = is_passed c.args.seen.now c.frontier.result r.time c.frontier.ensures c.if-not-passed.ensures.0 in
    rw (← c.self.view_is) (λ w log h.
    first_may_go s.stage s.held r c.in_ok-first.ensures.some c.first.ensures.in_order (table_of g.Q.Query.facts job) job c.self.invariant.1 w log h c.args.seen.now passed)
