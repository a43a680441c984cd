use Rattle.std.proofs.Common.{◌∙◌, ap, refl, sym}
use Rattle.mp_host_states.specs.States.{States}
use Rattle.mp_host_states.proofs.Places.{no_place, place_is}
use Rattle.mp_host_laws.specs.Hosted.{is_held_before}
use Rattle.mp_host.proofs.Kept.{even_on_none, hosted_still}
use Rattle.mp_host.proofs.Moved.{left_fit, out_fits, taken_out}
use Rattle.mp_host.proofs.Told.{gives_up, nothing_leaves, query_keeps}
use Rattle.mp_host.proofs.host.Host.take_bin.Goals as goal
use Rattle.mp_model.specs.Tables.{table_of}

pub returns-in_err-at-clause-none : goal.returns-in_err-at-clause-none
returns-in_err-at-clause-none g c =
    let place = rw c.from.ensures at c.place_before.ensures in
    let none = no_place (is_held_before c.args.bin c.args.time) c.self.inside.states.held (sym place ∙ c.in_err-at.was) in
    even_on_none c.from_residual.result _ (rw (← c.self.view_is) (none, refl))

pub returns-in_err-at-clause-here : goal.returns-in_err-at-clause-here
returns-in_err-at-clause-here g c =
    let laws = g.met.Q.Query g.world.𝓛 g.world.𝓜 g.world.𝓡 ((λ s x. x), (λ x. x), (λ x. x), λ x. x) in
    let job = g.J.Naming.job in
    let rules = job.values in
    let place = rw c.from.ensures at c.place_before.ensures in
    let none = no_place (is_held_before c.args.bin c.args.time) c.self.inside.states.held (sym place ∙ c.in_err-at.was) in
    even_on_none c.from_residual.result _
    (rw (← c.self.view_is)
    (nothing_leaves (table_of g.Q.Query.facts job) job (query_keeps g.Q.Query.facts job (laws.has_stages rules) (laws.posts_are_later rules) (laws.later_stages_post_nothing rules) laws.sums_fit) _ c.args.bin c.args.time _ c.self.invariant none))

pub invariant_of-self : goal.invariant_of-self
invariant_of-self g c =
    let h = c.self.invariant in
    rw c.take.ensures.left (hosted_still _ _ _ _ _ _ _ _ h h.order.content h.order.records (left_fit _ _ _ _ h c.in_ok-at.at))

pub returns-clause-taken : goal.returns-clause-taken
returns-clause-taken g c =
    let place = rw c.from.ensures at c.place_before.ensures in
    let left = ap (λ (s : States g.row.Q-Cell.Denot). s.held) c.take.ensures.left in
    rw (← c.self.view_is) (taken_out c.args.bin c.args.time _ _ c.in_ok-at.at (sym place ∙ c.in_ok-at.was) c.take.result refl refl refl c.take.ensures.taken left)

pub returns-clause-fits : goal.returns-clause-fits
returns-clause-fits g c =
    let place = rw c.from.ensures at c.place_before.ensures in
    let at = place_is (is_held_before c.args.bin c.args.time) c.self.inside.states.held c.in_ok-at.at (sym place ∙ c.in_ok-at.was) c.take.result in
    rw (← c.self.view_is) (out_fits _ _ _ _ c.self.invariant c.in_ok-at.at c.take.result at.inside c.take.ensures.taken)

pub returns-clause-held : goal.returns-clause-held
returns-clause-held g c = λ log.
    let laws = g.met.Q.Query g.world.𝓛 g.world.𝓜 g.world.𝓡 ((λ s x. x), (λ x. x), (λ x. x), λ x. x) in
    let job = g.J.Naming.job in
    let rules = job.values in
    let place = rw c.from.ensures at c.place_before.ensures in
    let left = ap (λ (s : States g.row.Q-Cell.Denot). s.held) c.take.ensures.left in
    rw (← c.self.view_is)
    (gives_up (table_of g.Q.Query.facts job) job (query_keeps g.Q.Query.facts job (laws.has_stages rules) (laws.posts_are_later rules) (laws.later_stages_post_nothing rules) laws.sums_fit) _ c.args.bin c.args.time c.take.result _ _ c.self.invariant (taken_out c.args.bin c.args.time _ _ c.in_ok-at.at (sym place ∙ c.in_ok-at.was) c.take.result refl refl refl c.take.ensures.taken left) log)
