use Rattle.std.proofs.Common.{◌∙◌}
use Rattle.mp_outline.proofs.Soundness.{outline_is_sound}
use Rattle.mp_host_laws.proofs.Counted.{waiting_are_counted}
use Rattle.mp_host.proofs.Woken.{in_order, waiting_counted}
use Rattle.mp_host.proofs.host.Host.pending.Goals as goal
use Rattle.mp_model.specs.Tables.{table_of}

pub returns-clause-here : goal.returns-clause-here
returns-clause-here g c =
    let job = g.J.Naming.job in
    let h = c.args.self.now in
    let t = c.args.time in
    let order = c.count_woken.ensures.hosted.order in
    rw (c.count_woken.ensures.keys, c.count_unwoken.ensures.keys) (waiting_counted h t order.records (in_order (table_of g.Q.Query.facts job) job h order t))

pub returns-clause-told : goal.returns-clause-told
returns-clause-told g c = λ log host legal.
    let laws = g.met.Q.Query g.world.𝓛 g.world.𝓜 g.world.𝓡 ((λ s x. x), (λ x. x), (λ x. x), λ x. x) in
    let job = g.J.Naming.job in
    let rules = job.values in
    let q = table_of g.Q.Query.facts job in
    let h = c.args.self.now in
    let t = c.args.time in
    let hosted = c.count_woken.ensures.hosted in
    let sound = outline_is_sound q (laws.has_stages rules) (laws.posts_are_later rules) (laws.later_stages_post_nothing rules) job hosted.legal in
    let here = waiting_counted h t hosted.order.records (in_order q job h hosted.order t) in
    rw (c.count_woken.ensures.keys, c.count_unwoken.ensures.keys) (here ∙ waiting_are_counted q job sound log h t hosted.order host legal hosted.stage)
