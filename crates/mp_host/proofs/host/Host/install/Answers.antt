use Rattle.mp_outline.proofs.Soundness.{outline_is_sound}
use Rattle.mp_host.proofs.Moved.{packet_fits}
use Rattle.mp_host.proofs.Told.{query_keeps, takes_packet}
use Rattle.mp_host.proofs.host.Host.install.Goals as goal
use Rattle.mp_model.specs.Tables.{table_of}

pub hold-requires-clause-fits : goal.hold-requires-clause-fits
hold-requires-clause-fits g c = λ κs b.
    let laws = g.met.Q.Query g.world.𝓛 g.world.𝓜 g.world.𝓡 ((λ s x. x), (λ x. x), (λ x. x), λ x. x) in
    let job = g.J.Naming.job in
    let rules = job.values in
    let q = table_of g.Q.Query.facts job in
    let h = c.self.invariant in
    let is = rw (← c.self.view_is) at c.requires.state in
    let sound = outline_is_sound q (laws.has_stages rules) (laws.posts_are_later rules) (laws.later_stages_post_nothing rules) job h.legal in
    rw (← c.self.view_is) (packet_fits q (laws.later_stages_post_nothing rules) job sound c.self.inside.stage c.args.bin c.args.time c.args.state is)

pub returns-clause-held : goal.returns-clause-held
returns-clause-held g c = λ log.
    let laws = g.met.Q.Query g.world.𝓛 g.world.𝓜 g.world.𝓡 ((λ s x. x), (λ x. x), (λ x. x), λ x. x) in
    let job = g.J.Naming.job in
    let rules = job.values in
    let is = rw (← c.self.view_is) at c.requires.state in
    let put = rw (← c.self.view_is) at c.hold.ensures in
    rw (← c.self.view_is)
    (takes_packet (table_of g.Q.Query.facts job) job (query_keeps g.Q.Query.facts job (laws.has_stages rules) (laws.posts_are_later rules) (laws.later_stages_post_nothing rules) laws.sums_fit) _ c.args.bin c.args.time c.args.state _ _ c.self.invariant is.1 put log)
