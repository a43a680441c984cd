use Rattle.std.proofs.Common.{refl}
use Rattle.mp_host.proofs.Kept.{either_way, on_ok, received_still}
use Rattle.mp_host.proofs.Told.{query_keeps, takes_record}
use Rattle.mp_host.proofs.host.Host.keep.Goals as goal
use Rattle.mp_model.specs.Tables.{table_of}

pub invariant_of-self : goal.invariant_of-self
invariant_of-self g c =
    let h = c.self.invariant in
    let is = rw (← c.self.view_is) at c.requires in
    either_way c.insert.result _ _ _ c.insert.ensures.put c.insert.ensures.unchanged
    (λ put. received_still _ _ _ _ c.args.rec _ _ _ h is put)
    (λ same. rw same h)

pub returns-clause-held : goal.returns-clause-held
returns-clause-held g c =
    let laws = g.met.Q.Query g.world.𝓛 g.world.𝓜 g.world.𝓡 ((λ s x. x), (λ x. x), (λ x. x), λ x. x) in
    let job = g.J.Naming.job in
    let rules = job.values in
    let is = rw (← c.self.view_is) at c.requires in
    rw (← c.self.view_is)
    (on_ok c.insert.result _ _ c.insert.ensures.put
    (λ put. takes_record (table_of g.Q.Query.facts job) job (query_keeps g.Q.Query.facts job (laws.has_stages rules) (laws.posts_are_later rules) (laws.later_stages_post_nothing rules) laws.sums_fit) _ c.args.rec _ _ c.self.invariant is (record { stage = refl; worker = refl; records = put; held = refl })))
