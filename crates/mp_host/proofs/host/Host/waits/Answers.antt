use Rattle.std.proofs.Common.{◌≡◌, ◌∙◌, rules}
use Rattle.mp_outline.proofs.Soundness.{outline_is_sound}
use Rattle.mp_host_laws.specs.Hosted.{waits_at}
use Rattle.mp_host_laws.proofs.Waiting.{waits_is_pending}
use Rattle.mp_host.proofs.host.Host.waits.Goals as goal
use Rattle.mp_model.specs.Tables.{table_of}

pub returns-then-has_record-clause-told : goal.returns-then-has_record-clause-told
returns-then-has_record-clause-told g c = λ log host legal.
    let laws = g.met.Q.Query g.world.𝓛 g.world.𝓜 g.world.𝓡 ((λ s x. x), (λ x. x), (λ x. x), λ x. x) in
    let job = g.J.Naming.job in
    let q = table_of g.Q.Query.facts job in
    let sound = outline_is_sound q (laws.has_stages job.values) (laws.posts_are_later job.values) (laws.later_stages_post_nothing job.values) job c.has_record.ensures.hosted.legal in
    let here : c.has_record.result ≡ waits_at c.args.self.now c.args.time c.args.key = search rules in
    here ∙ waits_is_pending q job sound log c.args.self.now c.has_record.ensures.hosted.stage host legal c.has_record.ensures.hosted.order c.args.time c.args.key

pub returns-else-has_record-clause-told : goal.returns-else-has_record-clause-told
returns-else-has_record-clause-told g c = λ log host legal.
    let laws = g.met.Q.Query g.world.𝓛 g.world.𝓜 g.world.𝓡 ((λ s x. x), (λ x. x), (λ x. x), λ x. x) in
    let job = g.J.Naming.job in
    let q = table_of g.Q.Query.facts job in
    let sound = outline_is_sound q (laws.has_stages job.values) (laws.posts_are_later job.values) (laws.later_stages_post_nothing job.values) job c.has_record.ensures.hosted.legal in
    let here : c.is_woken.result ≡ waits_at c.args.self.now c.args.time c.args.key = search rules in
    here ∙ waits_is_pending q job sound log c.args.self.now c.has_record.ensures.hosted.stage host legal c.has_record.ensures.hosted.order c.args.time c.args.key
