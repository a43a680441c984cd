use Rattle.mp_outline.proofs.Soundness.{outline_is_sound}
use Rattle.mp_host_laws.proofs.Leaving.{bins_leave, leaving_bins_are_here}
use Rattle.mp_host_laws.proofs.MovingTold.{leaving_are_told}
use Rattle.mp_host_laws.proofs.Returned.{bins_return}
use Rattle.mp_host_laws.proofs.laws.bins_leave.Goals as goal
use Rattle.mp_model.specs.Tables.{table_of}

pub returns-clause-here : goal.returns-clause-here
returns-clause-here g c = λ job legal.
    let laws = g.met.Q.Query g.world.𝓛 g.world.𝓜 g.world.𝓡 ((λ s x. x), (λ x. x), (λ x. x), λ x. x) in
    let q = table_of g.Q.Query.facts job in
    leaving_bins_are_here q job (outline_is_sound q (laws.has_stages job.values) (laws.posts_are_later job.values) (laws.later_stages_post_nothing job.values) job legal)

pub returns-clause-left : goal.returns-clause-left
returns-clause-left g c = λ job legal.
    let laws = g.met.Q.Query g.world.𝓛 g.world.𝓜 g.world.𝓡 ((λ s x. x), (λ x. x), (λ x. x), λ x. x) in
    let q = table_of g.Q.Query.facts job in
    let nothing = laws.later_stages_post_nothing job.values in
    bins_leave q job (outline_is_sound q (laws.has_stages job.values) (laws.posts_are_later job.values) nothing job legal) nothing

pub returns-clause-told : goal.returns-clause-told
returns-clause-told g c = λ job legal.
    let laws = g.met.Q.Query g.world.𝓛 g.world.𝓜 g.world.𝓡 ((λ s x. x), (λ x. x), (λ x. x), λ x. x) in
    let q = table_of g.Q.Query.facts job in
    leaving_are_told q job (outline_is_sound q (laws.has_stages job.values) (laws.posts_are_later job.values) (laws.later_stages_post_nothing job.values) job legal)

pub returns-clause-returned : goal.returns-clause-returned
returns-clause-returned g c = λ job. bins_return (table_of g.Q.Query.facts job) job
