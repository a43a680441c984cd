use Rattle.mp_job.proofs.Whole.{saved_fits}
use Rattle.mp_outline.proofs.Soundness.{outline_is_sound}
use Rattle.mp_host_laws.proofs.Applied.{groups_are_held, woken_are_told}
use Rattle.mp_host_laws.proofs.Whole.{first_is_whole}
use Rattle.mp_host_laws.proofs.laws.groups_are_held.Goals as goal
use Rattle.mp_model.specs.Tables.{table_of}

pub returns-clause-whole : goal.returns-clause-whole
returns-clause-whole g c = λ job legal.
    let laws = g.met.Q.Query g.world.𝓛 g.world.𝓜 g.world.𝓡 ((λ s x. x), (λ x. x), (λ x. x), λ x. x) in
    let q = table_of g.Q.Query.facts job in
    let nothing = laws.later_stages_post_nothing job.values in
    first_is_whole q nothing job (laws.sums_fit job legal.events (saved_fits g.Q.Query.facts job job.from legal.saved)) legal (outline_is_sound q (laws.has_stages job.values) (laws.posts_are_later job.values) nothing job legal)

pub returns-clause-held : goal.returns-clause-held
returns-clause-held g c = λ job legal.
    let laws = g.met.Q.Query g.world.𝓛 g.world.𝓜 g.world.𝓡 ((λ s x. x), (λ x. x), (λ x. x), λ x. x) in
    let q = table_of g.Q.Query.facts job in
    let nothing = laws.later_stages_post_nothing job.values in
    groups_are_held q nothing job (outline_is_sound q (laws.has_stages job.values) (laws.posts_are_later job.values) nothing job legal)

pub returns-clause-woken : goal.returns-clause-woken
returns-clause-woken g c = λ job legal.
    let laws = g.met.Q.Query g.world.𝓛 g.world.𝓜 g.world.𝓡 ((λ s x. x), (λ x. x), (λ x. x), λ x. x) in
    let q = table_of g.Q.Query.facts job in
    let nothing = laws.later_stages_post_nothing job.values in
    woken_are_told q nothing job (outline_is_sound q (laws.has_stages job.values) (laws.posts_are_later job.values) nothing job legal)
