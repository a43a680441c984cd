-- What is made of a job is that of its run.
use Rattle.std.proofs.Common.{◌≡◌, ◌∙◌, true, false, refl, rules, sym}
use Rattle.std.proofs.lemmas.Bool.{false≢true}
use Rattle.mp_job.proofs.Runs.{run_is_legal}
use Rattle.mp_job_lists.proofs.Making.{listed, run_answer}
use Rattle.mp_job_lists.proofs.lists.JobLists.of.Goals as goal

pub returns-then-not-branch : goal.returns-then-not-branch
returns-then-not-branch g c =
    let laws = g.met.Q.Query g.world.𝓛 g.world.𝓜 g.world.𝓡 ((λ s x. x), (λ x. x), (λ x. x), λ x. x) in
    let its = c.args.job.now in
    let job = g.J.Naming.job in
    let fresh = laws.begins_fresh its.values in
    let folded = c.in_ok-folded.folded in
    let fold = rw (c.query.ensures, c.events.ensures) at c.in_ok-folded.ensures in
    let same = run_answer g.Q.Query.facts c.tables_keep_laws.ensures.whole its job c.requires.job c.shape-shape.ensures.legal c.requires.whole fresh folded fold in
    let other : c.in_ok-is_answer.field-0 ≡ false = search rules in
    ((λ t. absurd (false≢true t)), (λ e. sym other ∙ c.in_ok-is_answer.ensures.1 (e ∙ sym same)))

pub returns : goal.returns
returns g c =
    let laws = g.met.Q.Query g.world.𝓛 g.world.𝓜 g.world.𝓡 ((λ s x. x), (λ x. x), (λ x. x), λ x. x) in
    let its = c.args.job.now in
    let job = g.J.Naming.job in
    let fresh = laws.begins_fresh its.values in
    let folded = c.in_ok-folded.folded in
    let fold = rw (c.query.ensures, c.events.ensures) at c.in_ok-folded.ensures in
    let same = run_answer g.Q.Query.facts c.tables_keep_laws.ensures.whole its job c.requires.job c.shape-shape.ensures.legal c.requires.whole fresh folded fold in
    let this : c.in_ok-is_answer.field-0 ≡ true = search rules in
    ((λ t. c.in_ok-is_answer.ensures.0 this ∙ same), (λ e. refl))

pub invariant_of-result : goal.invariant_of-result
invariant_of-result g c =
    let laws = g.met.Q.Query g.world.𝓛 g.world.𝓜 g.world.𝓡 ((λ s x. x), (λ x. x), (λ x. x), λ x. x) in
    let its = c.args.job.now in
    let job = g.J.Naming.job in
    let fresh = laws.begins_fresh its.values in
    let folded = c.in_ok-folded.folded in
    let fold = rw (c.query.ensures, c.events.ensures) at c.in_ok-folded.ensures in
    let legal = run_is_legal its job c.requires.job g.Q.Query.facts c.shape-shape.ensures.legal in
    let named = rw c.as_slice.ensures.value at c.in_ok-rows.ensures in
    let moved = rw (c.as_slice-2.ensures.value, c.in_ok-moves.ensures) at c.in_ok-packets.ensures in
    listed g.Q.Query.facts c.tables_keep_laws.ensures.whole its job c.requires.job c.shape-shape.ensures.legal c.requires.whole fresh (c.tables_keep_laws.ensures.laws job).stages (c.outlines_are_sound.ensures job legal) c.shape-shape.result c.shape-shape.ensures.shape c.controls.result.now c.controls.ensures c.args.paced c.requires.pace folded fold c.in_ok-rows.rows.items named c.in_ok-owners.owners c.in_ok-owners.ensures.layout c.in_ok-owners.ensures.told c.in_ok-packets.packets.items moved
