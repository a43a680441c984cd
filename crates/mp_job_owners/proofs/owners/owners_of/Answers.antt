use Rattle.std.proofs.Common.{◌≡◌, ◌∙◌, ◌<◌, ℕ, List, length, subst, sym, true}
use Rattle.std.specs.Prelude.{IfOk}
use Rattle.mp_names.specs.declared.controls.Control.{Control}
use Rattle.mp_bins.specs.Laws.{AreNotesOf}
use Rattle.mp_bins.specs.Notes.{IsShape, Layout, is_noted}
use Rattle.mp_outline.specs.JobOutline.{layout_of, outline_of}
use Rattle.mp_job_owners.specs.Told.{TellOwners}
use Rattle.mp_job.proofs.Legality.{shape_is_some}
use Rattle.mp_job_owners.proofs.Noted.{IfOk-three, owners_told}
use Rattle.mp_job_owners.proofs.owners.owners_of.Goals as goal
use Rattle.mp_model.specs.Tables.{table_of}

pub noted-requires-clause-shape : goal.noted-requires-clause-shape
noted-requires-clause-shape g c =
    let laws = g.met.Q.Query g.world.𝓛 g.world.𝓜 g.world.𝓡 ((λ s x. x), (λ x. x), (λ x. x), λ x. x) in
    let job = c.args.job.now in
    let q = table_of g.Q.Query.facts job in
    subst IsShape (sym c.shape.ensures.shape) (shape_is_some q job (laws.has_stages job.values) c.shape.ensures.legal)

pub returns-clause-layout : goal.returns-clause-layout
returns-clause-layout g c =
    let shaped : Layout = record { shape = c.shape.result; firsts = c.firsts.result.now } in
    let same : shaped ≡ layout_of c.args.job.now = cc (c.shape.ensures.shape, c.firsts.ensures) in
    subst (λ (l : Layout). IfOk c.noted.result (λ owners. owners.layout ≡ l)) same c.noted.ensures.layout

pub returns-clause-told : goal.returns-clause-told
returns-clause-told g c =
    let job = c.args.job.now in
    let q = table_of g.Q.Query.facts job in
    let controls = c.controls.result.now in
    let shaped : Layout = record { shape = c.shape.result; firsts = c.firsts.result.now } in
    let same : shaped ≡ layout_of job = cc (c.shape.ensures.shape, c.firsts.ensures) in
    IfOk-three
    c.noted.result
    (λ owners. owners.layout ≡ shaped)
    (λ owners. AreNotesOf controls owners)
    (λ owners. (i : ℕ) → i < length controls → is_noted owners.noted i ≡ true)
    (λ owners. TellOwners (outline_of q job) owners)
    (λ owners layout notes all.
    let listed = subst (λ (cs : List Control). AreNotesOf cs owners) c.controls.ensures notes in
    let noted = subst (λ (cs : List Control). (i : ℕ) → i < length cs → is_noted owners.noted i ≡ true) c.controls.ensures all in
    owners_told q job owners listed noted (layout ∙ same))
    c.noted.ensures.layout
    c.noted.ensures.notes
    c.noted.ensures.all
