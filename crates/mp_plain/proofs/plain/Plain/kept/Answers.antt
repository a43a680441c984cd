use Rattle.std.proofs.Common.{◌≡◌, [], List, None, Option, Some, ap, length, refl, subst, sym, ◌∙◌}
use Rattle.std.specs.Prelude.{slice_get, unwrap_or}
use Rattle.std.proofs.lemmas.Bool.{ltb-false, ltb-true}
use Rattle.std.proofs.lemmas.Option.{slice_get_past, slice_get_read}
use Rattle.mp_model.specs.Tables.{table_of}
use Rattle.mp_outline.specs.JobOutline.{outline_of}
use Rattle.mp_worker_refinement.specs.State.{WorkerState}
use Rattle.mp_plain.specs.Driven.{AreReachedBy, Driven}
use Rattle.mp_plain.proofs.Journaled.{is_journal, steps_at}
use Rattle.mp_plain.proofs.plain.Plain.kept.Goals as goal

pub returns-in-Some-clause-run : goal.returns-in-Some-clause-run
returns-in-Some-clause-run g c =
    let o = outline_of (table_of g.Q.Query.facts g.J.Naming.job) g.J.Naming.job in
    let now = c.args.self.now in
    let w = c.args.worker in
    let all = c.deref.ensures.value ∙ ap (λ (u : Driven). u.state.workers) c.self.view_is in
    let lookup = c.in-Some.ensures.lookup in
    let here : slice_get c.deref.result.now w ≡ Some c.in-Some.worker.now = slice_get_read c.deref.result.now (length c.deref.result.now) w c.in-Some.worker.now refl (ltb-true w (length c.deref.result.now) (sym lookup.0)) lookup.1 in
    let there : slice_get now.state.workers w ≡ Some c.in-Some.worker.now = subst (λ (l : List WorkerState). slice_get l w ≡ Some c.in-Some.worker.now) all here in
    is_journal o now.state now.made (subst (λ (u : Driven). AreReachedBy o u.state u.made) c.self.view_is c.self.invariant.counted) w c.steps.result.now
    (c.steps.ensures ∙ sym (ap (λ (r : Option WorkerState). unwrap_or (steps_at r) []) there))

pub returns-in-None-clause-kept : goal.returns-in-None-clause-kept
returns-in-None-clause-kept g c =
    let w = c.args.worker in
    let all = c.deref.ensures.value ∙ ap (λ (u : Driven). u.state.workers) c.self.view_is in
    let none : slice_get c.args.self.now.state.workers w ≡ None = subst (λ (l : List WorkerState). slice_get l w ≡ None) all (slice_get_past c.deref.result.now w (ltb-false w (length c.deref.result.now) (sym c.in-None.ensures.lookup.0))) in
    sym (ap (λ (r : Option WorkerState). unwrap_or (steps_at r) []) none)

pub returns-in-None-clause-run : goal.returns-in-None-clause-run
returns-in-None-clause-run g c =
    let o = outline_of (table_of g.Q.Query.facts g.J.Naming.job) g.J.Naming.job in
    let now = c.args.self.now in
    is_journal o now.state now.made (subst (λ (u : Driven). AreReachedBy o u.state u.made) c.self.view_is c.self.invariant.counted) c.args.worker [] (returns-in-None-clause-kept g c)
