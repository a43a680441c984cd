use Rattle.std.proofs.Common.{◌≡◌, All, List, ap, length, map, subst, sym, ◌∙◌}
use Rattle.std.proofs.lemmas.List.{length-map}
use Rattle.mp_model.specs.Tables.{table_of}
use Rattle.mp_outline.specs.JobOutline.{outline_of}
use Rattle.mp_worker_refinement.specs.State.{WorkerState}
use Rattle.mp_plain.specs.Driven.{AreReachedBy, Driven}
use Rattle.mp_plain.specs.Journals.{HasMadeNone, all_keeping, keeping}
use Rattle.mp_plain.specs.Kept.{IsKept, together}
use Rattle.mp_plain.proofs.Begun.{keeping_counted, keeping_reached, none_made_yet}
use Rattle.mp_plain.proofs.Passing.{whole_front}
use Rattle.mp_plain.proofs.plain.Plain.keep_steps.Goals as goal

pub keep_all-requires-after_bounds : goal.keep_all-requires-after_bounds
keep_all-requires-after_bounds g c κs within =
    let o = outline_of (table_of g.Q.Query.facts g.J.Naming.job) g.J.Naming.job in
    let t = together c.self.inside.workers.items c.self.inside.board c.self.inside.post in
    let none : c.self.inside.made ≡ 0 = ap (λ (u : Driven). u.made) c.self.view_is ∙ c.requires.none_made in
    subst (All HasMadeNone) (sym c.as_mut_slice.ensures.value) (none_made_yet o t (subst (AreReachedBy o t) none c.self.invariant.counted))

pub invariant_of-self : goal.invariant_of-self
invariant_of-self g c =
    let job = g.J.Naming.job in
    let q = table_of g.Q.Query.facts job in
    let o = outline_of q job in
    let inside = c.self.inside in
    let kept = c.self.invariant in
    let t = together inside.workers.items inside.board inside.post in
    let none : inside.made ≡ 0 = ap (λ (u : Driven). u.made) c.self.view_is ∙ c.requires.none_made in
    let new : c.keep_all.new.workers ≡ map keeping inside.workers.items = c.keep_all.ensures ∙ ap (map keeping) c.as_mut_slice.ensures.value in
    let many = ap length new ∙ length-map inside.workers.items keeping ∙ sym (ap length c.as_mut_slice.ensures.value) ∙ c.as_mut_slice.ensures.len in
    let same = whole_front inside.workers.len c.keep_all.new.workers _ (sym many) ∙ new in
    subst (λ (workers : List WorkerState). IsKept q job inside.job.now (together workers inside.board inside.post) inside.made) (sym same)
    (record {
      run = kept.run;
      legal = kept.legal;
      reached = keeping_reached o t kept.reached;
      counted = subst (AreReachedBy o (all_keeping t)) (sym none) (keeping_counted o t (subst (AreReachedBy o t) none kept.counted));
      goes_on = kept.goes_on;
    })
