use Rattle.std.proofs.Common.{◌≡◌, ◌∙◌, ◌∷◌, [], ap, arith, drop, length, length-append, refl, rules, subst, suc, sym, true, ℕ}
use Rattle.std.specs.Prelude.{is_some}
use Rattle.std.specs.Vec.Iter.{into_iter_items}
use Rattle.std.proofs.lemmas.List.{length-map, nil_from_length}
use Rattle.mp_model.specs.Tables.{table_of}
use Rattle.mp_outline.specs.JobOutline.{outline_of}
use Rattle.mp_journal_laws.specs.Telling.{KeptTellFullLog}
use Rattle.mp_worker_refinement.specs.State.{WorkerState}
use Rattle.mp_threads_crew.proofs.Keeping.{each_of_map}
use Rattle.mp_threads_crew.proofs.Lists.{all_at, room_left, took_next}
use Rattle.mp_threads_crew.proofs.Tallied.{one_more_at}
use Rattle.mp_threads_crew.proofs.tallies.steps_of.Goals as goal

pub loop-worker-preserved : goal.loop-worker-preserved
loop-worker-preserved g c =
    let o = outline_of (table_of g.Q.Query.facts g.J.Naming.job) g.J.Naming.job in
    let i = c.loop-worker.invariant in
    let s = c.in-Some.ensures.steps.0 in
    let pushed = c.push_reserved.ensures in
    let n = length c.loop-worker.kept.items in
    let next = took_next n c.args.workers.items c.in-Some.worker _ (sym i.left ∙ s) in
    let longer = ap length pushed.items ∙ length-append c.loop-worker.kept.items (c.steps_in.result ∷ []) in
    let next_one : length c.push_reserved.new.self.items ≡ suc n = omega (arith, longer) in
    record {
      next = search rules;
      left = sym next.1 ∙ ap (λ (k : ℕ). drop k c.args.workers.items) (sym next_one);
      many = let taken = ap length s in omega (arith, longer, taken, i.many);
      room = room_left _ _ _ _ _ _ _ _ pushed.items s (let e = pushed.capacity in omega arith) i.room;
      told = one_more_at (λ w v. KeptTellFullLog o w v.items) _ c.loop-worker.kept.items c.steps_in.result n pushed.items refl i.told
          (subst (λ (w : ℕ). KeptTellFullLog o w c.steps_in.result.items) (c.requires.finished.finished.numbers n c.in-Some.worker next.0) c.steps_in.ensures);
    }

pub steps_in-requires-clause-finished : goal.steps_in-requires-clause-finished
steps_in-requires-clause-finished g c κs within =
    let i = c.loop-worker.invariant in
    let n = length c.loop-worker.kept.items in
    c.requires.finished.finished.each n c.in-Some.worker (took_next n c.args.workers.items c.in-Some.worker _ (sym i.left ∙ c.in-Some.ensures.steps.0)).0

pub steps_in-requires-clause-keeps : goal.steps_in-requires-clause-keeps
steps_in-requires-clause-keeps g c κs within =
    let i = c.loop-worker.invariant in
    let n = length c.loop-worker.kept.items in
    all_at (λ (s : WorkerState). is_some s.steps ≡ true) c.args.workers.items n c.in-Some.worker c.requires.finished.keep (took_next n c.args.workers.items c.in-Some.worker _ (sym i.left ∙ c.in-Some.ensures.steps.0)).0

pub returns : goal.returns
returns g c =
    let o = outline_of (table_of g.Q.Query.facts g.J.Naming.job) g.J.Naming.job in
    let i = c.loop-worker.invariant in
    let over = nil_from_length (into_iter_items c.loop-worker.worker-iterator) (sym c.loop-worker.worker-iterator.rest.ok.0 ∙ c.in-None.ensures.steps.0) in
    let none = ap length over in
    record {
      all = length-map c.loop-worker.kept.items (λ v. v.items) ∙ (let e = i.many in omega (arith, e, none)) ∙ c.requires.finished.finished.all;
      each = each_of_map (KeptTellFullLog o) (λ v. v.items) c.loop-worker.kept.items i.told;
    }
