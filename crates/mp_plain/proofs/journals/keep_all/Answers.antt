use Rattle.std.proofs.Common.{◌≡◌, ◌+◌, Some, ap, arith, length, refl, set, sym, ◌∙◌, List}
use Rattle.std.specs.Prelude.{slice_get}
use Rattle.std.proofs.lemmas.Option.{slice_get_read}
use Rattle.mp_worker_refinement.specs.State.{WorkerState}
use Rattle.mp_plain.specs.Journals.{keeping}
use Rattle.mp_plain.proofs.Passing.{changed_at, changed_below, changed_next}
use Rattle.mp_plain.proofs.journals.keep_all.Goals as goal

pub loop-worker-preserved : goal.loop-worker-preserved
loop-worker-preserved g c =
    let i = c.loop-worker.worker-index in
    let first = c.args.workers.now in
    let s = c.worker-item.result in
    let before = c.loop-worker.invariant in
    let here : slice_get c.loop-worker.workers i ≡ Some s = slice_get_read c.loop-worker.workers (length c.loop-worker.workers) i s refl (omega (arith, c.loop-worker-test.true, c.loop-worker.auto.workers)) c.worker-item.is in
    let there : slice_get first i ≡ Some s = sym (changed_at keeping i first) ∙ sym (ap (λ (l : List WorkerState). slice_get l i) before) ∙ here in
    ap (λ (l : List WorkerState). set l i c.keep_steps.new.self) before
    ∙ ap (set (changed_below keeping i first) i) (c.keep_steps.ensures ∙ ap keeping (sym c.worker-item.is))
    ∙ changed_next keeping i (i + 1) first s refl there
