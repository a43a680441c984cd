use Rattle.std.proofs.Common.{◌∙◌, ◌++◌, ℕ, ap, arith, length, map, refl, sym, take}
use Rattle.std.proofs.lemmas.List.{length-map}
use Rattle.mp_audit.proofs.Lists.{list_at}
use Rattle.mp_audit.specs.Lists.{list_of}
use Rattle.mp_journal.specs.Written.{lines_of_steps}
use Rattle.mp_names.specs.Names.{joined_below}
use Rattle.mp_outside.specs.Sink.{grown}
use Rattle.mp_outside.proofs.SinkLemmas.{grown-grown, grown-nothing}
use Rattle.mp_output.proofs.Writing.{on_err}
use Rattle.mp_report.proofs.Prefixes.{joined_more, joined_within, part_taken}
use Rattle.mp_command.proofs.reporting.write_lists.Goals as goal

pub loop-worker-init : goal.loop-worker-init
loop-worker-init g c = record { wrote = sym (grown-nothing _); frame = refl; faults = omega arith }

pub returns-in_err-write_journal-clause-part : goal.returns-in_err-write_journal-clause-part
returns-in_err-write_journal-clause-part g c =
    let lists = map (λ v. v.items) c.args.lists.now in
    let f = λ (w : ℕ). lines_of_steps w (list_of lists w) in
    let n = c.loop-worker.worker in
    let k = c.in_err-write_journal.ensures.part.0 in
    let told = list_at (λ v. v.items) c.args.lists.now n c.index-lists-worker.result (omega arith) c.index-lists-worker.is in
    let here = rw (c.as_slice.ensures.value, sym told) at c.in_err-write_journal.ensures.part.1 in
    let less = length-map c.args.lists.now (λ v. v.items) in
    on_err c.from_residual.result
    (part_taken _ _ (joined_below n f ++ take k (f n)) (joined_below (length lists) f) (joined_within f n (length lists) k (omega (arith, less))) (here ∙ rw c.loop-worker.invariant.wrote (grown-grown _ _ _)))

pub loop-worker-preserved : goal.loop-worker-preserved
loop-worker-preserved g c =
    let lists = map (λ v. v.items) c.args.lists.now in
    let f = λ (w : ℕ). lines_of_steps w (list_of lists w) in
    let n = c.loop-worker.worker in
    let told = list_at (λ v. v.items) c.args.lists.now n c.index-lists-worker.result (omega arith) c.index-lists-worker.is in
    let here = rw (c.as_slice.ensures.value, sym told) at c.in_ok-write_journal.ensures.whole in record {
      wrote = here ∙ rw c.loop-worker.invariant.wrote (grown-grown _ _ _) ∙ ap (grown (g.S.Sink.written c.args.sink.now)) (sym (joined_more f n));
      frame = c.in_ok-write_journal.ensures.appends_only.same_frame ∙ c.loop-worker.invariant.frame;
      faults = omega (arith, c.loop-worker.invariant.faults, c.in_ok-write_journal.ensures.appends_only.faults_grow);
    }
