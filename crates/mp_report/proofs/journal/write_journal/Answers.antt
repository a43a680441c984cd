use Rattle.std.proofs.Common.{◌∙◌, ◌++◌, ap, arith, get_or, refl, sym, take}
use Rattle.std.specs.List.{flat_map}
use Rattle.mp_journal.specs.Written.{line_of_step}
use Rattle.mp_outside.specs.Sink.{grown}
use Rattle.mp_outside.proofs.SinkLemmas.{grown-grown, grown-nothing}
use Rattle.mp_output.proofs.Writing.{on_err}
use Rattle.mp_report.proofs.Prefixes.{begins, begins_at, no_step, one_at, part_taken}
use Rattle.mp_report.proofs.journal.write_journal.Goals as goal

pub loop-step-init : goal.loop-step-init
loop-step-init g c = record { wrote = sym (grown-nothing _); frame = refl; no_fault = refl }

pub returns-in_err-write_step-clause-part : goal.returns-in_err-write_step-clause-part
returns-in_err-write_step-clause-part g c =
    let f = line_of_step c.args.worker in
    let steps = c.args.steps.now in
    let n = c.loop-step.step-index in
    on_err c.from_residual.result (part_taken _ _ (flat_map f (take n steps)) (flat_map f steps) (begins f steps n) c.loop-step.invariant.wrote)

pub returns-in_err-write_piece-clause-part : goal.returns-in_err-write_piece-clause-part
returns-in_err-write_piece-clause-part g c =
    let f = line_of_step c.args.worker in
    let steps = c.args.steps.now in
    let n = c.loop-step.step-index in
    let k = c.in_err-write_piece.ensures.part.0 in
    let here = rw (c.as_slice.ensures.value, c.in_ok-write_step.ensures, c.clear.ensures.items) at c.in_err-write_piece.ensures.part.2 in
    on_err c.from_residual-in_err-write_piece.result
    (part_taken _ _ (flat_map f (take n steps) ++ take k (f (get_or steps n no_step))) (flat_map f steps) (begins_at f steps n k no_step (omega arith)) (here ∙ rw c.loop-step.invariant.wrote (grown-grown _ _ _)))

pub loop-step-preserved : goal.loop-step-preserved
loop-step-preserved g c =
    let f = line_of_step c.args.worker in
    let steps = c.args.steps.now in
    let n = c.loop-step.step-index in
    let here = rw (c.as_slice.ensures.value, c.in_ok-write_step.ensures, c.clear.ensures.items) at c.in_ok-write_piece.ensures.whole in record {
      wrote = here ∙ rw c.loop-step.invariant.wrote (grown-grown _ _ _) ∙ ap (grown (g.S.Sink.written c.args.sink.now)) (sym (one_at f steps n no_step (omega arith)));
      frame = c.in_ok-write_piece.ensures.appends_only.same_frame ∙ c.loop-step.invariant.frame;
      no_fault = c.in_ok-write_piece.ensures.cause.served ∙ c.loop-step.invariant.no_fault;
    }
