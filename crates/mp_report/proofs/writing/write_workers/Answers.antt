use Rattle.std.proofs.Common.{◌∙◌, ◌++◌, ℕ, ap, arith, length, refl, sym, take}
use Rattle.mp_names.specs.Names.{joined_below}
use Rattle.mp_outside.specs.Sink.{grown}
use Rattle.mp_outside.proofs.SinkLemmas.{grown-grown, grown-nothing}
use Rattle.mp_output.proofs.Writing.{on_err}
use Rattle.mp_report.specs.Lines.{line_of_worker}
use Rattle.mp_report.specs.Told.{groups_told}
use Rattle.mp_report.proofs.Prefixes.{joined_begins, joined_more, joined_within}
use Rattle.mp_report.proofs.Tallied.{groups_at}
use Rattle.mp_report.proofs.writing.write_workers.Goals as goal

pub loop-worker-init : goal.loop-worker-init
loop-worker-init g c = record {
  wrote = sym (grown-nothing _);
  frame = refl;
  no_fault = refl;
}

pub returns-in_err-line-clause-part : goal.returns-in_err-line-clause-part
returns-in_err-line-clause-part g c =
    let f = λ (w : ℕ). line_of_worker w (groups_told c.args.tallies.now w) in
    let n = c.loop-worker.worker in
    on_err c.from_residual.result (joined_below n f, joined_begins f n (length c.args.tallies.now) (omega arith), c.loop-worker.invariant.wrote)

pub returns-in_err-write_piece-clause-part : goal.returns-in_err-write_piece-clause-part
returns-in_err-write_piece-clause-part g c =
    let f = λ (w : ℕ). line_of_worker w (groups_told c.args.tallies.now w) in
    let n = c.loop-worker.worker in
    let k = c.in_err-write_piece.ensures.part.0 in
    let told = groups_at c.args.tallies.now n c.index-tallies-worker.result (omega arith) c.index-tallies-worker.is in
    let here = rw (c.as_slice.ensures.value, c.in_ok-line.ensures, told) at c.in_err-write_piece.ensures.part.2 in
    on_err c.from_residual-in_err-write_piece.result
    (joined_below n f ++ take k (f n), joined_within f n (length c.args.tallies.now) k (omega arith), here ∙ rw c.loop-worker.invariant.wrote (grown-grown _ _ _))

pub loop-worker-preserved : goal.loop-worker-preserved
loop-worker-preserved g c =
    let f = λ (w : ℕ). line_of_worker w (groups_told c.args.tallies.now w) in
    let n = c.loop-worker.worker in
    let told = groups_at c.args.tallies.now n c.index-tallies-worker.result (omega arith) c.index-tallies-worker.is in
    let here = rw (c.as_slice.ensures.value, c.in_ok-line.ensures, told) at c.in_ok-write_piece.ensures.whole in
    record {
      wrote = here ∙ rw c.loop-worker.invariant.wrote (grown-grown _ _ _) ∙ ap (grown (g.S.Sink.written c.args.sink.now)) (sym (joined_more f n));
      frame = c.in_ok-write_piece.ensures.appends_only.same_frame ∙ c.loop-worker.invariant.frame;
      no_fault = c.in_ok-write_piece.ensures.cause.served ∙ c.loop-worker.invariant.no_fault;
    }
