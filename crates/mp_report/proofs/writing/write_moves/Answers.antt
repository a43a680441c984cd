use Rattle.std.proofs.Common.{◌∙◌, ◌++◌, ap, arith, get_or, refl, sym, take}
use Rattle.std.specs.List.{flat_map}
use Rattle.mp_names.specs.declared.controls.Move.{Move}
use Rattle.mp_outside.specs.Sink.{grown}
use Rattle.mp_outside.proofs.SinkLemmas.{grown-grown, grown-nothing}
use Rattle.mp_output.proofs.Writing.{on_err}
use Rattle.mp_report.specs.Lines.{line_of_move}
use Rattle.mp_report.specs.Told.{keys_in}
use Rattle.mp_report.proofs.Prefixes.{begins, begins_at, no_move, one_at}
use Rattle.mp_report.proofs.writing.write_moves.Goals as goal

pub loop-change-init : goal.loop-change-init
loop-change-init g c = record {
  wrote = sym (grown-nothing _);
  frame = refl;
  no_fault = refl;
}

pub returns-in_err-line-clause-part : goal.returns-in_err-line-clause-part
returns-in_err-line-clause-part g c =
    let f = λ (m : Move). line_of_move m (keys_in c.args.packets.now m) in
    let moves = c.args.moves.now in
    let n = c.loop-change.change-index in
    on_err c.from_residual.result (flat_map f (take n moves), begins f moves n, c.loop-change.invariant.wrote)

pub returns-in_err-write_piece-clause-part : goal.returns-in_err-write_piece-clause-part
returns-in_err-write_piece-clause-part g c =
    let f = λ (m : Move). line_of_move m (keys_in c.args.packets.now m) in
    let moves = c.args.moves.now in
    let n = c.loop-change.change-index in
    let k = c.in_err-write_piece.ensures.part.0 in
    let m = get_or moves n no_move in
    let here = rw (c.as_slice.ensures.value, c.in_ok-line.ensures, c.keys_in.ensures) at c.in_err-write_piece.ensures.part.2 in
    on_err c.from_residual-in_err-write_piece.result
    (flat_map f (take n moves) ++ take k (f m), begins_at f moves n k no_move (omega arith), here ∙ rw c.loop-change.invariant.wrote (grown-grown _ _ _))

pub loop-change-preserved : goal.loop-change-preserved
loop-change-preserved g c =
    let f = λ (m : Move). line_of_move m (keys_in c.args.packets.now m) in
    let moves = c.args.moves.now in
    let n = c.loop-change.change-index in
    let here = rw (c.as_slice.ensures.value, c.in_ok-line.ensures, c.keys_in.ensures) at c.in_ok-write_piece.ensures.whole in
    record {
      wrote = here ∙ rw c.loop-change.invariant.wrote (grown-grown _ _ _) ∙ ap (grown (g.S.Sink.written c.args.sink.now)) (sym (one_at f moves n no_move (omega arith)));
      frame = c.in_ok-write_piece.ensures.appends_only.same_frame ∙ c.loop-change.invariant.frame;
      no_fault = c.in_ok-write_piece.ensures.cause.served ∙ c.loop-change.invariant.no_fault;
    }
