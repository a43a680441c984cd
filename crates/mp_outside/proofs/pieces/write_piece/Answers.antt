use Rattle.std.proofs.Common.{arith, length-drop, refl, sym, ◌∙◌}
use Rattle.std.proofs.lemmas.List.{take_rest}
use Rattle.std.proofs.Math.Seq.{take-add}
use Rattle.mp_outside.proofs.SinkLemmas.{grown-grown, grown-nothing}
use Rattle.mp_outside.proofs.pieces.write_piece.Goals as goal

pub loop-at-init : goal.loop-at-init
loop-at-init g c = record {
  in_piece = omega arith;
  grew = sym (grown-nothing _);
  frame = refl;
  no_fault = refl;
}

pub loop-at-preserved : goal.loop-at-preserved
loop-at-preserved g c = record {
  in_piece = omega (arith, length-drop c.loop-at.at c.args.piece.now, c.in_ok-at.ensures.within);
  grew =
      let h = rw take_rest at c.in_ok-at.ensures.grew in
      rw take-add (h ∙ (rw c.loop-at.invariant.grew (grown-grown _ _ _)));
  frame = c.in_ok-at.ensures.appends_only.same_frame ∙ c.loop-at.invariant.frame;
  no_fault = c.in_ok-at.ensures.cause.served ∙ c.loop-at.invariant.no_fault;
}
