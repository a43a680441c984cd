-- One more of them stands behind the one before it.
use Rattle.std.proofs.Common.{◌+◌, ◌-◌, refl, arith}
use Rattle.mp_opening.specs.Checkpoints.{KeyIsBefore}
use Rattle.mp_checkpoint_laws.specs.Files.{CellStands, format_of}
use Rattle.mp_checkpoint.proofs.Ascending.{keys_rise, one_fits, at_place, pair_at}
use Rattle.mp_checkpoint.proofs.fitting.cells_fit.Goals as goal
use Rattle.mp_checkpoint.proofs.fitting.cells_fit.Goals.{else-i-gt0-via-then-i-gt0+else-not-is_cell_before, else-i-gt0-via-else-i-gt0}

pub loop-i-preserved : goal.loop-i-preserved
loop-i-preserved g c =
    let vs = g.Q.Query.values c.args.query.now in
    let P = CellStands (format_of g.Q.Saved.NUMBER vs (g.Q.Query.facts vs) g.Q.Query.text_of) c.args.time in
    let xs = c.args.cells.now in
    let i = c.loop-i.i in
    one_fits P KeyIsBefore xs keys_rise i (i + 1) refl c.loop-i.invariant
    (at_place xs P i c.index-cells-i.result (omega arith) c.index-cells-i.is (c.cell_stands.ensures.0 c.if-not-cell_stands.false))
    (elim c.else-i-gt0.branch [
      | else-i-gt0-via-then-i-gt0+else-not-is_cell_before w ↦ λ some. pair_at xs KeyIsBefore (i - 1) i w.index-cells-i-then-i-gt0.result w.index-cells-i-then-i-gt0-2.result (omega arith) (omega arith) w.index-cells-i-then-i-gt0.is w.index-cells-i-then-i-gt0-2.is (w.is_cell_before.ensures.0 w.if-not-is_cell_before.false)
      | else-i-gt0-via-else-i-gt0 w ↦ λ some. absurd (omega (arith, some, w.if-i-gt0.false))
    ])
