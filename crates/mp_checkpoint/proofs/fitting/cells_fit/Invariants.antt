-- The first of them stand, and ascend.
use Rattle.mp_opening.specs.Checkpoints.{KeyIsBefore}
use Rattle.mp_checkpoint_laws.specs.Files.{CellStands, format_of}
use Rattle.mp_checkpoint.proofs.Ascending.{FirstFit}
use Rattle.mp_checkpoint.proofs.fitting.cells_fit.Given as goal

abbrev pub invariant-loop-i : goal.invariant-loop-i
invariant-loop-i g l =
    let vs = g.Q.Query.values l.query in
    FirstFit (CellStands (format_of g.Q.Saved.NUMBER vs (g.Q.Query.facts vs) g.Q.Query.text_of) l.time) KeyIsBefore l.cells l.i
