-- The outputs so far, with those of the records that are left, are all; fewer records are left each time.
use Rattle.std.proofs.Common.{length}
use Rattle.mp_model.specs.Folds.{stage_outputs}
use Rattle.mp_fold.proofs.Keys.{AreFolded}
use Rattle.mp_fold.proofs.stages.fold_keys.Given as goal

abbrev pub invariant-loop-first : goal.invariant-loop-first
invariant-loop-first g l =
    let q = g.Q.Query.facts (g.Q.Query.values l.query) in
    AreFolded q l.stage (stage_outputs q l.stage l.initial.recs) l.outputs.items l.recs

abbrev pub decreases-loop-first : goal.decreases-loop-first
decreases-loop-first g l = length l.recs
