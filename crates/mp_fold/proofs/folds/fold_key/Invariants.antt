-- The outputs so far, with those of the groups that are left from the cell of now, are all; fewer times are left each time.
use Rattle.std.proofs.Common.{◌++◌, ◌+◌, length}
use Rattle.mp_model.specs.Folds.{entries_of, outputs_along}
use Rattle.mp_fold.proofs.Groups.{IsFolded}
use Rattle.mp_fold.proofs.folds.fold_key.Given as goal

abbrev pub invariant-loop-time : goal.invariant-loop-time
invariant-loop-time g l =
    let q = g.Q.Query.facts (g.Q.Query.values l.query) in
    IsFolded q l.stage l.key (l.initial.outputs.items ++ outputs_along q l.stage (q.opening l.stage l.key) (entries_of q l.stage l.key l.initial.recs)) l.outputs.items l.cell l.recs l.posts

abbrev pub decreases-loop-time : goal.decreases-loop-time
decreases-loop-time g l = length l.recs + length l.posts
