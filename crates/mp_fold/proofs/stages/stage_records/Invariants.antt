-- The records are those of the stage that is reached.
use Rattle.std.proofs.Common.{◌≡◌}
use Rattle.mp_model.specs.Stages.{stage_records}
use Rattle.mp_fold.proofs.stages.stage_records.Given as goal

abbrev pub invariant-loop-before : goal.invariant-loop-before
invariant-loop-before g l =
    l.recs.items ≡ stage_records (g.Q.Query.facts (g.Q.Query.values l.query)) l.events l.before
