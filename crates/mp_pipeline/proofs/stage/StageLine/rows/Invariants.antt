use Rattle.std.proofs.Common.{◌≡◌, take}
use Rattle.mp_pipeline.specs.Groups.{rows_of_records}
use Rattle.mp_pipeline.proofs.stage.StageLine.rows.Given as goal

abbrev pub invariant-loop-rec : goal.invariant-loop-rec
invariant-loop-rec l = l.rows.items ≡ rows_of_records l.self l.key (take l.rec-index l.recs)
