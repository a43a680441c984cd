use Rattle.std.proofs.Common.{◌≡◌, take}
use Rattle.mp_pipeline.specs.Groups.{with_records}
use Rattle.mp_pipeline.proofs.stage.StageLine.with_records.Given as goal

abbrev pub invariant-loop-rec : goal.invariant-loop-rec
invariant-loop-rec l = l.cell ≡ with_records l.self l.fn.start (take l.rec-index l.recs)
