-- The names of the stages so far are there, and the records of the next one.
use Rattle.std.proofs.Common.{◌≡◌, map}
use Rattle.mp_model.specs.Stages.{stage_records}
use Rattle.mp_job_lists.specs.Folded.{names_below}
use Rattle.mp_job_lists.proofs.fold.fold.Given as goal

abbrev pub invariant-loop-stage : goal.invariant-loop-stage
invariant-loop-stage g l =
    let q = g.Q.Query.facts (g.Q.Query.values l.query) in record {
      names : map (λ names. names.items) l.records.items ≡ names_below q l.events l.stage;
      recs : l.recs.items ≡ stage_records q l.events l.stage;
    }
