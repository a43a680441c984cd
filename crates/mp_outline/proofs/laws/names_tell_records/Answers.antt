use Rattle.std.proofs.Common.{◌-◌}
use Rattle.mp_model.specs.Stages.{answer_rows, stage_records}
use Rattle.mp_model.specs.Tables.{table_of}
use Rattle.mp_outline.specs.Laws.{OutputsInOrder, RecordsInOrder}
use Rattle.mp_outline.proofs.Outputs.{stage_outputs_in_order}
use Rattle.mp_outline.proofs.Pairs.{AllPairs-Pairs}
use Rattle.mp_outline.proofs.Records.{records_in_order, same_record}
use Rattle.mp_outline.proofs.Telling.{names_tell_inputs}
use Rattle.mp_outline.proofs.laws.names_tell_records.Goals as goal

pub returns-clause-inputs : goal.returns-clause-inputs
returns-clause-inputs g c = λ job legal.
    let laws = g.met.Q.Query g.world.𝓛 g.world.𝓜 g.world.𝓡 ((λ s x. x), (λ x. x), (λ x. x), λ x. x) in
    names_tell_inputs (table_of g.Q.Query.facts job) job (laws.has_stages job.values) legal

pub returns-clause-one : goal.returns-clause-one
returns-clause-one g c = λ job. same_record (table_of g.Q.Query.facts job) job.events

pub returns-clause-records_in_order : goal.returns-clause-records_in_order
returns-clause-records_in_order g c = λ job j.
    let q = table_of g.Q.Query.facts job in
    AllPairs-Pairs RecordsInOrder (stage_records q job.events j) (records_in_order q job.events j)

pub returns-clause-rows_in_order : goal.returns-clause-rows_in_order
returns-clause-rows_in_order g c = λ job.
    let q = table_of g.Q.Query.facts job in
    AllPairs-Pairs OutputsInOrder (answer_rows q job.events) (stage_outputs_in_order q (q.stages - 1) (stage_records q job.events (q.stages - 1)))
