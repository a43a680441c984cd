-- The records so far, with those of the outputs that are left, are all.
use Rattle.std.proofs.Common.{◌≡◌, ◌++◌}
use Rattle.std.specs.List.{filter_map}
use Rattle.std.specs.Vec.Iter.{into_iter_items}
use Rattle.mp_model.specs.Stages.{record_of_output}
use Rattle.mp_fold.proofs.records.output_records.Given as goal

abbrev pub invariant-loop-output : goal.invariant-loop-output
invariant-loop-output g l =
    let q = g.Q.Query.facts (g.Q.Query.values l.query) in
    l.recs.items ++ filter_map (record_of_output q l.stage) (into_iter_items l.output-iterator) ≡ filter_map (record_of_output q l.stage) (into_iter_items l.initial.output-iterator)
