-- The records so far, with those of the events that are left, are all.
use Rattle.std.proofs.Common.{◌≡◌, ◌++◌, drop}
use Rattle.std.specs.List.{enumerate_from, filter_map}
use Rattle.mp_model.specs.Stages.{input_records, record_of}
use Rattle.mp_fold.proofs.records.input_records.Given as goal

abbrev pub invariant-loop-index : goal.invariant-loop-index
invariant-loop-index g l =
    let q = g.Q.Query.facts (g.Q.Query.values l.query) in
    l.recs.items ++ filter_map (λ p. record_of q p.0 p.1) (enumerate_from l.index (drop l.index l.events)) ≡ input_records q l.events
