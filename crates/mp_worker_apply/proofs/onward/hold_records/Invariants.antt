-- The records of the values that are left are still to be held.
use Rattle.std.proofs.Common.{◌≡◌, ◌+◌}
use Rattle.std.specs.Vec.Iter.{into_iter_items, into_iter_len}
use Rattle.mp_worker_apply.proofs.OneByOne.{RecordsLeft}
use Rattle.mp_worker_apply.proofs.onward.hold_records.Given as goal
use Rattle.mp_model.specs.Tables.{table_of}

abbrev pub invariant-loop-value : goal.invariant-loop-value
invariant-loop-value g l =
    let job = g.J.Naming.job in record {
      count : l.place + into_iter_len l.value-iterator ≡ into_iter_len l.initial.value-iterator;
      left : RecordsLeft (table_of g.Q.Query.facts job) job l.stage l.time l.group (into_iter_items l.initial.value-iterator) l.initial.router l.place (into_iter_items l.value-iterator) l.router;
    }
