-- The outputs so far, with those of the values that are left, are all.
use Rattle.std.proofs.Common.{◌≡◌, ◌++◌, ◌+◌}
use Rattle.std.specs.Vec.Iter.{into_iter_items, into_iter_len}
use Rattle.mp_fold.proofs.Outputs.{outputs_from}
use Rattle.mp_fold.proofs.folds.push_outputs.Given as goal

abbrev pub invariant-loop-value : goal.invariant-loop-value
invariant-loop-value l = record {
  so_far : l.outputs.items ++ outputs_from l.time l.key l.place (into_iter_items l.value-iterator) ≡ l.initial.outputs.items ++ outputs_from l.time l.key 0 (into_iter_items l.initial.value-iterator);
  count : l.place + into_iter_len l.value-iterator ≡ into_iter_len l.initial.value-iterator;
}
