-- So many of the values so far have a key.
use Rattle.std.proofs.Common.{◌≡◌, count_by, is_some, take}
use Rattle.mp_model.specs.Tables.{table_of}
use Rattle.mp_worker_apply.proofs.onward.count_onward.Given as goal

abbrev pub invariant-loop-value : goal.invariant-loop-value
invariant-loop-value g l = l.count ≡ count_by (λ v. is_some ((table_of g.Q.Query.facts g.J.Naming.job).key l.stage l.time v)) (take l.value-index l.outputs)
