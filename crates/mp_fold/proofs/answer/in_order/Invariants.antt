-- The rows so far, with those that are left put at their places, are all.
use Rattle.std.proofs.Common.{◌≡◌, fold}
use Rattle.std.specs.Vec.Iter.{into_iter_items}
use Rattle.mp_model.specs.Answers.{in_order, with_row}
use Rattle.mp_fold.proofs.answer.in_order.Given as goal

abbrev pub invariant-loop-output : goal.invariant-loop-output
invariant-loop-output l =
    fold with_row l.rows.entries (into_iter_items l.output-iterator) ≡ in_order (into_iter_items l.initial.output-iterator)
