-- The answer is that of all rows exactly where its rest is that of the rows that are left.
use Rattle.std.proofs.Common.{◌≡◌, ◌↔◌}
use Rattle.std.specs.List.{flat_map}
use Rattle.mp_model.specs.Answers.{in_order, line_of}
use Rattle.mp_job_lists.proofs.answer.is_answer.Given as goal

abbrev pub invariant-loop-place : goal.invariant-loop-place
invariant-loop-place l =
    (l.fn.answer ≡ flat_map line_of (in_order l.fn.rows.items)) ↔ (l.rest ≡ flat_map line_of l.place-iterator)
