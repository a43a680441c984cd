-- The lines so far, with those of the rows that are left, are the answer.
use Rattle.std.proofs.Common.{◌≡◌, ◌++◌}
use Rattle.std.specs.List.{flat_map}
use Rattle.mp_model.specs.Answers.{line_of, one_thread_answer}
use Rattle.mp_fold.proofs.answer.answer_pieces.Given as goal

abbrev pub invariant-loop-place : goal.invariant-loop-place
invariant-loop-place g l =
    l.pieces ++ flat_map line_of l.place-iterator ≡ one_thread_answer (g.Q.Query.facts (g.Q.Query.values l.query)) l.events
