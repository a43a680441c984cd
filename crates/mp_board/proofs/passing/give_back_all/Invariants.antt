-- The counts of the locations at the places so far are given back.
use Rattle.mp_board.specs.Passing.{IsGivenBack}
use Rattle.mp_board.proofs.passing.give_back_all.Given as goal

abbrev pub invariant-loop-place : goal.invariant-loop-place
invariant-loop-place l = IsGivenBack l.seen l.place l.initial.counts l.counts
