-- The pieces before this one are given back.
use Rattle.mp_stamps.specs.Rows.{GivesBack}
use Rattle.mp_stamps.proofs.row.give_back_between.Given as goal

abbrev pub invariant-loop-place : goal.invariant-loop-place
invariant-loop-place l = GivesBack l.from l.place l.initial.pieces.items l.pieces.items
