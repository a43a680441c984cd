-- The index is the first of the places so far.
use Rattle.mp_stamps.specs.Counts.{IsFirstFor}
use Rattle.mp_stamps.proofs.counts.Counts.first_open.Given as goal

abbrev pub invariant-loop-place : goal.invariant-loop-place
invariant-loop-place l = IsFirstFor l.self l.loc l.place l.first
