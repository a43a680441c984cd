-- Each entry is the earlier of the two below it but for the one that is next, and the wakes stay.
use Rattle.std.proofs.Common.{◌≡◌, drop}
use Rattle.mp_tournament.specs.Firsts.{IsTournamentBut}
use Rattle.mp_tournament.proofs.firsts.renew.Given as goal

abbrev pub invariant-loop-entry : goal.invariant-loop-entry
invariant-loop-entry l = record {
  order : IsTournamentBut l.entry l.count l.tree;
  wakes : drop l.count l.tree ≡ drop l.count l.initial.tree;
}

abbrev pub decreases-loop-entry : goal.decreases-loop-entry
decreases-loop-entry l = l.entry
