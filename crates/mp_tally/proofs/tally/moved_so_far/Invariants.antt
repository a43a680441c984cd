-- The packets of the movers so far.
use Rattle.std.proofs.Common.{◌≡◌, All, take}
use Rattle.mp_model.specs.Tables.{table_of}
use Rattle.mp_tally.specs.Tallies.{MovedHasKeys, moved_by}
use Rattle.mp_tally.proofs.tally.moved_so_far.Given as goal

abbrev pub invariant-loop-one : goal.invariant-loop-one
invariant-loop-one g l = record {
  moved : l.moved.items ≡ moved_by (take l.one-index l.movers);
  keys : All (MovedHasKeys (table_of g.Q.Query.facts g.J.Naming.job) g.J.Naming.job) l.moved.items;
}
