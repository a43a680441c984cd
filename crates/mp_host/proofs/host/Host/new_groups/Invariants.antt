-- The groups that the records so far begin are counted.
use Rattle.std.proofs.Common.{◌≡◌, ◌+◌, ◌≤◌, [], drop, take}
use Rattle.mp_host.specs.Receiving.{groups_begun}
use Rattle.mp_host.proofs.host.Host.new_groups.Given as goal

abbrev pub invariant-loop-at : goal.invariant-loop-at
invariant-loop-at g l = record {
  few : l.count ≤ l.at;
  whole : l.count + groups_begun l.self (take l.at l.recs) (drop l.at l.recs) ≡ groups_begun l.self [] l.recs;
}
