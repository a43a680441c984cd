-- What is counted and what the records that are left add to it make the whole.
use Rattle.std.proofs.Common.{◌≡◌, ◌+◌, ◌-◌, ◌≤◌, drop, length, option_map}
use Rattle.mp_host.specs.Waiting.{unwoken_after, unwoken_keys}
use Rattle.mp_host.proofs.host.Host.count_unwoken.Given as goal

abbrev pub invariant-loop-rec : goal.invariant-loop-rec
invariant-loop-rec g l = record {
  few : l.count ≤ l.at;
  inside : l.at ≤ length l.self.records;
  whole : l.count + length (unwoken_after l.self (l.time) (option_map (λ r. r.now) l.last) (drop l.at l.self.records)) ≡ length (unwoken_keys l.self l.time l.self.records);
}

abbrev pub decreases-loop-rec : goal.decreases-loop-rec
decreases-loop-rec g l = length l.self.records - l.at
