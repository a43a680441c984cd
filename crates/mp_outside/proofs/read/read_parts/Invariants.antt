use Rattle.std.proofs.Common.{◌≡◌, ◌≤◌, ◌+◌, ◌-◌, take, vec_len}
use Rattle.mp_outside.specs.Files.{IsThere, IsThereWith}
use Rattle.mp_outside.proofs.read.read_parts.Given as goal

abbrev pub invariant-loop-bytes : goal.invariant-loop-bytes
invariant-loop-bytes g l = record {
  so_far : IsThereWith (g.D.Depot.files l.depot) l.name (λ file. l.bytes.items ≡ take (vec_len l.bytes) file);
  there : IsThere (g.D.Depot.files l.depot) l.name;
  within : vec_len l.bytes ≤ l.most + 1;
  files : g.D.Depot.files l.depot ≡ g.D.Depot.files l.fn.depot;
  no_fault : g.D.Depot.read_faults l.depot ≡ g.D.Depot.read_faults l.fn.depot;
  writes : g.D.Depot.write_faults l.depot ≡ g.D.Depot.write_faults l.fn.depot;
}

abbrev pub decreases-loop-bytes : goal.decreases-loop-bytes
decreases-loop-bytes g l = l.most + 1 - vec_len l.bytes
