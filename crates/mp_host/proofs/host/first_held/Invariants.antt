-- The bins so far whose first owner the worker is are listed, each with what it begins with.
use Rattle.mp_model.specs.Tables.{table_of}
use Rattle.mp_host.specs.Hosts.{AreAtFirst}
use Rattle.mp_host.proofs.Kept.{bins_below}
use Rattle.mp_host.proofs.host.first_held.Given as goal

abbrev pub invariant-loop-bin : goal.invariant-loop-bin
invariant-loop-bin g l = AreAtFirst (table_of g.Q.Query.facts l.job) l.job l.stage (bins_below l.job l.stage l.worker l.bin) l.held.items
