-- The wakes of the bins so far are added.
use Rattle.std.proofs.Common.{◌≡◌, ◌++◌, ℕ, List}
use Rattle.mp_model.specs.Tables.{table_of}
use Rattle.mp_rows.specs.Opening.{wake_entries}
use Rattle.mp_rows.proofs.Wakes.{Below}
use Rattle.mp_rows.proofs.waking.add_wakes.Given as goal

abbrev pub invariant-loop-bin : goal.invariant-loop-bin
invariant-loop-bin g l =
    (wakes : List (ℕ × ℕ)) × Below (table_of g.Q.Query.facts l.job) l.job l.worker l.bin wakes × (l.entries.items ≡ l.initial.entries.items ++ wake_entries wakes)
