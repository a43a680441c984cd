use Rattle.mp_stamps.proofs.Paths.{table_is_paths}
use Rattle.mp_stamps.proofs.reaching.reaches.Goals as goal

pub returns-clause-paths : goal.returns-clause-paths
returns-clause-paths c = table_is_paths c.stands_in_table.result c.args.a c.args.b c.stands_in_table.ensures
