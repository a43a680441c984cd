use Rattle.mp_names.proofs.Reach.{table_from_path, path_from_table}
use Rattle.mp_names.proofs.laws.locations_reach_along_paths.Goals as goal

pub returns : goal.returns
returns c = λ a b. (path_from_table a b, table_from_path a b)
