use Rattle.mp_rows_laws.proofs.Applied.{applied}
use Rattle.mp_rows_laws.proofs.laws.applied_groups_are_counted.Goals as goal

pub returns : goal.returns
returns c = λ o w log ok good j t k woken waits once are. applied o w log ok good j t k woken waits once are
