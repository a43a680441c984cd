use Rattle.mp_rows_laws.proofs.Bundles.{records_sent, records_taken}
use Rattle.mp_rows_laws.proofs.laws.bundles_are_counted.Goals as goal

pub returns-clause-sent : goal.returns-clause-sent
returns-clause-sent c = records_sent

pub returns-clause-taken : goal.returns-clause-taken
returns-clause-taken c = records_taken
