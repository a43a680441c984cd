use Rattle.mp_rows_laws.proofs.Sent.{record_sent}
use Rattle.mp_rows_laws.proofs.Took.{record_taken}
use Rattle.mp_rows_laws.proofs.laws.records_are_counted.Goals as goal

pub returns-clause-sent : goal.returns-clause-sent
returns-clause-sent c = λ o w log ok j t k g held. record_sent o w log ok j t k g held

pub returns-clause-taken : goal.returns-clause-taken
returns-clause-taken c = λ o w log ok good j t k g owed fresh waited known. record_taken o w log ok good j t k g owed fresh waited known
