use Rattle.mp_rows_laws.proofs.Settled.{settled, written}
use Rattle.mp_rows_laws.proofs.laws.times_are_counted.Goals as goal

pub returns-clause-settled : goal.returns-clause-settled
returns-clause-settled c = λ o w log j t h. settled o w log j t h

pub returns-clause-written : goal.returns-clause-written
returns-clause-written c = λ o w log t. written o w log t
