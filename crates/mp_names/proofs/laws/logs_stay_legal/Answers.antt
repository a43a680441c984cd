use Rattle.mp_names.proofs.Keeps.{empty_is_legal, names_keep}
use Rattle.mp_names.proofs.laws.logs_stay_legal.Goals as goal

pub returns-clause-empty : goal.returns-clause-empty
returns-clause-empty c = empty_is_legal

pub returns-clause-next : goal.returns-clause-next
returns-clause-next c = λ o w log ok l good. names_keep o ok w l log good
