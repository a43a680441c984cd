use Rattle.mp_journal_laws.proofs.Told.{full_is_told}
use Rattle.mp_journal_laws.proofs.kept.full_logs_are_told.Goals as goal

pub returns : goal.returns
returns c = λ o w log kept ok inside legal full. full_is_told o ok w log legal full kept
