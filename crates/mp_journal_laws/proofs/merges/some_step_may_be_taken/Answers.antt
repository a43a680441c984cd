use Rattle.mp_journal_laws.proofs.Searches.{first_may, some_may}
use Rattle.mp_journal_laws.proofs.merges.some_step_may_be_taken.Goals as goal

pub returns-clause-first : goal.returns-clause-first
returns-clause-first c = first_may

pub returns-clause-some : goal.returns-clause-some
returns-clause-some c = some_may
