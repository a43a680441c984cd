use Rattle.mp_journal_laws.proofs.Searches.{any_serves}
use Rattle.mp_journal_laws.proofs.merges.any_step_serves.Goals as goal

pub returns : goal.returns
returns c = any_serves
