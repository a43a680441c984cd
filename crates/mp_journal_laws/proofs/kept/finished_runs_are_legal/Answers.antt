use Rattle.mp_journal_laws.proofs.Keeping.{merge_of_run}
use Rattle.mp_journal_laws.proofs.kept.finished_runs_are_legal.Goals as goal

pub returns : goal.returns
returns c = merge_of_run
