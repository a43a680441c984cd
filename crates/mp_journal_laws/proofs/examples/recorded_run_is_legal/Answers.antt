use Rattle.mp_journal_laws.proofs.Samples.{recorded_is_legal, too_early, other_version}
use Rattle.mp_journal_laws.proofs.examples.recorded_run_is_legal.Goals as goal

pub returns-clause-legal : goal.returns-clause-legal
returns-clause-legal c = recorded_is_legal

pub returns-clause-too_early : goal.returns-clause-too_early
returns-clause-too_early c = too_early

pub returns-clause-other_version : goal.returns-clause-other_version
returns-clause-other_version c = other_version
