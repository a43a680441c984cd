use Rattle.mp_journal_laws.proofs.Keeping.{kept_more}
use Rattle.mp_journal_laws.proofs.kept.kept_grow.Goals as goal

pub returns : goal.returns
returns c = kept_more
