use Rattle.mp_journal_laws.proofs.Searches.{ends_alike}
use Rattle.mp_journal_laws.proofs.merges.merges_end_alike.Goals as goal

pub returns : goal.returns
returns c = λ o depth world left these those m n. ends_alike o depth these world left those m n
