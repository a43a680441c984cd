use Rattle.mp_bins.proofs.Placing.{noted_with}
use Rattle.mp_bins.proofs.Told.{one_more, told}
use Rattle.mp_bins.proofs.laws.owners_are_told_by_notes.Goals as goal

pub returns-clause-told : goal.returns-clause-told
returns-clause-told c = told

pub returns-clause-one_more : goal.returns-clause-one_more
returns-clause-one_more c = one_more

pub returns-clause-noted : goal.returns-clause-noted
returns-clause-noted c = noted_with
