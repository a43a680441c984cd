-- What the journal says is found with it.
use Rattle.std.proofs.Common.{map}
use Rattle.mp_command_files.specs.Refused.{outcome_of}
use Rattle.mp_command.proofs.Texts.{journal_given, journal_refused}
use Rattle.mp_audit_command.proofs.reading.journal_in.Goals as goal

pub returns-clause-journal : goal.returns-clause-journal
returns-clause-journal g c =
    let says = rw c.shape.ensures at c.steps_in.ensures.journal in journal_given _ _ c.args.flow.now (λ lists. map (λ v. v.items) lists.items) _ says

pub returns-clause-refused : goal.returns-clause-refused
returns-clause-refused g c =
    let refused = rw c.shape.ensures at c.steps_in.ensures.refused in journal_refused _ _ c.args.flow.now outcome_of _ refused
