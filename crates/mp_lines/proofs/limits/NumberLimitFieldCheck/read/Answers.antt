use Rattle.std.proofs.Common.{sym}
use Rattle.mp_lines.proofs.LimitSteps.{is_read-low, not_read, past_limit, within_limit}
use Rattle.mp_lines.proofs.limits.NumberLimitFieldCheck.read.Goals as goal

pub admits-requires : goal.admits-requires
admits-requires c = is_read-low c.args.self c.args.field.now c.in-Ok.number (rw c.bound.ensures at c.in-Ok.ensures)

pub returns-in-Ok : goal.returns-in-Ok
returns-in-Ok c = within_limit _ _ _ (rw c.bound.ensures at c.in-Ok.ensures) (sym c.if-admits.ensures)

pub returns-in-Ok-2 : goal.returns-in-Ok-2
returns-in-Ok-2 c = past_limit _ _ _ (rw c.bound.ensures at c.in-Ok.ensures) (sym c.if-admits.ensures)

pub returns-in-Err : goal.returns-in-Err
returns-in-Err c = not_read _ _ _ (rw c.bound.ensures at c.in-Err.ensures)
