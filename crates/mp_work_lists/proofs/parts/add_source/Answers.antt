use Rattle.std.proofs.Common.{arith}
use Rattle.mp_work_lists.specs.Parts.{times_at}
use Rattle.mp_work_lists.proofs.Joining.{source_all, source_none}
use Rattle.mp_work_lists.proofs.parts.add_source.Goals as goal

pub returns-then-stage-gt0 : goal.returns-then-stage-gt0
returns-then-stage-gt0 c = source_none c.args.stage (λ t. times_at t c.args.times.now) _ c.if-stage-gt0.true

pub returns : goal.returns
returns c = source_all c.args.stage c.args.times.now _ _ (let l = c.if-stage-gt0.false in omega arith) c.in_ok-add_times.ensures
