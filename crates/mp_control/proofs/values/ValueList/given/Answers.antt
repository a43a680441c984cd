use Rattle.std.proofs.Common.{◌∙◌}
use Rattle.mp_control.proofs.ValuesSaid.{by_none}
use Rattle.mp_control.proofs.values.ValueList.given.Goals as goal

pub returns : goal.returns
returns c = c.by.ensures ∙ by_none c.args.rules.now
