use Rattle.std.proofs.Common.{◌∙◌, sym}
use Rattle.mp_host.proofs.FirstRun.{run_passes}
use Rattle.mp_host.proofs.groups.count_first.Goals as goal

pub returns-then-is_in : goal.returns-then-is_in
returns-then-is_in c = sym (run_passes c.args.time c.args.key c.args.run.now c.in-Some.rec.now (sym c.in-Some.ensures.value) (sym c.is_in.ensures ∙ c.if-is_in.true) c.requires)
