use Rattle.std.proofs.Common.{◌∙◌, ap}
use Rattle.mp_work_lists.specs.Parts.{times_at}
use Rattle.mp_work_lists.proofs.Settling.{times_of_map}
use Rattle.mp_work_lists.proofs.times.times_of_controls.Goals as goal

pub returns : goal.returns
returns c = λ t. c.sort.ensures t ∙ ap (times_at t) c.in_ok-times.ensures ∙ times_of_map (λ c. c.time) t c.args.controls.now
