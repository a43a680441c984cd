use Rattle.std.proofs.Common.{◌∙◌, ap}
use Rattle.mp_work_lists.specs.Parts.{time_in, times_at}
use Rattle.mp_work_lists.proofs.Settling.{times_of_map}
use Rattle.mp_work_lists.proofs.times.times_of_names.Goals as goal

pub returns : goal.returns
returns c = λ t. c.sort.ensures t ∙ ap (times_at t) c.in_ok-times.ensures ∙ times_of_map time_in t c.args.names.now
