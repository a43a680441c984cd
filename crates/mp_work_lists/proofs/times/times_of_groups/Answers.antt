use Rattle.std.proofs.Common.{◌∙◌, ◌==◌, ap, sym}
use Rattle.mp_names.specs.declared.names.Name.{Name}
use Rattle.mp_outline_lists.specs.declared.moments.Moment.{Moment}
use Rattle.mp_outline_lists.specs.Moments.{group_at}
use Rattle.mp_outline_lists.proofs.Keys.{count_map}
use Rattle.mp_work_lists.specs.Parts.{time_in, times_at}
use Rattle.mp_work_lists.proofs.Settling.{times_of_map}
use Rattle.mp_work_lists.proofs.times.times_of_groups.Goals as goal

pub returns : goal.returns
returns c j t =
    ap (times_at t) c.in_ok-times.ensures
    ∙ times_of_map (λ (m : Moment). m.time) t c.args.moments.now
    ∙ sym (count_map (group_at j) (λ (x : Name). time_in x == t) c.args.moments.now)
