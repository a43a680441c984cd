use Rattle.std.proofs.Common.{List, ◌<◌, subst, sym}
use Rattle.mp_chart.specs.declared.work.Work.{Work}
use Rattle.mp_chart.specs.Left.{work_at}
use Rattle.mp_work_lists.proofs.Joining.{all_work}
use Rattle.mp_work_lists.proofs.work_lists.WorkLists.of.Goals as goal

pub returns : goal.returns
returns g c =
    let o = g.L.OutlineLists.outline c.args.lists.now in
    all_work o c.are_sound.ensures.sound c.new-work.result.items c.add_job.new.works.items c.in_ok-times.times.items c.new-work.ensures.items c.in_ok-add_job.ensures c.in_ok-times.ensures.rising
    (λ a t l. c.in_ok-times.ensures.all a t (subst (λ (ws : List Work). 0 < work_at a t ws) (sym c.deref.ensures.value) l))
