use Rattle.std.proofs.Common.{◌∙◌, ◌==◌, ap, List}
use Rattle.std.specs.Prelude.{filter, map}
use Rattle.std.proofs.lemmas.List.Filters.{dedup_is}
use Rattle.mp_names.specs.declared.controls.Control.{Control}
use Rattle.mp_work_lists.proofs.Settling.{count_settled}
use Rattle.mp_work_lists.proofs.times.times_to_settle.Goals as goal

pub returns : goal.returns
returns g c =
    let o = g.L.OutlineLists.outline c.args.lists.now in
    let j = c.args.stage in
    let are = c.in_ok-times.ensures ∙ ap (λ (cs : List Control). map (λ c. c.time) (filter (λ c. c.stage == j) cs)) c.controls.ensures.controls in
    count_settled o j c.in_ok-times.times.items c.sort_unstable.new.self.items c.dedup.new.self.items are c.sort_unstable.ensures.permutation c.sort_unstable.ensures.sorted (dedup_is _ _ _ c.dedup.ensures.filtered)
