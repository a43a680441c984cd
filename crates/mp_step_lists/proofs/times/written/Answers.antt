use Rattle.std.proofs.Common.{◌∙◌, ℕ, ap, map}
use Rattle.std.proofs.lemmas.List.Filters.{dedup_is}
use Rattle.std.proofs.lemmas.Result.{IfOk-weaker}
use Rattle.mp_names.specs.declared.names.Name.TheVariants.{Written}
use Rattle.mp_step_lists.proofs.Adding.{written_once}
use Rattle.mp_step_lists.proofs.times.written.Goals as goal

pub returns : goal.returns
returns g c =
    let o = g.L.OutlineLists.outline c.args.lists.now in
    let once = written_once o c.in_ok-times.times.items c.sort_unstable.new.self.items c.dedup.new.self.items c.in_ok-times.ensures c.sort_unstable.ensures.permutation c.sort_unstable.ensures.sorted (dedup_is _ _ _ c.dedup.ensures.filtered) in
    IfOk-weaker c.written_at.result _ _ (λ names h. h ∙ ap (map (λ (t : ℕ). Written t)) c.deref.ensures.value ∙ once) c.written_at.ensures
