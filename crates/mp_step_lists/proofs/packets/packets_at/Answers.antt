use Rattle.std.proofs.Common.{◌∙◌, ap, filter}
use Rattle.std.proofs.lemmas.Result.{IfOk-weaker}
use Rattle.mp_names.specs.Names.{is_packet}
use Rattle.mp_step_lists.proofs.Adding.{own_packets}
use Rattle.mp_step_lists.proofs.Fitting.{own_fit}
use Rattle.mp_step_lists.proofs.packets.packets_at.Goals as goal

pub parted-requires : goal.parted-requires
parted-requires g c =
    let o = g.L.OutlineLists.outline c.args.lists.now in
    own_fit o c.deref.result.now c.are_sound.ensures.sound c.args.stage (c.deref.ensures.value ∙ c.in_ok-own.ensures ∙ ap (filter (is_packet c.args.stage)) c.packets.ensures)

pub returns : goal.returns
returns g c =
    let o = g.L.OutlineLists.outline c.args.lists.now in
    let e = own_packets o c.args.stage c.deref.result.now (c.deref.ensures.value ∙ c.in_ok-own.ensures ∙ ap (filter (is_packet c.args.stage)) c.packets.ensures) in
    IfOk-weaker c.parted.result _ _ (λ x h. h ∙ e) c.parted.ensures
