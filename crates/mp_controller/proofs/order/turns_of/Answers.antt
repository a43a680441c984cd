use Rattle.std.proofs.Common.{◌∙◌, ◌++◌, ◌∷◌, [], List, ap, arith, sym}
use Rattle.std.proofs.lemmas.List.FromFn.{map-range_with_len_more}
use Rattle.mp_controller.specs.declared.order.Turn.{Turn}
use Rattle.mp_controller.specs.Turns.{turn_at}
use Rattle.mp_controller.proofs.order.turns_of.Goals as goal

pub loop-index-preserved : goal.loop-index-preserved
loop-index-preserved c =
    let turn = turn_at c.args.controls.now in
    let i = c.loop-index.index in
    c.in_ok-push.ensures.items ∙ ap (λ (ts : List Turn). ts ++ turn i ∷ []) c.loop-index.invariant ∙ sym (map-range_with_len_more turn 0 i i (omega arith))
