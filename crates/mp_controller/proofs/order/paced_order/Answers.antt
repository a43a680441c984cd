use Rattle.std.proofs.Common.{◌∙◌, true, ℕ, List, ap, map, subst, sym}
use Rattle.std.proofs.lemmas.List.{take_all}
use Rattle.mp_controller.specs.declared.order.Turn.{Turn}
use Rattle.mp_controller.specs.Controlling.{IsSendingOrder}
use Rattle.mp_controller.proofs.Sorted.{in_paced_order}
use Rattle.mp_controller.proofs.order.paced_order.Goals as goal

pub returns : goal.returns
returns c =
    let sorted = c.sort_unstable.new.self.items in
    let all = take_all c.loop-turn.turn-index c.deref-turn-items.result.now c.loop-turn-test.false ∙ c.deref-turn-items.ensures.value in
    let is = c.loop-turn.invariant ∙ ap (map (λ (t : Turn). t.index)) all in
    subst (λ (order : List ℕ). IsSendingOrder true c.args.controls.now order) (sym is) (in_paced_order c.args.controls.now c.in_ok-turns.turns.items sorted c.in_ok-turns.ensures c.sort_unstable.ensures.permutation c.sort_unstable.ensures.sorted)
