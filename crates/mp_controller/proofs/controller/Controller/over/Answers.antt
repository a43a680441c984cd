use Rattle.std.proofs.Common.{Bool, arith, refl, subst}
use Rattle.mp_controller.specs.Controlling.{IsSendingOrder}
use Rattle.mp_controller.proofs.Latest.{none_before}
use Rattle.mp_controller.proofs.controller.Controller.over.Goals as goal

pub invariant_of-result : goal.invariant_of-result
invariant_of-result c = record {
  order = c.requires.order;
  few = c.requires.few;
  place = omega arith;
  receiver = c.requires.workers;
  latest = λ paced left. none_before c.args.controls.now c.args.order.items (subst (λ (p : Bool). IsSendingOrder p c.args.controls.now c.args.order.items) paced c.requires.order) left;
  no_wait = λ e. refl;
}
