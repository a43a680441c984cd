use Rattle.std.proofs.Common.{◌≡◌, fold, take}
use Rattle.mp_q_window.specs.Best.{after_value, at_start}
use Rattle.mp_q_window.proofs.best.Best.apply.Given as goal

abbrev pub invariant-loop-rec : goal.invariant-loop-rec
invariant-loop-rec l = l.self ≡ fold (λ b r. after_value b r.value) (at_start l.fn.self l.group) (take l.rec-index l.rec-items)
