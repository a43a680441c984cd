use Rattle.std.proofs.Common.{◌↔◌, ℕ, Contains, List, arith, get_or, subst}
use Rattle.std.proofs.lemmas.List.{get_or_default, take_all}
use Rattle.mp_postdated.specs.Wakes.{Has}
use Rattle.mp_host_steps.proofs.Left.{one_due}
use Rattle.mp_host_steps.proofs.wakes.wakes_of.Goals as goal

pub loop-time-preserved : goal.loop-time-preserved
loop-time-preserved c =
    let due = c.args.due.now in
    let i = c.loop-time.time-index in
    let w = get_or due i (0, 0) in
    record {
      same = one_due due i w.0 w.1 c.loop-time.wakes.wakes c.add.new.self.wakes c.loop-time-test.true (get_or_default due i w (0, 0) c.loop-time-test.true) c.loop-time.invariant.same c.in_ok-add.ensures.exact;
      ascending = c.add.ensures.ascending;
    }

pub returns-clause-same : goal.returns-clause-same
returns-clause-same c =
    let all = take_all c.loop-time.time-index c.args.due.now (omega (arith, c.loop-time-test.false)) in
    subst (λ (ws : List (ℕ × ℕ)). (u k : ℕ) → Has c.loop-time.wakes.wakes u k ↔ Contains ws (u, k)) all c.loop-time.invariant.same
