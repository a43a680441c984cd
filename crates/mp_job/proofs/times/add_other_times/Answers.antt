use Rattle.std.proofs.Common.{◌≡◌, ◌++◌, ◌∙◌, List, ℕ, rules, subst}
use Rattle.mp_model.specs.Ascending.{ascending}
use Rattle.mp_shares.specs.Times.{HoldSame, control_times}
use Rattle.mp_shares.proofs.Same.{ascending-same}
use Rattle.mp_job.specs.Times.{opening_times}
use Rattle.mp_job.proofs.times.add_other_times.Goals as goal

pub returns : goal.returns
returns g c =
    let all = c.add_wake_times.new.times.items in
    let wakes = opening_times c.args.opening.now in
    let in_order : c.shrink_to_fit.new.self.items ≡ ascending all = search rules in
    let added = subst (λ (ts : List ℕ). HoldSame all (ts ++ wakes)) c.in_ok-add_control_times.ensures c.in_ok-add_wake_times.ensures in
    in_order ∙ ascending-same all ((c.args.times.now.items ++ control_times c.args.controls.now) ++ wakes) added
