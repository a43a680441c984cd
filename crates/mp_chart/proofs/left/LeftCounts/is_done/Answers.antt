use Rattle.std.proofs.Common.{◌≡◌, ◌↔◌, ap, subst}
use Rattle.mp_names.specs.Frontiers.{HasEnded}
use Rattle.mp_stamps.specs.Counts.{CountTable}
use Rattle.mp_chart.specs.Left.{Left}
use Rattle.mp_chart.proofs.Ending.{NothingLeft, ended_is_done}
use Rattle.mp_chart.proofs.left.LeftCounts.is_done.Goals as goal

pub returns : goal.returns
returns c =
    let counts = c.self.inside.counts in
    let f = c.frontier.result in
    let same : counts ≡ c.args.self.now.counts = ap (λ (v : Left). v.counts) c.self.view_is in
    let done = subst (λ (t : CountTable). HasEnded c.args.until f ↔ NothingLeft t c.args.until) same (ended_is_done counts c.self.invariant.1 c.args.until f c.frontier.ensures) in
    ((λ h. done.0 (c.has_ended.ensures.0 h)), (λ h. c.has_ended.ensures.1 (done.1 h)))
