use Rattle.std.proofs.Common.{◌<◌, ℕ, subst}
use Rattle.std.specs.Prelude.{IsTrue, ◌↔◌}
use Rattle.mp_names.specs.declared.locations.Loc.TheVariants.{Host}
use Rattle.mp_names.specs.Frontiers.{HasPassed}
use Rattle.mp_stamps.specs.Seen.{seen_at}
use Rattle.mp_standing.proofs.Clear.{sees_pace}
use Rattle.mp_standing.proofs.conditions.may_send.Goals as goal

pub returns-in-Some : goal.returns-in-Some
returns-in-Some g c = λ x of at stands.
    let s = c.args.standing.now in
    let told = subst (λ (n : ℕ). IsTrue c.hosts_passed.result ↔ ((j : ℕ) → j < n → HasPassed (seen_at s.seen (Host j)) c.in-Some.time)) c.stages.ensures.stages c.hosts_passed.ensures in
    sees_pace (g.C.Chart.outline c.args.chart.now) c.args.worker s c.hosts_passed.result x of c.in-Some.time c.pace.result c.in-Some.is (c.pace.ensures x at) stands told
