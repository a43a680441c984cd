use Rattle.std.proofs.Common.{◌≤◌, ℕ, [], replicate, refl, ap, ◌∙◌, subst}
use Rattle.std.specs.Prelude.{All}
use Rattle.mp_names.specs.Limits.{most_stages}
use Rattle.mp_audit_player.specs.Starting.{IsAtStart}
use Rattle.mp_audit_player.proofs.Begun.{seen_shown, shows_start}
use Rattle.mp_audit_player.proofs.starting.start.Goals as goal

pub returns : goal.returns
returns g c = λ depth.
    let o = g.C.Chart.outline c.args.chart.now in
    let work = c.in_ok-left.ensures in
    let counts = c.in_ok-left.left.counts in
    let seen = c.seen.result in
    let stages = c.stages.result in
    let first = c.in_ok-standings.ensures in
    let few : o.stages ≤ most_stages = subst (λ (n : ℕ). n ≤ most_stages) c.stages.ensures.stages c.stages.ensures.few in
    let shown = seen_shown o counts c.in_ok-left.left.stages seen work.stages work.left c.seen.ensures.frontiers in
    let each = subst (λ (n : ℕ). All (IsAtStart n stages seen) c.in_ok-standings.standings.items) c.workers-workers.ensures first.each in
    let mail = c.in_ok-mail.ensures ∙ ap (λ (n : ℕ). replicate n (replicate n [])) c.workers-workers.ensures in
    shows_start o c.requires stages c.stages.ensures.stages few seen (c.seen.ensures.stages ∙ work.stages) c.seen.ensures.version shown depth _ (first.workers ∙ c.workers-workers.ensures) each mail work.stages work.left refl
