use Rattle.std.proofs.Common.{ℕ, sym, ap, ◌∙◌, subst}
use Rattle.mp_names.specs.declared.kinds.Kind.TheVariants.{SendControl, SendRow}
use Rattle.mp_player_laws.specs.Numbers.{StandsAt}
use Rattle.mp_chart.specs.Lists.{to_do}
use Rattle.mp_standing.specs.Numbers.{done_at}
use Rattle.mp_standing.proofs.Clear.{Tells, sees_settled}
use Rattle.mp_standing.proofs.conditions.has_seen_enough.Goals as goal

pub returns-in-SendControl : goal.returns-in-SendControl
returns-in-SendControl g c =
    let o = g.C.Chart.outline c.args.chart.now in
    let w = c.args.worker in
    let s = c.args.standing.now in
    let place = c.count-place.ensures ∙ ap (done_at s.done) c.in-SendControl.is in
    subst (Tells o w s c.args.entry c.may_send.result) (sym c.in-SendControl.is) (λ x of fits at entry stands some. c.may_send.ensures x of (subst (λ (n : ℕ). StandsAt (to_do o w SendControl) n x) (sym place) at) stands)

pub returns-in-Settle : goal.returns-in-Settle
returns-in-Settle g c =
    let o = g.C.Chart.outline c.args.chart.now in
    let w = c.args.worker in
    let s = c.args.standing.now in
    subst (Tells o w s c.args.entry c.sees_time.result) (sym c.in-Settle.is) (sees_settled o w s c.args.entry c.sees_time.result c.in-Settle.stage c.entry_at-packet.result c.count.result c.sees_time.ensures c.entry_at-packet.ensures.at c.count.ensures)

pub returns-in-SendRow : goal.returns-in-SendRow
returns-in-SendRow g c =
    let o = g.C.Chart.outline c.args.chart.now in
    let w = c.args.worker in
    let s = c.args.standing.now in
    let place = c.count-place.ensures ∙ ap (done_at s.done) c.in-SendRow.is in
    subst (Tells o w s c.args.entry c.has_row.result) (sym c.in-SendRow.is) (λ x of fits at entry stands some. c.has_row.ensures x of (subst (λ (n : ℕ). StandsAt (to_do o w SendRow) n x) (sym place) at) stands some)
