use Rattle.std.proofs.Common.{◌+◌, ◌∙◌, ℕ, List, ap, filter, get_or, not, subst, sym}
use Rattle.mp_host_laws.specs.declared.held.Held.{Held}
use Rattle.mp_host_laws.specs.Hosted.{wakes_in}
use Rattle.mp_host_laws.specs.Moving.{AreNumbersOf}
use Rattle.mp_host.specs.Hosts.{hosted_of}
use Rattle.mp_host.specs.Waiting.{waits_beside}
use Rattle.mp_host.proofs.Moved.{leaving_told, none_taken, not_none}
use Rattle.mp_host.proofs.host.Host.leaving.Goals as goal

pub returns-in_default-clause-told : goal.returns-in_default-clause-told
returns-in_default-clause-told g c =
    let place = rw c.from.ensures at c.place_before.ensures in
    rw (← c.self.view_is) (λ one new taken. absurd (none_taken c.args.bin c.args.time one _ new taken (sym place ∙ c.in_default.is)))

pub returns-clause-told : goal.returns-clause-told
returns-clause-told g c =
    let i = c.self.inside in
    let h = hosted_of i.stage i.worker i.records i.states in
    let at = c.in-Some.at in
    let place = rw c.from.ensures at (sym c.in-Some.ensures) in
    let told = rw (← c.self.view_is) at c.in_ok-count_waiting.ensures.told in
    let one = c.index-as_slice-at.result in
    let is = c.index-as_slice-at.is ∙ ap (λ (held : List (Held g.row.Q-Cell.Denot)). get_or held at one) c.as_slice.ensures in
    let wakes = ap wakes_in (c.one.view_is ∙ is) in
    let its = subst (λ (ws : List (ℕ × ℕ)). AreNumbersOf (filter (λ (w : ℕ × ℕ). not (waits_beside h at (at + 1) w.0 w.1)) ws) c.count_waiting.new.numbers.items) wakes told in
    rw (← c.self.view_is) (λ out new taken. leaving_told c.args.bin c.args.time h new at place out taken one c.count_waiting.new.numbers.items its)

pub returns-clause-none : goal.returns-clause-none
returns-clause-none g c =
    let i = c.self.inside in
    let h = hosted_of i.stage i.worker i.records i.states in
    let place = rw c.from.ensures at (sym c.in-Some.ensures) in
    rw (← c.self.view_is) (λ none. absurd (not_none c.args.bin c.args.time h c.in-Some.at c.index-as_slice-at.result place none))
