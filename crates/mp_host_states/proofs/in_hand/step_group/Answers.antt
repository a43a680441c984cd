use Rattle.std.proofs.Common.{◌≡◌, ◌∙◌, ap, get_or, subst, sym, false, true}
use Rattle.std.proofs.Math.Seq.{map-set_same}
use Rattle.std.proofs.lemmas.List.Elements.{All-get_or}
use Rattle.mp_postdated.specs.Wakes.{Has}
use Rattle.mp_host_laws.specs.Hosted.{wakes_in}
use Rattle.mp_host_places.specs.Spans.{AreSpans}
use Rattle.mp_host_states.specs.States.{States}
use Rattle.mp_host_places.proofs.FirstWakes.{firsts_changed}
use Rattle.mp_host_states.proofs.Found.{as_it_was, cell_found, first_stepped, inside_at, inside_changed}
use Rattle.mp_host_states.proofs.Places.{place_is}
use Rattle.mp_host_states.proofs.in_hand.step_group.Goals as goal

pub step_state-requires-clause-fits : goal.step_state-requires-clause-fits
step_state-requires-clause-fits g c = λ κs b.
    let q = g.Q.Query.facts (g.Q.Query.values c.args.query.now) in
    let one = c.index_mut-one.result.now in
    let is = c.index_mut-one.ensures.value ∙ ap (λ (s : States g.row.Q-Cell.Denot). get_or s.held c.place_of-at.result one) c.states.view_is in
    let cell = cell_found c.args.states.now c.args.group.now.time c.args.group.now.key c.place_of-at.result c.place_of-at.ensures one is (q.fresh c.args.stage) in
    rw cell at c.requires.fits

pub step_state-requires-clause-woken : goal.step_state-requires-clause-woken
step_state-requires-clause-woken g c = λ κs b.
    let held = c.args.states.now.held in
    let one = c.index_mut-one.result.now in
    let t = c.args.group.now.time in
    let k = c.args.group.now.key in
    let is = c.index_mut-one.ensures.value ∙ ap (λ (s : States g.row.Q-Cell.Denot). get_or s.held c.place_of-at.result one) c.states.view_is in
    let at = place_is _ held c.place_of-at.result c.place_of-at.ensures one in
    subst (λ (s : _). Has s.state.wakes t k → c.args.group.now.woken ≡ true) (sym is) (All-get_or (λ s. Has s.state.wakes t k → c.args.group.now.woken ≡ true) held c.place_of-at.result one at.inside c.requires.woken)

pub renew_where-requires-clause-spans : goal.renew_where-requires-clause-spans
renew_where-requires-clause-spans g c =
    let i = c.states.inside in
    let one = c.index_mut-one.result.now in
    let bins = map-set_same (λ s. s.bin) i.held.items c.place_of-at.result (record one { state = c.step_state.new.state }) one (ap (λ s. s.bin) c.index_mut-one.ensures.value) in
    rw c.deref.ensures.value (subst (AreSpans i.spans) (sym bins) c.states.invariant.places)

pub renew_where-requires-clause-bin : goal.renew_where-requires-clause-bin
renew_where-requires-clause-bin g c =
    let i = c.states.inside in
    let inv = c.states.invariant in
    let one = c.index_mut-one.result.now in
    let at = place_is _ i.held.items c.place_of-at.result (rw (← c.states.view_is) at c.place_of-at.ensures) one in
    rw inv.wakes.count (inside_at i.bins i.held.items inv.inside c.place_of-at.result one at.inside c.index_mut-one.ensures.value)

pub invariant_of-states-2 : goal.invariant_of-states-2
invariant_of-states-2 g c =
    let i = c.states.inside in
    let held = i.held.items in
    let inv = c.states.invariant in
    let one = c.index_mut-one.result.now in
    let same = ap (λ s. s.bin) c.index_mut-one.ensures.value in
    let at = place_is _ held c.place_of-at.result (rw (← c.states.view_is) at c.place_of-at.ensures) one in
    let bins = map-set_same (λ s. s.bin) held c.place_of-at.result (record one { state = c.step_state.new.state }) one same in
    let wakes = λ (idle : c.changes_wakes-changes.result ≡ false). c.in_ok-outputs.ensures.same_wakes (sym c.changes_wakes-changes.ensures ∙ idle) ∙ ap wakes_in c.index_mut-one.ensures.value in
    let others = firsts_changed held c.place_of-at.result (record one { state = c.step_state.new.state }) one c.changes_wakes-changes.result same wakes in
    let firsts = c.renew_where.ensures i.bins held inv.wakes (λ b idle. rw c.deref.ensures.value (others b idle)) in
    let inside = inside_at i.bins held inv.inside c.place_of-at.result one at.inside c.index_mut-one.ensures.value in
    record {
      count = inv.count;
      inside = inside_changed i.bins held inv.inside c.place_of-at.result (record one { state = c.step_state.new.state }) inside;
      each_bin = inv.each_bin;
      places = subst (AreSpans i.spans) (sym bins) inv.places;
      wakes = rw c.deref.ensures.value at firsts;
    }

pub returns-clause-stepped : goal.returns-clause-stepped
returns-clause-stepped g c =
    let q = g.Q.Query.facts (g.Q.Query.values c.args.query.now) in
    let one = c.index_mut-one.result.now in
    let is = c.index_mut-one.ensures.value ∙ ap (λ (s : States g.row.Q-Cell.Denot). get_or s.held c.place_of-at.result one) c.states.view_is in
    let e = c.in_ok-outputs.ensures in
    let first = first_stepped c.args.states.now c.args.group.now.time c.args.group.now.key c.place_of-at.result c.place_of-at.ensures one is q c.args.stage c.args.group.now c.args.posts.now c.step_state.new.state e.wakes e.cells e.kept e.in_order in
    rw (← c.states.view_is) (rw (← c.states.view_is) at first)

pub returns-clause-outputs : goal.returns-clause-outputs
returns-clause-outputs g c =
    let q = g.Q.Query.facts (g.Q.Query.values c.args.query.now) in
    let one = c.index_mut-one.result.now in
    let is = c.index_mut-one.ensures.value ∙ ap (λ (s : States g.row.Q-Cell.Denot). get_or s.held c.place_of-at.result one) c.states.view_is in
    let cell = cell_found c.args.states.now c.args.group.now.time c.args.group.now.key c.place_of-at.result c.place_of-at.ensures one is (q.fresh c.args.stage) in
    rw cell c.in_ok-outputs.ensures.outputs

pub invariant_of-states : goal.invariant_of-states
invariant_of-states g c = rw (as_it_was c.states.inside.held.items c.place_of-at.result c.index_mut-one.result.now c.step_state.new.state c.index_mut-one.ensures.value c.in_err-outputs.ensures.unchanged) c.states.invariant
