-- The wakes by bin have the times of all.
use Rattle.std.proofs.Common.{◌↔◌, ℕ, Contains, List, map, sym, subst}
use Rattle.mp_opening.specs.Openings.{OpeningOf}
use Rattle.mp_opening.proofs.Woken.{times_are}
use Rattle.mp_opening.proofs.opening.Opening.wakes.Goals as goal

pub returns : goal.returns
returns g c = λ u.
    let own = c.self.inside in
    let here = times_are (record { bins = own.bins; from = own.checkpoint }) own.places.items own.wakes.items c.self.invariant u in
    subst
    (λ (o : OpeningOf _). Contains (map (λ w. w.0) c.as_slice.result.now) u ↔ Contains (map (λ w. w.time) o.from.wakes) u)
    c.self.view_is
    (subst (λ (ws : List (ℕ × ℕ)). Contains (map (λ w. w.0) ws) u ↔ Contains (map (λ w. w.time) own.checkpoint.wakes) u) (sym c.as_slice.ensures.value) here)
