-- Wakes are of the first stage.
use Rattle.std.proofs.Common.{◌≡◌, ◌∙◌, ℕ, [], ap, arith, filter, sym, subst}
use Rattle.mp_opening.specs.ByBin.{wakes_in}
use Rattle.mp_opening.specs.Openings.{AreWakesOf, OpeningOf}
use Rattle.mp_opening.proofs.Woken.{none_later, wakes_are}
use Rattle.mp_opening.proofs.opening.Opening.wakes_of.Goals as goal

pub returns-then-stage-ne0 : goal.returns-then-stage-ne0
returns-then-stage-ne0 g c =
    let own = c.self.inside in
    subst (λ (o : OpeningOf _). AreWakesOf o c.args.stage c.args.bin []) c.self.view_is
    (none_later (record { bins = own.bins; from = own.checkpoint }) own.places.items own.wakes.items c.self.invariant c.args.stage c.args.bin (λ e. let other = c.if-stage-ne0.true in omega arith))

pub returns : goal.returns
returns g c =
    let own = c.self.inside in
    let b = c.args.bin in
    let first : c.args.stage ≡ 0 = omega arith in
    let here = wakes_are (record { bins = own.bins; from = own.checkpoint }) own.places.items own.wakes.items c.self.invariant b in
    let out : c.wakes_of_bin.result.now ≡ filter (wakes_in own.bins b) own.wakes.items = c.wakes_of_bin.ensures ∙ ap (filter (wakes_in own.bins b)) c.as_slice-all.ensures.value in
    subst (λ (o : OpeningOf _). AreWakesOf o c.args.stage b c.wakes_of_bin.result.now) c.self.view_is
    (subst (λ (j : ℕ). AreWakesOf (record { bins = own.bins; from = own.checkpoint }) j b c.wakes_of_bin.result.now) (sym first)
    (subst (AreWakesOf (record { bins = own.bins; from = own.checkpoint }) 0 b) (sym out) here))
