use Rattle.std.proofs.Common.{◌<◌, ◌∙◌, ℕ, ap, refl, subst, sym}
use Rattle.mp_model.specs.Facts.{JobFacts}
use Rattle.mp_host_states.specs.States.{States}
use Rattle.mp_host.proofs.Kept.{hosted_still}
use Rattle.mp_host.proofs.Moved.{put_fit}
use Rattle.mp_host.proofs.host.Host.hold.Goals as goal

pub hold-requires-clause-bin : goal.hold-requires-clause-bin
hold-requires-clause-bin g c =
    let fits = rw (← c.self.view_is) at c.requires.fits in
    subst (λ (n : ℕ). c.args.one.bin < n) (sym (c.self.inside.each_bin ∙ ap (λ (j : JobFacts). j.shape.bins) c.self.invariant.run)) fits.denotes.bin

pub invariant_of-self : goal.invariant_of-self
invariant_of-self g c =
    let h = c.self.invariant in
    let fits = rw (← c.self.view_is) at c.requires.fits in
    rw c.hold.ensures (hosted_still _ _ _ _ _ _ _ _ h h.order.content h.order.records (put_fit _ _ _ _ h c.args.one fits))

pub returns : goal.returns
returns g c =
    let held = ap (λ (s : States g.row.Q-Cell.Denot). s.held) c.hold.ensures in
    rw (← c.self.view_is) (record { stage = refl; worker = refl; records = refl; held = held })
