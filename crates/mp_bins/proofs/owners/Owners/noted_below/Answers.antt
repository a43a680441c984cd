use Rattle.std.proofs.Common.{◌<◌, ℕ, subst, sym}
use Rattle.mp_bins.specs.Notes.{AreWithin, Notes}
use Rattle.mp_bins.proofs.Searching.{owner_is_worker}
use Rattle.mp_bins.proofs.owners.Owners.noted_below.Goals as goal

pub returns-clause-worker : goal.returns-clause-worker
returns-clause-worker c =
    let shape = c.args.self.now.layout.shape in
    let of = c.args.of in
    let notes = c.self.inside.notes.items in
    let within = subst (λ (n : Notes). AreWithin n.layout.shape notes) c.self.view_is c.self.invariant.1 in
    subst (λ (w : ℕ). w < shape.workers) (sym c.owner_below.ensures) (owner_is_worker shape notes within of.first of.stage of.bin c.args.limit c.requires.worker)
