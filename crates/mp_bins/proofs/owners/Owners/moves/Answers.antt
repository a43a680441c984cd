use Rattle.std.proofs.Common.{List, subst}
use Rattle.std.specs.List.Sorted.{IsPermutation}
use Rattle.mp_names.specs.declared.controls.Move.{Move}
use Rattle.mp_bins.specs.Notes.{Notes}
use Rattle.mp_bins.specs.Changes.{AreChangesOf}
use Rattle.mp_bins.proofs.Sorted.{sorted_is}
use Rattle.mp_bins.proofs.owners.Owners.moves.Goals as goal

pub returns : goal.returns
returns c =
    let kept = c.self.inside.changes.items in
    let are = subst (λ (n : Notes). AreChangesOf n.layout n.noted kept) c.self.view_is c.self.invariant.3 in
    let moved = subst (λ (ms : List Move). IsPermutation ms c.sort_unstable.new.self.items) c.in_ok-moves.ensures c.sort_unstable.ensures.permutation in
    sorted_is c.args.self.now kept c.sort_unstable.new.self.items are moved c.sort_unstable.ensures.sorted
