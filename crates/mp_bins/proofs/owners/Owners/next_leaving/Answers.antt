use Rattle.std.proofs.Common.{subst}
use Rattle.mp_bins.specs.Notes.{Notes}
use Rattle.mp_bins.specs.Changes.{AreChangesOf}
use Rattle.mp_bins.proofs.Nexts.{next_if_some, none_if_none}
use Rattle.mp_bins.proofs.owners.Owners.next_leaving.Goals as goal

pub returns-clause-next : goal.returns-clause-next
returns-clause-next c =
    let kept = c.self.inside.changes.items in
    let are = subst (λ (n : Notes). AreChangesOf n.layout n.noted kept) c.self.view_is c.self.invariant.3 in
    next_if_some c.args.self.now kept are c.args.stage c.args.worker c.args.after c.first_from.result c.first_from.ensures.first

pub returns-clause-none_left : goal.returns-clause-none_left
returns-clause-none_left c =
    let kept = c.self.inside.changes.items in
    let are = subst (λ (n : Notes). AreChangesOf n.layout n.noted kept) c.self.view_is c.self.invariant.3 in
    none_if_none c.args.self.now kept are c.args.stage c.args.worker c.args.after c.first_from.result c.first_from.ensures.none
