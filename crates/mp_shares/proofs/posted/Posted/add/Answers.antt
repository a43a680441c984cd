use Rattle.std.proofs.Common.{◌++◌, ◌∙◌, List, ℕ, ap}
use Rattle.mp_shares.proofs.Same.{stands_last}
use Rattle.mp_shares.proofs.posted.Posted.add.Goals as goal

pub invariant_of-self-2 : goal.invariant_of-self-2
invariant_of-self-2 c =
    let times = c.self.inside.times.items in
    stands_last c.args.posts times c.extend_from_slice.new.self.items
    (c.in_ok-extend_from_slice.ensures.items ∙ ap (λ (ps : List ℕ). times ++ ps) c.as_slice.ensures)
