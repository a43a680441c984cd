use Rattle.std.proofs.Common.{◌≡◌, [], IsPermutation, subst, sym}
use Rattle.std.proofs.lemmas.List.Sorted.{IsPermutation-sym}
use Rattle.mp_collect.specs.Gathered.{as_wake}
use Rattle.mp_collect.proofs.Entries.{all_made, made_reordered}
use Rattle.mp_collect.proofs.gathered.add_wakes.Goals as goal

pub returns : goal.returns
returns c =
    let before = c.args.wakes.now.items in
    let now = c.loop-time.wakes.items in
    let own = c.into_iter-time-iterator.result in
    let due = c.args.due.now.wakes in
    let none : c.loop-time.time-iterator ≡ [] = c.in-None.ensures.steps.0 in
    let same : IsPermutation due own = subst (IsPermutation due) (sym c.into_iter-time-iterator.ensures.into_iter_gives) c.iter-time-items.ensures.wakes in
    made_reordered (as_wake c.args.stage) before now own due (all_made (as_wake c.args.stage) before now own c.loop-time.time-iterator none c.loop-time.invariant) (IsPermutation-sym due own same)
