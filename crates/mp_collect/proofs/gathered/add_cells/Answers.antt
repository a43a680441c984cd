use Rattle.std.proofs.Common.{◌≡◌, []}
use Rattle.mp_collect.specs.Gathered.{as_cell}
use Rattle.mp_msg.specs.States.{by_key}
use Rattle.mp_collect.proofs.Entries.{all_made, made_reordered, permuted-by_key}
use Rattle.mp_collect.proofs.gathered.add_cells.Goals as goal

pub returns : goal.returns
returns g c =
    let before = c.args.cells.now.items in
    let now = c.loop-key.cells.items in
    let own = c.args.own.entries in
    let none : c.loop-key.key-iterator ≡ [] = c.in-None.ensures.steps.0 in
    let once = c.into_iter-key-iterator.ensures.into_iter_gives.4 in
    made_reordered (as_cell c.args.stage) before now own (by_key own) (all_made (as_cell c.args.stage) before now own c.loop-key.key-iterator none c.loop-key.invariant) (permuted-by_key own once)
