use Rattle.std.proofs.Common.{◌∙◌, ap, arith, add-one}
use Rattle.std.proofs.lemmas.List.{get_or_default}
use Rattle.std.proofs.lemmas.List.Elements.{All-pop}
use Rattle.std.specs.VecDeque.{deque_capacity}
use Rattle.mp_ordered.specs.Blocks.{IsSpare}
use Rattle.mp_ordered.proofs.Blocked.{put_two}
use Rattle.mp_ordered.proofs.block.split.Goals as goal

pub returns-clause-split : goal.returns-clause-split
returns-clause-split g c =
    let upper = rw c.in-Some.is at (All-pop IsSpare _ _ _ c.pop.ensures.items c.requires.spare).1 in
    let was = c.index_mut.ensures.value ∙ get_or_default c.args.blocks.now.items c.args.at _ c.move_upper.new.block c.requires.inside in
    record {
      lower = c.move_upper.new.block;
      upper = c.move_upper.new.upper;
      is = c.in-Ok.ensures.items ∙ rw add-one (put_two c.args.blocks.now.items c.args.at c.move_upper.new.block c.move_upper.new.upper c.requires.inside);
      items = c.move_upper.ensures.items ∙ ap (λ b. b.items) was;
      halves = c.move_upper.ensures.halves;
      memory = (omega (arith, c.move_upper.ensures.memory.0, ap (λ b. deque_capacity b) was), omega (arith, c.move_upper.ensures.memory.1, upper.1));
    }

pub returns-clause-spare : goal.returns-clause-spare
returns-clause-spare g c = (All-pop IsSpare _ _ _ c.pop.ensures.items c.requires.spare).0
