use Rattle.std.proofs.Common.{map}
use Rattle.mp_collect.specs.Gathered.{as_cell, as_wake}
use Rattle.mp_collect.proofs.Entries.{some_more}
use Rattle.mp_collect.proofs.gathered.gather.Goals as goal

pub loop-own-preserved : goal.loop-own-preserved
loop-own-preserved g c =
    let all = c.loop-own in
    record {
      cells = some_more (λ s. map (as_cell s.0) s.1.cells) (λ own. own.items) all.cells.items c.add_states.new.cells.items all.yielded c.in-Some.own all.invariant.cells c.in_ok-add_states.ensures.cells;
      wakes = some_more (λ s. map (as_wake s.0) s.1.wakes) (λ own. own.items) all.wakes.items c.add_states.new.wakes.items all.yielded c.in-Some.own all.invariant.wakes c.in_ok-add_states.ensures.wakes;
    }
