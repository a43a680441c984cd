-- The work of the times so far is added.
use Rattle.std.proofs.Common.{take}
use Rattle.mp_work_lists.specs.Parts.{HasMore, work_of_times}
use Rattle.mp_work_lists.proofs.gathering.add_times.Given as goal

abbrev pub invariant-loop-time : goal.invariant-loop-time
invariant-loop-time l = HasMore (work_of_times l.loc l.each (take l.time-index l.times)) l.initial.works.items l.works.items
