-- The packets of the stages so far.
use Rattle.std.proofs.Common.{◌≡◌, map}
use Rattle.std.specs.List.{range_with_len}
use Rattle.mp_step_lists.specs.Tables.{packets_by_worker}
use Rattle.mp_step_lists.proofs.packets.packets_to_send.Given as goal

abbrev pub invariant-loop-stage : goal.invariant-loop-stage
invariant-loop-stage g l = map (λ row. map (λ list. list.items) row.items) l.packets.items ≡ map (packets_by_worker (g.L.OutlineLists.outline l.lists)) (range_with_len 0 l.stage)
