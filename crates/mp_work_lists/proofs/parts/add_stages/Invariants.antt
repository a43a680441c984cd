-- The work of the stages so far is added.
use Rattle.mp_player_laws.specs.WorkLeft.{added_below}
use Rattle.mp_work_lists.specs.Parts.{HasMore, stage_work}
use Rattle.mp_work_lists.proofs.parts.add_stages.Given as goal

abbrev pub invariant-loop-stage : goal.invariant-loop-stage
invariant-loop-stage g l = HasMore (λ a t. added_below l.stage (λ j. stage_work (g.L.OutlineLists.outline l.lists) j a t)) l.initial.works.items l.works.items
