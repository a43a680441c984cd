-- What a chart is made of.
use Rattle.mp_names.specs.Outlines.{Outline, OutlineIsSound}
use Rattle.mp_step_lists.specs.Tables.{StepTables, TellsSteps}
use Rattle.mp_group_lists.specs.Lists.{AreListsOf}
use Rattle.mp_group_lists.specs.declared.lists.GroupLists.{GroupLists}
use Rattle.mp_work_lists.specs.Works.{IsAllWork, Listed}

-- The parts are those of the outline, which is sound
pub record AreChartOf (o : Outline) (steps : StepTables) (groups : GroupLists) (work : Listed) : Type 0 where
  pub sound : OutlineIsSound o
  pub told : TellsSteps o steps
  pub grouped : AreListsOf o groups
  pub listed : IsAllWork o work
