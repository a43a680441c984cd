use Rattle.mp_pipeline.specs.Laws.{outputs_are_rows}
use Rattle.mp_pipeline.proofs.laws.outputs_are_rows.Goals as goal

pub returns : goal.returns
returns c = outputs_are_rows
