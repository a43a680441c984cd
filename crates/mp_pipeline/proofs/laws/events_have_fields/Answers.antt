use Rattle.mp_pipeline.specs.Laws.{events_have_fields}
use Rattle.mp_pipeline.proofs.laws.events_have_fields.Goals as goal

pub returns : goal.returns
returns c = events_have_fields
