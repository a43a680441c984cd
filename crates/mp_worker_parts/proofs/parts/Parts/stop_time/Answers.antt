use Rattle.std.proofs.Common.{◌∙◌, ap}
use Rattle.mp_model.specs.Facts.{JobFacts}
use Rattle.mp_worker_parts.proofs.parts.Parts.stop_time.Goals as goal

pub returns : goal.returns
returns g c = c.stop_time.ensures ∙ ap (λ (j : JobFacts). j.until) c.self.invariant.run
