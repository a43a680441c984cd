use Rattle.std.proofs.Common.{◌∙◌, ap}
use Rattle.mp_model.specs.Facts.{JobFacts}
use Rattle.mp_worker_parts.proofs.parts.Parts.shape.Goals as goal

pub returns : goal.returns
returns g c = c.shape.ensures.shape ∙ ap (λ (j : JobFacts). j.shape) c.self.invariant.run
