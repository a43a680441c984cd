use Rattle.std.proofs.Common.{◌∙◌, ap}
use Rattle.mp_names.specs.declared.controls.Shape.{Shape}
use Rattle.mp_journal.proofs.SameShape.{same_shape}
use Rattle.mp_journal.proofs.reading.read_journal.Goals as goal

pub returns-clause-workers : goal.returns-clause-workers
returns-clause-workers c =
    let is = rw c.in_ok-start.ensures at c.in_ok-said.ensures.said in
    c.into_lists.ensures.workers ∙ ap (λ (s : Shape). s.workers) (same_shape c.args.text.now c.args.shape.now c.in_ok-said.said is)
