use Rattle.std.proofs.Common.{◌∙◌, refl, sym}
use Rattle.mp_worker.proofs.worker.Worker.is_finished.Goals as goal

pub returns-else-number-ne0 : goal.returns-else-number-ne0
returns-else-number-ne0 g c =
    let written = c.all_are_written.ensures in
    let done = rw (c.shape-stages.ensures, c.seen.ensures, c.stop_time.ensures) at (c.if-all_have_ended.ensures.0 refl) in
    rw (← c.self.view_is)
    ((λ e. record { done = done; written = λ _. written.0 e }), λ ends. written.1 (ends.written (sym c.number.ensures.is ∙ c.if-number-ne0.false)))
