use Rattle.mp_q_window.specs.Laws.Q5.{outputs_have_keys}
use Rattle.mp_q_window.specs.Q5.{slide_in, slides_in}
use Rattle.mp_q_window.proofs.laws.counts_have_keys.Goals as goal

pub returns : goal.returns
returns c = λ vs. outputs_have_keys (slide_in vs) (slides_in vs)
