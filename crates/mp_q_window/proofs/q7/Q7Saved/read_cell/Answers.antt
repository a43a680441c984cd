use Rattle.std.proofs.Common.{◌∙◌, List, ℕ, Some, ap, sym}
use Rattle.mp_saved.specs.Numbers.{numbers_in}
use Rattle.mp_q_window.specs.Best.{offer_said}
use Rattle.mp_q_window.specs.Laws.Q7.{texts_tell_cells}
use Rattle.mp_q_window.proofs.q7.Q7Saved.read_cell.Goals as goal

pub returns : goal.returns
returns c = λ key until cell allowed same.
    ap Some (c.in_ok-cell.ensures ∙ ap (λ (text : List ℕ). offer_said (numbers_in text)) (sym same) ∙ texts_tell_cells 0 c.args._stage key until cell allowed)
