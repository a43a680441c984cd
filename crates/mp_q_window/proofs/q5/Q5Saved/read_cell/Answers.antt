use Rattle.std.proofs.Common.{◌∙◌, List, ℕ, Some, ap, sym}
use Rattle.mp_saved.specs.Numbers.{numbers_in}
use Rattle.mp_q_window.specs.Recent.{times_said}
use Rattle.mp_q_window.specs.Laws.Q5.{texts_tell_cells}
use Rattle.mp_q_window.proofs.q5.Q5Saved.read_cell.Goals as goal

pub returns : goal.returns
returns c = λ key until cell allowed same.
    ap Some (c.in_ok-cell.ensures ∙ ap (λ (text : List ℕ). times_said (numbers_in text)) (sym same) ∙ texts_tell_cells 0 0 c.args._stage key until cell allowed)
