use Rattle.std.proofs.Common.{◌∙◌, List, ℕ, ap, sym}
use Rattle.mp_text.specs.Fields.{fields_of}
use Rattle.mp_q_join.specs.Joining.{person_said}
use Rattle.mp_q_join.specs.Laws.Texts.{person_read}
use Rattle.mp_q_join.proofs.q3.Q3Saved.read_cell.Goals as goal

pub returns : goal.returns
returns c = λ key until cell h e.
    c.in_ok-cell.ensures ∙ ap (λ (text : List ℕ). person_said (fields_of text)) (sym e) ∙ person_read 0 c.args._stage key until cell h
