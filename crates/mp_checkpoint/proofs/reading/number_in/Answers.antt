-- The word in front of the bar is the number.
use Rattle.std.proofs.Common.{sym, ◌∙◌}
use Rattle.std.specs.Fmt.{decimal}
use Rattle.mp_checkpoint.proofs.Numbers.{no_bar, not_refused, read_again, within}
use Rattle.mp_checkpoint.proofs.reading.number_in.Goals as goal

pub returns-in_err-word-clause-read : goal.returns-in_err-word-clause-read
returns-in_err-word-clause-read c = λ n rest low most e. absurd (c.in_err-word.ensures.cut (decimal n) rest (no_bar n low) e)

pub returns-in-Ok-clause-read : goal.returns-in-Ok-clause-read
returns-in-Ok-clause-read c = λ n rest low most e.
    let cut = c.in_ok-word.ensures.cut (decimal n) rest (no_bar n low) e in
    (read_again n c.in-Ok.number c.args.most c.in_ok-word.word.now (sym c.number.ensures ∙ c.in-Ok.is) cut.0 low most, cut.1)

pub returns-in-Err-clause-read : goal.returns-in-Err-clause-read
returns-in-Err-clause-read c = λ n rest low most e.
    let cut = c.in_ok-word.ensures.cut (decimal n) rest (no_bar n low) e in
    not_refused n c.args.most c.in-Err.field-0 c.in_ok-word.word.now (sym c.number.ensures ∙ c.in-Err.is) cut.0 low most

pub returns-in-Ok-clause-within : goal.returns-in-Ok-clause-within
returns-in-Ok-clause-within c = within c.in_ok-word.word.now c.args.most c.in-Ok.number (sym c.number.ensures ∙ c.in-Ok.is)
