-- The word in front of the byte is the number.
use Rattle.std.proofs.Common.{Some, sym, ap, ◌∙◌, arith}
use Rattle.std.specs.Fmt.{decimal}
use Rattle.mp_checkpoint.proofs.Numbers.{not_refused, read_again}
use Rattle.mp_checkpoint.proofs.first.number_before.Goals as goal

pub returns-in_err-word : goal.returns-in_err-word
returns-in_err-word c = λ n rest low plain e. absurd (c.in_err-word.ensures.cut (decimal n) rest plain e)

pub returns-in-Ok : goal.returns-in-Ok
returns-in-Ok c = λ n rest low plain e.
    let cut = c.in_ok-word.ensures.cut (decimal n) rest plain e in
    ap Some (read_again n c.in-Ok.number 18446744073709551615 c.in_ok-word.word.now (sym c.number.ensures ∙ c.in-Ok.is) cut.0 low (omega arith))

pub returns-in-Err : goal.returns-in-Err
returns-in-Err c = λ n rest low plain e.
    let cut = c.in_ok-word.ensures.cut (decimal n) rest plain e in
    absurd (not_refused n 18446744073709551615 c.in-Err.field-0 c.in_ok-word.word.now (sym c.number.ensures ∙ c.in-Err.is) cut.0 low (omega arith))
