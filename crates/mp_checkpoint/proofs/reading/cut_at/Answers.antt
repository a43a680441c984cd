-- The first byte of the kind stands behind the front.
use Rattle.std.proofs.Common.{◌+◌, ◌∙◌}
use Rattle.std.proofs.lemmas.List.{take_rest}
use Rattle.mp_checkpoint.proofs.Cuts.{cut_there, is_found}
use Rattle.mp_checkpoint.proofs.reading.cut_at.Goals as goal

pub returns-in_err-end-clause-cut : goal.returns-in_err-end-clause-cut
returns-in_err-end-clause-cut c = λ front rest plain e. absurd (is_found c.args.byte c.args.text.now front rest c.in_err-end.ensures e)

pub returns-clause-cut : goal.returns-clause-cut
returns-clause-cut c = λ front rest plain e.
    let text = c.args.text.now in
    let end = c.in_ok-end.end in
    let cut = cut_there c.args.byte text front rest end c.in_ok-end.ensures plain e in
    (cut.0, take_rest text (end + 1) ∙ cut.1)
