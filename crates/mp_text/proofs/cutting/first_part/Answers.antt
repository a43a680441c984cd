-- The place of the first line feed cuts the text.
use Rattle.std.proofs.Common.{ap, ◌+◌, sym, ◌∙◌, take, drop, arith}
use Rattle.std.proofs.lemmas.List.{take_rest, drop_all}
use Rattle.mp_text.specs.Lines.{is_line_feed}
use Rattle.mp_text.proofs.FirstByte.{position_or_len-found, position_or_len-none}
use Rattle.mp_text.proofs.cutting.first_part.Goals as goal

pub returns-in-Some-clause-part : goal.returns-in-Some-clause-part
returns-in-Some-clause-part c =
    ap (λ n. take n c.args.text.now) (sym (position_or_len-found is_line_feed c.args.text.now c.in-Some.end c.in-Some.ensures))

pub returns-in-Some-clause-rest : goal.returns-in-Some-clause-rest
returns-in-Some-clause-rest c =
    take_rest c.args.text.now _
    ∙ ap (λ n. drop (n + 1) c.args.text.now) (sym (position_or_len-found is_line_feed c.args.text.now c.in-Some.end c.in-Some.ensures))

pub returns-in-None-clause-part : goal.returns-in-None-clause-part
returns-in-None-clause-part c =
    c.split_at.ensures.front
    ∙ ap (λ n. take n c.args.text.now) (sym (position_or_len-none is_line_feed c.args.text.now c.in-None.ensures))

pub returns-in-None-clause-rest : goal.returns-in-None-clause-rest
returns-in-None-clause-rest c =
    let none = position_or_len-none is_line_feed c.args.text.now c.in-None.ensures in
    c.split_at.ensures.back
    ∙ drop_all _ c.args.text.now (omega arith)
    ∙ sym (drop_all _ c.args.text.now (omega (arith, none)))
