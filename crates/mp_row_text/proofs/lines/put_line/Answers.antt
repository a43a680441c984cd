-- The fields, each after a `|`, are the fields after the time.
use Rattle.std.proofs.Common.{append_assoc}
use Rattle.std.specs.Fmt.{decimal}
use Rattle.mp_model.specs.Answers.{fields_in, text_of}
use Rattle.mp_row_text.proofs.Cuts.{join_with_byte-cons}
use Rattle.mp_row_text.proofs.lines.put_line.Goals as goal

pub returns : goal.returns
returns c =
    let cut = join_with_byte-cons 124 text_of (decimal c.args.place.now.time) (fields_in c.args.value.now) in
    rw (c.in_ok-push.ensures.items, c.in_ok-put_fields.ensures, c.in_ok-put_number.ensures.written, cut) (simp append_assoc)
