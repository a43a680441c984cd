use Rattle.std.proofs.Common.{◌∙◌, sym}
use Rattle.mp_lines.proofs.SoFar.{at_bad_line, is_blank-length}
use Rattle.mp_lines.proofs.reading.read_lines.Goals as goal

pub returns-in-Err-clause-bad_line : goal.returns-in-Err-clause-bad_line
returns-in-Err-clause-bad_line g c =
    let filled = is_blank-length c.in-Some.line.bytes.now ∙ sym c.is_empty.ensures ∙ c.if-is_empty.false in
    let fails = rw c.fields.ensures.fields at c.in-Err.ensures.bad in
    rw c.at_line.ensures (at_bad_line (g.R.LineReader.rules c.args.reader.now) c.args.start c.args.text.now c.loop-line.state c.loop-line.lines c.in-Some.line c.next.new.self c.in-Err.refused c.loop-line.invariant c.in-Some.ensures.steps filled fails)
