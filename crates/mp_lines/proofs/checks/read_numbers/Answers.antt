use Rattle.std.proofs.Common.{◌∙◌, Some, ap, sym}
use Rattle.std.proofs.lemmas.Option.{slice_get-get_or}
use Rattle.std.proofs.lemmas.Result.{err_from_is_err_and}
use Rattle.mp_lines.proofs.FieldSteps.{fails_field, past_field}
use Rattle.mp_lines.proofs.checks.read_numbers.Goals as goal

pub returns-in_err-numbers : goal.returns-in_err-numbers
returns-in_err-numbers g c =
    let p = err_from_is_err_and c.from_residual.result c.from_residual.ensures.1 in
    let here = slice_get-get_or _ _ _ c.loop-place-test.true ∙ ap Some (sym c.index-checks-place.is) in
    let there = rw c.unwrap-field.ensures at c.get.ensures.bytes in
    rw (p.1, p.2) (fails_field g.C.FieldCheck.failures g.C.FieldCheck.number _ _ _ _ _ _ _ c.loop-place.invariant here there c.in_err-numbers.ensures)

pub loop-place-preserved : goal.loop-place-preserved
loop-place-preserved g c =
    let here = slice_get-get_or _ _ _ c.loop-place-test.true ∙ ap Some (sym c.index-checks-place.is) in
    let there = rw c.unwrap-field.ensures at c.get.ensures.bytes in
    let read = c.in_ok-numbers.ensures in
    past_field g.C.FieldCheck.failures g.C.FieldCheck.number _ _ _ _ _ _ _ c.loop-place.invariant here there read.0 read.1
