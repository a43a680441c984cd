use Rattle.std.proofs.Common.{◌∙◌, ap}
use Rattle.mp_pipe_file.specs.Stages.{stage_by}
use Rattle.mp_pipe_file.proofs.StagesRead.{stage_read}
use Rattle.mp_pipe_file.proofs.stages.read_stage.Goals as goal

pub returns : goal.returns
returns c =
    let form = c.args.form in
    let read = c.in_ok-numbers.ensures in
    let numbers = c.in_ok-numbers.numbers in
    let test = ap (λ test. stage_by form test numbers) c.test_on.ensures in
    (read.0, c.stage_by.ensures ∙ test ∙ stage_read c.args.fields.now numbers form c.args.record_fields read)
