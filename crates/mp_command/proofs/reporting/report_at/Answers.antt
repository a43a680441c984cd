-- The name holds what was written of the report, since it was begun.
use Rattle.std.proofs.Common.{ap, inl, inr, rules}
use Rattle.std.proofs.lemmas.Result.{err_from_is_err_and}
use Rattle.mp_outside.proofs.FileLemmas.{there_begun}
use Rattle.mp_command_files.proofs.Written.{written_from_begun}
use Rattle.mp_command.proofs.reporting.report_at.Goals as goal

pub new-sink-requires : goal.new-sink-requires
new-sink-requires g c = there_begun _ _ _ _ c.in_ok-begin.ensures.begun

pub returns-in_err-begin-clause-part : goal.returns-in_err-begin-clause-part
returns-in_err-begin-clause-part g c =
    let p = err_from_is_err_and c.from_residual.result c.from_residual.ensures.1 in
    rw p.1 (inl c.in_err-begin.ensures.unchanged)

pub returns-in_err-write_report-clause-part : goal.returns-in_err-write_report-clause-part
returns-in_err-write_report-clause-part g c =
    let part = c.in_err-write_report.ensures.part in
    let frame = rw (c.new-sink.ensures.depot, c.new-sink.ensures.name) at c.write_report.ensures.appends_only.same_frame in
    let here = rw (c.new-sink.ensures.depot, c.new-sink.ensures.name) at part.3 in
    let made = written_from_begun _ _ _ _ _ _ c.in_ok-begin.ensures.begun (ap (λ b. b.name) frame) here (ap (λ b. b.others) frame) in
    let p = err_from_is_err_and c.from_residual-in_err-write_report.result c.from_residual-in_err-write_report.ensures.1 in
    rw p.1 (inr (part.0, part.1, inl (part.2, search rules)))

pub returns-clause-whole : goal.returns-clause-whole
returns-clause-whole g c =
    let whole = c.in_ok-write_report.ensures.whole in
    let frame = rw (c.new-sink.ensures.depot, c.new-sink.ensures.name) at c.write_report.ensures.appends_only.same_frame in
    let here = rw (c.new-sink.ensures.depot, c.new-sink.ensures.name) at whole.2 in
    let made = written_from_begun _ _ _ _ _ _ c.in_ok-begin.ensures.begun (ap (λ b. b.name) frame) here (ap (λ b. b.others) frame) in
    (whole.0, whole.1, search rules)
