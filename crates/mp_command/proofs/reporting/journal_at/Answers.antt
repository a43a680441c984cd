-- The name holds what was written of the journal, since it was begun.
use Rattle.std.proofs.Common.{ap, inl, inr, map, refl, rules}
use Rattle.std.proofs.lemmas.Result.{err_from_is_err_and}
use Rattle.mp_outside.proofs.FileLemmas.{there_begun}
use Rattle.mp_report.specs.Journal.{journal_text}
use Rattle.mp_command_files.proofs.Written.{none_written, written_from_begun}
use Rattle.mp_command.proofs.reporting.journal_at.Goals as goal

pub new-sink-requires : goal.new-sink-requires
new-sink-requires g c = there_begun _ _ _ _ c.in_ok-begin.ensures.begun

pub write_gathered-requires-clause-begun : goal.write_gathered-requires-clause-begun
write_gathered-requires-clause-begun g c = rw (c.new-sink.ensures.depot, c.new-sink.ensures.name) (none_written _ _ _ c.in_ok-begin.ensures.begun)

pub returns-in_err-begin-clause-part : goal.returns-in_err-begin-clause-part
returns-in_err-begin-clause-part g c =
    let p = err_from_is_err_and c.from_residual.result c.from_residual.ensures.1 in
    rw p.1 (inl c.in_err-begin.ensures.unchanged)

pub returns-in_err-write_gathered-clause-part : goal.returns-in_err-write_gathered-clause-part
returns-in_err-write_gathered-clause-part g c =
    let part = c.in_err-write_gathered.ensures.part in
    let frame = rw (c.new-sink.ensures.depot, c.new-sink.ensures.name) at c.write_gathered.ensures.appends_only.same_frame in
    let here = rw (c.new-sink.ensures.depot, c.new-sink.ensures.name) at part.1 in
    let made = written_from_begun _ _ _ _ _ _ c.in_ok-begin.ensures.begun (ap (λ b. b.name) frame) here (ap (λ b. b.others) frame) in
    let p = err_from_is_err_and c.from_residual-in_err-write_gathered.result c.from_residual-in_err-write_gathered.ensures.1 in
    rw p.1 (inr (journal_text (map (λ v. v.items) c.args.lists.now), refl, inl (part.0, search rules)))

pub returns-clause-whole : goal.returns-clause-whole
returns-clause-whole g c =
    let frame = rw (c.new-sink.ensures.depot, c.new-sink.ensures.name) at c.write_gathered.ensures.appends_only.same_frame in
    let here = rw (c.new-sink.ensures.depot, c.new-sink.ensures.name) at c.in_ok-write_gathered.ensures.whole in
    let made = written_from_begun _ _ _ _ _ _ c.in_ok-begin.ensures.begun (ap (λ b. b.name) frame) here (ap (λ b. b.others) frame) in
    (journal_text (map (λ v. v.items) c.args.lists.now), refl, search rules)
