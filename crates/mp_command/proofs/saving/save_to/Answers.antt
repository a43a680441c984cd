-- The name holds what was written of the file, since it was begun.
use Rattle.std.proofs.Common.{◌∙◌, ap, inl, inr, length, refl, rules, sym, take}
use Rattle.std.proofs.lemmas.Result.{err_from_is_err_and}
use Rattle.std.proofs.Math.Seq.{take-append_seam}
use Rattle.mp_checkpoint_laws.specs.Files.{file_text, lines_of}
use Rattle.mp_outside.proofs.FileLemmas.{there_begun}
use Rattle.mp_command.specs.Spans.{format_by}
use Rattle.mp_command_files.proofs.Written.{written_from_begun}
use Rattle.mp_command.proofs.saving.save_to.Goals as goal

pub new-sink-requires : goal.new-sink-requires
new-sink-requires g c = there_begun _ _ _ _ c.in_ok-begin.ensures.begun

pub returns-in_err-write_checkpoint-clause-part : goal.returns-in_err-write_checkpoint-clause-part
returns-in_err-write_checkpoint-clause-part g c =
    let kept = c.in_ok-checkpoint.checkpoint in
    let f = format_by g.Q.Saved.NUMBER g.Q.Query.text_of g.Q.Query.facts c.args.job.now.values in
    let text = file_text f kept.time (lines_of kept.cells kept.wakes) in
    let part = rw c.query.ensures at c.in_err-write_checkpoint.ensures.part in
    let front = sym (take-append_seam part.0 part.1.0) ∙ ap (take (length part.0)) part.1.1 in
    let frame = rw (c.new-sink.ensures.depot, c.new-sink.ensures.name) at c.write_checkpoint.ensures.appends_only.same_frame in
    let here = rw (c.new-sink.ensures.depot, c.new-sink.ensures.name, front) at part.2 in
    let made = written_from_begun _ _ _ _ _ _ c.in_ok-begin.ensures.begun (ap (λ b. b.name) frame) here (ap (λ b. b.others) frame) in
    let p = err_from_is_err_and c.from_residual-in_err-write_checkpoint.result c.from_residual-in_err-write_checkpoint.ensures.1 in
    rw p.1 (inr (text, (kept, c.in_ok-checkpoint.ensures.left, record { fits = c.in_ok-checkpoint.ensures.fits; text = refl }), inl (length part.0, search rules)))

pub returns-clause-whole : goal.returns-clause-whole
returns-clause-whole g c =
    let kept = c.in_ok-checkpoint.checkpoint in
    let f = format_by g.Q.Saved.NUMBER g.Q.Query.text_of g.Q.Query.facts c.args.job.now.values in
    let text = file_text f kept.time (lines_of kept.cells kept.wakes) in
    let whole = rw c.query.ensures at c.in_ok-write_checkpoint.ensures.whole in
    let frame = rw (c.new-sink.ensures.depot, c.new-sink.ensures.name) at c.write_checkpoint.ensures.appends_only.same_frame in
    let here = rw (c.new-sink.ensures.depot, c.new-sink.ensures.name) at whole in
    let made = written_from_begun _ _ _ _ _ _ c.in_ok-begin.ensures.begun (ap (λ b. b.name) frame) here (ap (λ b. b.others) frame) in
    (text, (kept, c.in_ok-checkpoint.ensures.left, record { fits = c.in_ok-checkpoint.ensures.fits; text = refl }), search rules)
