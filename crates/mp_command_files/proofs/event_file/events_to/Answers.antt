-- The name holds the lines that were written, since it was begun.
use Rattle.std.proofs.Common.{ap, inr, rules}
use Rattle.std.proofs.lemmas.Result.{err_from_is_err_and}
use Rattle.mp_outside.proofs.FileLemmas.{there_begun}
use Rattle.mp_command_files.proofs.Written.{written_from_begun}
use Rattle.mp_command_files.proofs.event_file.events_to.Goals as goal

pub new-sink-requires : goal.new-sink-requires
new-sink-requires g c = there_begun _ _ _ _ c.in_ok-begin.ensures.begun

pub returns-in_err-write_events-clause-part : goal.returns-in_err-write_events-clause-part
returns-in_err-write_events-clause-part g c =
    let part = c.in_err-write_events.ensures.part in
    let frame = rw (c.new-sink.ensures.depot, c.new-sink.ensures.name) at c.write_events.ensures.appends_only.same_frame in
    let here = rw (c.new-sink.ensures.depot, c.new-sink.ensures.name) at part.1 in
    let made = written_from_begun _ _ _ _ _ _ c.in_ok-begin.ensures.begun (ap (λ b. b.name) frame) here (ap (λ b. b.others) frame) in
    let p = err_from_is_err_and c.from_residual-in_err-write_events.result c.from_residual-in_err-write_events.ensures.1 in
    rw p.1 (inr (part.0, search rules))

pub returns-clause-whole : goal.returns-clause-whole
returns-clause-whole g c =
    let frame = rw (c.new-sink.ensures.depot, c.new-sink.ensures.name) at c.write_events.ensures.appends_only.same_frame in
    let here = rw (c.new-sink.ensures.depot, c.new-sink.ensures.name) at c.in_ok-write_events.ensures.whole in
    let made = written_from_begun _ _ _ _ _ _ c.in_ok-begin.ensures.begun (ap (λ b. b.name) frame) here (ap (λ b. b.others) frame) in
    search rules
