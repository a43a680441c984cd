use Rattle.std.proofs.Common.{ap, rules}
use Rattle.std.proofs.lemmas.Result.{err_from_is_err_and}
use Rattle.mp_outside.proofs.FileLemmas.{with_more_written}
use Rattle.mp_outside.proofs.depot_sink.append_piece.Goals as goal

pub returns-clause-whole : goal.returns-clause-whole
returns-clause-whole g c =
    let frame = c.write_piece.ensures.appends_only.same_frame in
    let made = with_more_written _ _ _ _ _ c.new-sink.result.there (ap (λ b. b.name) frame) c.in_ok-write_piece.ensures.whole (ap (λ b. b.others) frame) in
    let seen = rw (c.new-sink.ensures.depot, c.new-sink.ensures.name) at made in
    search rules

pub returns-in_err-write_piece-clause-part : goal.returns-in_err-write_piece-clause-part
returns-in_err-write_piece-clause-part g c =
    let frame = c.write_piece.ensures.appends_only.same_frame in
    let part = c.in_err-write_piece.ensures.part in
    let made = with_more_written _ _ _ _ _ c.new-sink.result.there (ap (λ b. b.name) frame) part.2 (ap (λ b. b.others) frame) in
    let seen = rw (c.new-sink.ensures.depot, c.new-sink.ensures.name) at made in
    let p = err_from_is_err_and c.from_residual.result c.from_residual.ensures.1 in
    rw p.1 (part.0, part.1, search rules)
