-- The sink got a beginning of what the buffer got, and once it is flushed all of that.
use Rattle.std.proofs.Common.{◌≡◌, ◌∙◌, ℕ, List, [], Option, drop, rules, sym, take, take-append-drop}
use Rattle.std.specs.Option.{ForSome}
use Rattle.mp_buffered.proofs.Front.{begun_part, same_lender}
use Rattle.mp_outside.specs.Sink.{grown}
use Rattle.mp_outside.proofs.SinkLemmas.{grown-nothing}
use Rattle.mp_output.proofs.Writing.{on_err}
use Rattle.mp_report.proofs.Prefixes.{part_taken, prefix_then}
use Rattle.mp_command.proofs.reporting.write_gathered.Goals as goal

part_reached : (old new : Option (List ℕ)) (waits text : List ℕ) (k : ℕ) → ForSome old (λ bytes. bytes ≡ []) → grown new waits ≡ grown old (take k text) → (j : ℕ) × (new ≡ grown old (take j text))
part_reached old new waits text k none is =
    let part = begun_part old new waits (take k text) none is in
    part_taken old new (take part.0 (take k text)) text
    (prefix_then _ _ _ (drop part.0 (take k text), take-append-drop part.0 (take k text)) (drop k text, take-append-drop k text)) part.1

pub returns-in_err-room-clause-part : goal.returns-in_err-room-clause-part
returns-in_err-room-clause-part g c = on_err c.from_residual.result (0, sym (grown-nothing _))

pub returns-in_err-write_lists-clause-part : goal.returns-in_err-write_lists-clause-part
returns-in_err-write_lists-clause-part g c =
    let part = c.in_err-write_lists.ensures.part in
    let here = rw (c.new-buffered.ensures.none_waits, grown-nothing, c.new-buffered.ensures.sink) at part.1 in
    let made = part_reached _ _ _ _ _ c.requires.begun here in
    let lender = same_lender _ _ _ _ c.write_lists.ensures.appends_only.same_frame in
    on_err c.from_residual-in_err-write_lists.result (made.0, search rules)

pub returns-in_err-flush-clause-part : goal.returns-in_err-flush-clause-part
returns-in_err-flush-clause-part g c =
    let here = rw (c.new-buffered.ensures.none_waits, grown-nothing, c.new-buffered.ensures.sink) at c.in_ok-write_lists.ensures.whole in
    let made = begun_part _ _ _ _ c.requires.begun (c.flush.ensures.same_written ∙ here) in
    let lender = same_lender _ _ _ _ c.write_lists.ensures.appends_only.same_frame in
    on_err c.from_residual-in_err-flush.result (made.0, search rules)

pub returns-clause-whole : goal.returns-clause-whole
returns-clause-whole g c =
    let here = rw (c.new-buffered.ensures.none_waits, grown-nothing, c.new-buffered.ensures.sink) at c.in_ok-write_lists.ensures.whole in
    let made = c.in_ok-flush.ensures.whole ∙ here in
    let lender = same_lender _ _ _ _ c.write_lists.ensures.appends_only.same_frame in
    search rules
