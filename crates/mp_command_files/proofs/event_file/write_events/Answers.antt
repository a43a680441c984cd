-- After each event its line is written too; after a part of one, that.
use Rattle.std.proofs.Common.{ℕ, ◌+◌, ◌++◌, ◌∙◌, List, length, take, ap, refl, sym, arith}
use Rattle.mp_events.specs.Written.{line_of_event}
use Rattle.mp_outside.specs.Sink.{grown}
use Rattle.mp_outside.proofs.SinkLemmas.{grown-nothing}
use Rattle.mp_command_files.specs.EventFile.{event_file}
use Rattle.mp_command_files.proofs.Joined.{joined-before, joined-part, joined-take}
use Rattle.mp_command_files.proofs.Parts.{all_of_next, some_at_exit}
use Rattle.mp_command_files.proofs.event_file.write_events.Goals as goal

pub loop-event-init : goal.loop-event-init
loop-event-init g c = record { written = sym (grown-nothing _); frame = refl; faults = omega arith }

pub returns-in_err-write_event-clause-part : goal.returns-in_err-write_event-clause-part
returns-in_err-write_event-clause-part g c =
    let events = c.args.events.now in
    let i = c.loop-event.event-index in
    some_at_exit _ _ _ _ (length (event_file (take i events)))
    (c.loop-event.invariant.written ∙ ap (λ (ys : List ℕ). grown (g.S.Sink.written c.args.sink.now) ys) (joined-before line_of_event events i))

pub returns-in_err-write_piece-clause-part : goal.returns-in_err-write_piece-clause-part
returns-in_err-write_piece-clause-part g c =
    let events = c.args.events.now in
    let i = c.loop-event.event-index in
    let line = line_of_event c.event-item.result in
    let is = c.as_slice.ensures.value ∙ c.in_ok-write_event.ensures.written ∙ ap (λ (ys : List ℕ). ys ++ line) c.new-line.ensures.items in
    let part = rw is at c.in_err-write_piece.ensures.part in
    let here = all_of_next _ _ _ _ _ c.loop-event.invariant.written part.2 in
    some_at_exit _ _ _ _ (length (event_file (take i events)) + part.0)
    (here ∙ ap (λ (ys : List ℕ). grown (g.S.Sink.written c.args.sink.now) ys)
    (joined-part line_of_event events i c.event-item.result part.0 c.loop-event-test.true c.event-item.is part.1))

pub loop-event-preserved : goal.loop-event-preserved
loop-event-preserved g c =
    let events = c.args.events.now in
    let i = c.loop-event.event-index in
    let line = line_of_event c.event-item.result in
    let is = c.as_slice.ensures.value ∙ c.in_ok-write_event.ensures.written ∙ ap (λ (ys : List ℕ). ys ++ line) c.new-line.ensures.items in
    let written = rw is at c.in_ok-write_piece.ensures.whole in
    let here = all_of_next _ _ _ _ _ c.loop-event.invariant.written written in record {
      written = here ∙ ap (λ (ys : List ℕ). grown (g.S.Sink.written c.args.sink.now) ys)
          (sym (joined-take line_of_event events i c.event-item.result c.loop-event-test.true c.event-item.is));
      frame = c.in_ok-write_piece.ensures.appends_only.same_frame ∙ c.loop-event.invariant.frame;
      faults = omega (arith, c.loop-event.invariant.faults, c.in_ok-write_piece.ensures.appends_only.faults_grow);
    }
