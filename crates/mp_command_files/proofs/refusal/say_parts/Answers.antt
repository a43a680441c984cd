-- After each part it is written too; after a part of one, that.
use Rattle.std.proofs.Common.{ℕ, ◌+◌, List, length, take, ap, ◌∙◌, refl, sym}
use Rattle.std.specs.List.{flat_map}
use Rattle.std.proofs.lemmas.List.{get_or_default}
use Rattle.mp_outside.specs.Sink.{grown}
use Rattle.mp_outside.proofs.SinkLemmas.{grown-nothing}
use Rattle.mp_command_files.proofs.Joined.{joined-less, joined-part, joined-take}
use Rattle.mp_command_files.proofs.Parts.{part_at_exit, all_of_next}
use Rattle.mp_command_files.proofs.refusal.say_parts.Goals as goal

pub returns-in_err-write_piece-clause-part : goal.returns-in_err-write_piece-clause-part
returns-in_err-write_piece-clause-part g c =
    let part = c.in_err-write_piece.ensures.part in
    let less = rw c.as_bytes.ensures.value at part.1 in
    let written = rw c.as_bytes.ensures.value at part.2 in
    let parts = c.args.parts.now in
    let i = c.loop-part.part-index in
    let here = all_of_next _ _ _ _ _ c.loop-part.invariant.written written in
    let at = get_or_default parts i _ _ c.loop-part-test.true in
    part_at_exit _ _ _ _ (length (flat_map (λ part. part.now) (take i parts)) + part.0)
    (joined-less (λ part. part.now) parts i _ part.0 c.loop-part-test.true at less)
    (here ∙ ap (λ (ys : List ℕ). grown (g.S.Sink.written c.args.said.now) ys)
    (joined-part (λ part. part.now) parts i _ part.0 c.loop-part-test.true at less))

pub loop-part-init : goal.loop-part-init
loop-part-init g c = record { written = sym (grown-nothing _); faults = refl }

pub loop-part-preserved : goal.loop-part-preserved
loop-part-preserved g c =
    let written = rw c.as_bytes.ensures.value at c.in_ok-write_piece.ensures.whole in
    let parts = c.args.parts.now in
    let i = c.loop-part.part-index in
    let here = all_of_next _ _ _ _ _ c.loop-part.invariant.written written in record {
      written = here ∙ ap (λ (ys : List ℕ). grown (g.S.Sink.written c.args.said.now) ys)
          (sym (joined-take (λ part. part.now) parts i _ c.loop-part-test.true (get_or_default parts i _ _ c.loop-part-test.true)));
      faults = c.in_ok-write_piece.ensures.cause.served ∙ c.loop-part.invariant.faults;
    }
