-- The parts so far are written.
use Rattle.std.proofs.Common.{◌≡◌, take}
use Rattle.std.specs.List.{flat_map}
use Rattle.mp_outside.specs.Sink.{grown}
use Rattle.mp_command_files.proofs.refusal.say_parts.Given as goal

abbrev pub invariant-loop-part : goal.invariant-loop-part
invariant-loop-part g l = record {
  written : g.S.Sink.written l.said ≡ grown (g.S.Sink.written l.fn.said) (flat_map (λ part. part.now) (take l.part-index l.parts));
  faults : g.S.Sink.faults l.said ≡ g.S.Sink.faults l.fn.said;
}
