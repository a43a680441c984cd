-- The whole line was said; or a part of it, up to a fault or for want of memory.
use Rattle.std.proofs.Common.{length, inl, sym, ap, ◌∙◌, List, ℕ, arith}
use Rattle.std.proofs.Math.Seq.{take-length}
use Rattle.mp_outside.specs.Sink.{grown}
use Rattle.mp_command_files.specs.Outcome.{line_said}
use Rattle.mp_command_files.specs.Refused.{outcome_of}
use Rattle.mp_command.proofs.status.refuse.Goals as goal

pub returns-in-Ok : goal.returns-in-Ok
returns-in-Ok g c =
    let line = line_said (outcome_of c.args.refusal.now) in
    record {
      count = length line;
      grew = c.in-Ok.ensures.whole ∙ ap (λ (xs : List ℕ). grown (g.S.Sink.written c.args.said.now) xs) (sym (take-length line));
      ends = inl (c.status.ensures, omega arith);
    }
