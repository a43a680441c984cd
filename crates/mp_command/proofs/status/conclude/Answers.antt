-- The whole line was said.
use Rattle.std.proofs.Common.{length, inl, sym, ap, refl, ◌∙◌, List, ℕ, arith}
use Rattle.std.proofs.Math.Seq.{take-length}
use Rattle.mp_outside.specs.Sink.{grown}
use Rattle.mp_command.proofs.status.conclude.Goals as goal

pub returns-in-Ok : goal.returns-in-Ok
returns-in-Ok g c =
    let line = c.args.line.now in
    record {
      count = length line;
      grew = c.in-Ok.ensures.whole ∙ ap (λ (xs : List ℕ). grown (g.S.Sink.written c.args.said.now) xs) (sym (take-length line));
      ends = inl (refl, omega arith);
    }
