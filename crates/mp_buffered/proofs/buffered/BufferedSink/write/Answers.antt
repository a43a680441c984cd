use Rattle.std.proofs.Common.{◌∙◌, Option, List, ℕ, ap, arith}
use Rattle.std.proofs.Math.Seq.{take-length}
use Rattle.mp_outside.specs.Sink.{grown}
use Rattle.mp_buffered.proofs.Handing.{piece_waits}
use Rattle.mp_buffered.proofs.buffered.BufferedSink.write.Goals as goal

pub returns-clause-grew : goal.returns-clause-grew
returns-clause-grew g c =
    let made = piece_waits _ c.make_room.new.self.handed _ _ (omega arith) ∙ ap (λ (w : Option (List ℕ)). grown w c.args.piece.now) c.make_room.ensures.same_written in
    rw (c.in_ok-extend_from_slice.ensures.items, take-length) made
