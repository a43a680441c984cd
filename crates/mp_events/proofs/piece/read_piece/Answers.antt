use Rattle.std.proofs.Common.{arith, refl}
use Rattle.mp_events.proofs.Pieces.{part_begins, part_within}
use Rattle.mp_events.proofs.piece.read_piece.Goals as goal

pub overflow_sub-end : goal.overflow_sub-end
overflow_sub-end c =
    let found = c.in_ok-found.found in
    let within = part_within c.args.text.now _ found.rest.now c.min-start.result c.args.end found.events.items refl (omega (arith, c.min-start.ensures)) c.requires c.in_ok-found.ensures.begins in
    omega (arith, within)

pub returns-clause-is_piece : goal.returns-clause-is_piece
returns-clause-is_piece c =
    let found = c.in_ok-found.found in
    let within = part_within c.args.text.now _ found.rest.now c.min-start.result c.args.end found.events.items refl (omega (arith, c.min-start.ensures)) c.requires c.in_ok-found.ensures.begins in
    record {
      ordered = omega (arith, within);
      within = omega (arith, c.requires);
      begins = part_begins c.args.text.now _ found.rest.now c.min-start.result c.args.end found.events.items refl (omega (arith, c.min-start.ensures)) c.requires c.in_ok-found.ensures.begins;
      few = omega (arith, c.in_ok-found.ensures.few, found.events.ok.0);
    }
