use Rattle.std.proofs.Common.{arith, length-append, ◌∷◌, [], rules, subst, sym, ap, length}
use Rattle.mp_events.specs.Pieces.{BeginsWithEvents}
use Rattle.mp_events.proofs.Pieces.{one_event_more}
use Rattle.mp_events.proofs.piece.events_before.Goals as goal

pub lines-preserved : goal.lines-preserved
lines-preserved c =
    let found = c.in-Some.found in
    let next = one_event_more c.args.text.now c.lines.events.items c.lines.rest.now found.event found.rest.now c.lines.invariant.begins (search rules) in
    record {
      begins = subst (λ es. BeginsWithEvents c.args.text.now es found.rest.now) (sym c.in_ok-push.ensures.items) next;
      few = omega (arith, ap length c.in_ok-push.ensures.items, length-append c.lines.events.items (found.event ∷ []), c.lines.events.ok.0);
    }
