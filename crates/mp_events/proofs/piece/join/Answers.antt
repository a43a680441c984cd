use Rattle.std.proofs.Common.{◌∙◌, rules, sym}
use Rattle.std.proofs.lemmas.List.Elements.{All-head, All-same, All-tail}
use Rattle.std.specs.Vec.Iter.{into_iter_items}
use Rattle.mp_events.specs.Pieces.{IsPieceOf}
use Rattle.mp_events.proofs.Pieces.{piece_more}
use Rattle.mp_events.proofs.piece.join.Goals as goal

pub pieces-preserved : goal.pieces-preserved
pieces-preserved c =
    let text = c.args.text.now in
    let inv = c.pieces.invariant in
    let left = into_iter_items c.next.new.self in
    let each = All-same (IsPieceOf text) _ _ (sym c.in-Some.ensures.steps.0) inv.left in
    record {
      next = search rules;
      is_piece = piece_more text c.pieces.all c.in-Some.piece c.take.new.self inv.is_piece (All-head (IsPieceOf text) c.in-Some.piece left each) (search rules) (search rules) c.in_ok-take.ensures.start c.in_ok-take.ensures.end c.in_ok-take.ensures.events;
      start = c.in_ok-take.ensures.start ∙ inv.start;
      left = All-tail (IsPieceOf text) c.in-Some.piece left each;
    }
