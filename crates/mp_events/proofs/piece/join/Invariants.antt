-- The pieces so far are one that begins the file, and those that are left are pieces.
use Rattle.std.proofs.Common.{◌≡◌, All}
use Rattle.std.specs.Vec.Iter.{into_iter_items}
use Rattle.mp_events.specs.Pieces.{IsPieceOf}
use Rattle.mp_events.proofs.piece.join.Given as goal

abbrev pub invariant-pieces : goal.invariant-pieces
invariant-pieces l = record {
  next : goal.iterator-pieces.can_next l.piece-iterator × goal.iterator-pieces.is_finite l.piece-iterator;
  is_piece : IsPieceOf l.text l.all;
  start : l.all.start ≡ 0;
  left : All (IsPieceOf l.text) (into_iter_items l.piece-iterator);
}
