-- The lines so far begin the text.
use Rattle.std.proofs.Common.{◌≡◌, ◌++◌, ℕ, List, length}
use Rattle.mp_checkpoint_laws.specs.Files.{format_of, lines_of}
use Rattle.mp_checkpoint.specs.Items.{CellsMay}
use Rattle.mp_checkpoint.specs.Written.{texts_of}
use Rattle.mp_checkpoint.proofs.matching.behind_items.Given as goal

abbrev pub invariant-loop-item : goal.invariant-loop-item
invariant-loop-item g l =
    let vs = g.Q.Query.values l.query in
    let f = format_of g.Q.Saved.NUMBER vs (g.Q.Query.facts vs) g.Q.Query.text_of in
    record {
      front : (front : List ℕ) × (front ++ texts_of f l.items ≡ texts_of f (lines_of l.checkpoint.cells l.checkpoint.wakes)) × (l.text ≡ front ++ l.left);
      may : CellsMay f l.checkpoint.time l.items;
    }

abbrev pub decreases-loop-item : goal.decreases-loop-item
decreases-loop-item g l = length l.items
