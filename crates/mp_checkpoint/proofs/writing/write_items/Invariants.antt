-- What is written, with the lines that are left, is all.
use Rattle.std.proofs.Common.{◌≡◌, ◌++◌, ℕ, List, length}
use Rattle.mp_outside.specs.Sink.{grown}
use Rattle.mp_checkpoint_laws.specs.Files.{format_of, lines_of}
use Rattle.mp_checkpoint.specs.Items.{CellsMay}
use Rattle.mp_checkpoint.specs.Written.{texts_of}
use Rattle.mp_checkpoint.proofs.writing.write_items.Given as goal

abbrev pub invariant-loop-item : goal.invariant-loop-item
invariant-loop-item g l =
    let f = format_of g.Q.Saved.NUMBER (g.Q.Query.values l.query) (g.Q.Query.facts (g.Q.Query.values l.query)) g.Q.Query.text_of in
    record {
      wrote : (front : List ℕ) × (front ++ texts_of f l.items ≡ texts_of f (lines_of l.checkpoint.cells l.checkpoint.wakes)) × (g.S.Sink.written l.sink ≡ grown (g.S.Sink.written l.initial.sink) front);
      may : CellsMay f l.checkpoint.time l.items;
      frame : g.S.Sink.frame l.sink ≡ g.S.Sink.frame l.initial.sink;
      no_fault : g.S.Sink.faults l.sink ≡ g.S.Sink.faults l.initial.sink;
    }

abbrev pub decreases-loop-item : goal.decreases-loop-item
decreases-loop-item g l = length l.items
