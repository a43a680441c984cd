-- What is added, with what the lines that are left say, is all.
use Rattle.std.proofs.Common.{◌≡◌, ◌<◌, ◌^◌, ◌++◌, ◌∷◌, [], ℕ, List, length}
use Rattle.mp_checkpoint_laws.specs.Files.{SavedLine, cells_on, format_of, last_line, wakes_on}
use Rattle.mp_checkpoint.specs.Loose.{AreReadable}
use Rattle.mp_checkpoint.specs.Written.{texts_of}
use Rattle.mp_checkpoint.proofs.reading.read_items.Given as goal

abbrev pub invariant-loop-line : goal.invariant-loop-line
invariant-loop-line g l =
    let vs = g.Q.Query.values l.query in
    let f = format_of g.Q.Saved.NUMBER vs (g.Q.Query.facts vs) g.Q.Query.text_of in
    (until n : ℕ) (lines : List (SavedLine _)) → n < 2 ^ 64 → AreReadable f until lines → l.text ≡ texts_of f lines ++ (last_line n ++ 10 ∷ [])
    → (ms : List (SavedLine _)) × AreReadable f until ms × (l.left ≡ texts_of f ms ++ (last_line n ++ 10 ∷ [])) × (l.cells.items ++ cells_on ms ≡ l.fn.cells.items ++ cells_on lines) × (l.wakes.items ++ wakes_on ms ≡ l.fn.wakes.items ++ wakes_on lines)

abbrev pub decreases-loop-line : goal.decreases-loop-line
decreases-loop-line g l = length l.left
