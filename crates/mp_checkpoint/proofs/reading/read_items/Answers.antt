-- Each line adds what it says, and the last line nothing.
use Rattle.std.proofs.Common.{◌++◌, ◌∷◌, [], List, sym, ap, ◌∙◌, ⊎_elim, append_assoc, append-nil}
use Rattle.std.proofs.lemmas.Bool.{both_ways}
use Rattle.mp_model.specs.Facts.{SavedWake}
use Rattle.mp_opening.specs.declared.checkpoint.KeyCell.{KeyCell}
use Rattle.mp_checkpoint_laws.specs.Files.{SavedLine, cell_on, cells_on, format_of, last_line, line_text, wake_on, wakes_on}
use Rattle.mp_checkpoint.specs.Written.{texts_of}
use Rattle.mp_checkpoint.proofs.LineSteps.{begins}
use Rattle.mp_checkpoint.proofs.reading.read_items.Goals as goal

pub returns-then-not-branch : goal.returns-then-not-branch
returns-then-not-branch g c = λ until n lines low fits e.
    let saved = g.met.Q.Saved g.world.𝓛 g.world.𝓜 g.world.𝓡 ((λ s x. x), (λ x. x), (λ x. x), λ x. x) in
    let vs = g.Q.Query.values c.args.query.now in
    let f = format_of g.Q.Saved.NUMBER vs (g.Q.Query.facts vs) g.Q.Query.text_of in
    let inv = c.loop-line.invariant until n lines low fits e in
    let cells = c.loop-line.cells.items in
    let wakes = c.loop-line.wakes.items in
    ⊎_elim
    (λ a.
    let cut = c.in-Some.ensures.cut (last_line n) [] a.1 a.2 in
    let r = c.in_ok-read_item.ensures.last n cut.0 in (
      r.1 ∙ sym (append-nil cells) ∙ ap (λ (ls : List (SavedLine _)). cells ++ cells_on ls) (sym a.0) ∙ inv.3,
      r.2 ∙ sym (append-nil wakes) ∙ ap (λ (ls : List (SavedLine _)). wakes ++ wakes_on ls) (sym a.0) ∙ inv.4,
    ))
    (λ a.
    let cut = c.in-Some.ensures.cut (line_text f a.0.stage a.0.key a.0.holds) (texts_of f a.1 ++ (last_line n ++ 10 ∷ [])) a.5 a.6 in
    absurd (both_ways c.in_ok-read_item.field-0 c.if-not-branch.true (c.in_ok-read_item.ensures.item until a.0 a.3 cut.0).0))
    (begins f (saved.texts_are_plain vs) until n inv.0 c.loop-line.left.now low inv.1 inv.2)

pub loop-line-preserved : goal.loop-line-preserved
loop-line-preserved g c = λ until n lines low fits e.
    let saved = g.met.Q.Saved g.world.𝓛 g.world.𝓜 g.world.𝓡 ((λ s x. x), (λ x. x), (λ x. x), λ x. x) in
    let vs = g.Q.Query.values c.args.query.now in
    let f = format_of g.Q.Saved.NUMBER vs (g.Q.Query.facts vs) g.Q.Query.text_of in
    let inv = c.loop-line.invariant until n lines low fits e in
    let cells = c.loop-line.cells.items in
    let wakes = c.loop-line.wakes.items in
    ⊎_elim
    (λ a.
    let cut = c.in-Some.ensures.cut (last_line n) [] a.1 a.2 in
    absurd (both_ways c.in_ok-read_item.field-0 (c.in_ok-read_item.ensures.last n cut.0).0 c.if-not-branch.false))
    (λ a.
    let m = a.0 in
    let more = a.1 in
    let cut = c.in-Some.ensures.cut (line_text f m.stage m.key m.holds) (texts_of f more ++ (last_line n ++ 10 ∷ [])) a.5 a.6 in
    let r = c.in_ok-read_item.ensures.item until m a.3 cut.0 in (
      more,
      a.4,
      cut.1,
      ap (λ (xs : List (KeyCell _)). xs ++ cells_on more) r.1 ∙ append_assoc cells (cell_on m.stage m.key m.holds) (cells_on more) ∙ ap (λ (ls : List (SavedLine _)). cells ++ cells_on ls) (sym a.2) ∙ inv.3,
      ap (λ (xs : List SavedWake). xs ++ wakes_on more) r.2 ∙ append_assoc wakes (wake_on m.stage m.key m.holds) (wakes_on more) ∙ ap (λ (ls : List (SavedLine _)). wakes ++ wakes_on ls) (sym a.2) ∙ inv.4,
    ))
    (begins f (saved.texts_are_plain vs) until n inv.0 c.loop-line.left.now low inv.1 inv.2)

pub returns : goal.returns
returns g c = λ until n lines low fits e.
    let saved = g.met.Q.Saved g.world.𝓛 g.world.𝓜 g.world.𝓡 ((λ s x. x), (λ x. x), (λ x. x), λ x. x) in
    let vs = g.Q.Query.values c.args.query.now in
    let f = format_of g.Q.Saved.NUMBER vs (g.Q.Query.facts vs) g.Q.Query.text_of in
    let inv = c.loop-line.invariant until n lines low fits e in
    ⊎_elim
    (λ a. absurd (c.in_default.ensures.cut (last_line n) [] a.1 a.2))
    (λ a. absurd (c.in_default.ensures.cut (line_text f a.0.stage a.0.key a.0.holds) (texts_of f a.1 ++ (last_line n ++ 10 ∷ [])) a.5 a.6))
    (begins f (saved.texts_are_plain vs) until n inv.0 c.loop-line.left.now low inv.1 inv.2)
