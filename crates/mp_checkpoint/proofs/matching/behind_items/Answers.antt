-- Each line stands behind those before it, or the text goes on otherwise.
use Rattle.std.proofs.Common.{◌≡◌, ◌++◌, ◌∷◌, [], ℕ, List, refl, sym, ap, ◌∙◌, append_assoc, subst}
use Rattle.mp_checkpoint_laws.specs.Files.{SavedLine, format_of, lines_of}
use Rattle.mp_checkpoint.specs.Items.{CellsMay, line_said}
use Rattle.mp_checkpoint.specs.Written.{texts_of}
use Rattle.mp_checkpoint.proofs.Pieces.{all_may, first_may, first_text}
use Rattle.mp_checkpoint.proofs.Fronts.{goes_on, other_front}
use Rattle.mp_checkpoint.proofs.matching.behind_items.Goals as goal

pub loop-item-init : goal.loop-item-init
loop-item-init g c =
    let vs = g.Q.Query.values c.args.query.now in
    let f = format_of g.Q.Saved.NUMBER vs (g.Q.Query.facts vs) g.Q.Query.text_of in
    let checkpoint = c.args.checkpoint.now in
    let all : c.of-items.result ≡ lines_of checkpoint.cells checkpoint.wakes = cc in
    record { front = ([], ap (texts_of f) all, refl); may = subst (CellsMay f checkpoint.time) (sym all) (all_may f checkpoint c.requires) }

pub loop-item-preserved : goal.loop-item-preserved
loop-item-preserved g c =
    let vs = g.Q.Query.values c.args.query.now in
    let f = format_of g.Q.Saved.NUMBER vs (g.Q.Query.facts vs) g.Q.Query.text_of in
    let t = c.args.checkpoint.now.time in
    let line = line_said c.in-Some.item in
    let left : List (SavedLine _) = c.item.new.self in
    let piece = texts_of f (line ∷ []) in
    let may = first_may f t line left (subst (CellsMay f t) c.in-Some.ensures c.loop-item.invariant.may) in
    let told : c.as_slice.result.now ≡ piece = c.as_slice.ensures.value ∙ c.in_ok-put_item.ensures t may.0 ∙ ap (λ (l : List ℕ). l ++ piece) c.clear.ensures.items in
    let front = c.loop-item.invariant.front in
    record {
      front = (
        front.0 ++ piece,
        append_assoc front.0 piece (texts_of f left) ∙ ap (λ (l : List ℕ). front.0 ++ l) (first_text f line left) ∙ ap (λ (ls : List (SavedLine _)). front.0 ++ texts_of f ls) (sym c.in-Some.ensures) ∙ front.1,
        goes_on c.args.text.now front.0 c.loop-item.left.now piece c.in-Some-behind.rest.now front.2 (c.in-Some-behind.ensures ∙ ap (λ (l : List ℕ). l ++ c.in-Some-behind.rest.now) told),
      );
      may = may.1;
    }

pub returns-in_default-behind : goal.returns-in_default-behind
returns-in_default-behind g c = λ rest e.
    let vs = g.Q.Query.values c.args.query.now in
    let f = format_of g.Q.Saved.NUMBER vs (g.Q.Query.facts vs) g.Q.Query.text_of in
    let t = c.args.checkpoint.now.time in
    let line = line_said c.in-Some.item in
    let left : List (SavedLine _) = c.item.new.self in
    let piece = texts_of f (line ∷ []) in
    let may = first_may f t line left (subst (CellsMay f t) c.in-Some.ensures c.loop-item.invariant.may) in
    let told : c.as_slice.result.now ≡ piece = c.as_slice.ensures.value ∙ c.in_ok-put_item.ensures t may.0 ∙ ap (λ (l : List ℕ). l ++ piece) c.clear.ensures.items in
    let front = c.loop-item.invariant.front in
    let all = ap (λ (l : List ℕ). front.0 ++ l) (first_text f line left) ∙ ap (λ (ls : List (SavedLine _)). front.0 ++ texts_of f ls) (sym c.in-Some.ensures) ∙ front.1 in
    let here = other_front c.args.text.now front.0 c.loop-item.left.now piece (texts_of f left) rest (texts_of f (lines_of c.args.checkpoint.now.cells c.args.checkpoint.now.wakes)) front.2 all e in
    c.in_default-behind.ensures (texts_of f left ++ rest) (here ∙ ap (λ (l : List ℕ). l ++ (texts_of f left ++ rest)) (sym told))
