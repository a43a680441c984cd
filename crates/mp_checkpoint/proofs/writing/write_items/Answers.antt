-- Each line is written behind those before it.
use Rattle.std.proofs.Common.{◌≡◌, ◌++◌, ◌∷◌, [], ℕ, List, Option, refl, sym, ap, ◌∙◌, append_assoc, subst, take}
use Rattle.mp_outside.specs.Sink.{grown}
use Rattle.mp_outside.proofs.SinkLemmas.{grown-grown, grown-nothing}
use Rattle.mp_checkpoint_laws.specs.Files.{SavedLine, format_of, lines_of}
use Rattle.mp_checkpoint.specs.Items.{CellsMay, line_said}
use Rattle.mp_checkpoint.specs.Written.{texts_of}
use Rattle.mp_checkpoint.proofs.Pieces.{all_may, first_may, first_text, on_err, part_of_piece}
use Rattle.mp_checkpoint.proofs.writing.write_items.Goals as goal

pub loop-item-init : goal.loop-item-init
loop-item-init g c =
    let vs = g.Q.Query.values c.args.query.now in
    let f = format_of g.Q.Saved.NUMBER vs (g.Q.Query.facts vs) g.Q.Query.text_of in
    let checkpoint = c.args.checkpoint.now in
    let all : c.of-items.result ≡ lines_of checkpoint.cells checkpoint.wakes = cc in
    record {
      wrote = ([], ap (texts_of f) all, sym (grown-nothing _));
      may = subst (CellsMay f checkpoint.time) (sym all) (all_may f checkpoint c.requires);
      frame = refl;
      no_fault = refl;
    }

pub loop-item-preserved : goal.loop-item-preserved
loop-item-preserved g c =
    let vs = g.Q.Query.values c.args.query.now in
    let f = format_of g.Q.Saved.NUMBER vs (g.Q.Query.facts vs) g.Q.Query.text_of in
    let t = c.args.checkpoint.now.time in
    let line = line_said c.in-Some.item in
    let left : List (SavedLine _) = c.item.new.self in
    let piece = texts_of f (line ∷ []) in
    let may = first_may f t line left (subst (CellsMay f t) c.in-Some.ensures c.loop-item.invariant.may) in
    let told : c.as_slice.result.now ≡ piece = c.as_slice.ensures.value ∙ c.in_ok-put_item.ensures t may.0 ∙ ap (λ (l : List ℕ). l ++ piece) c.clear.ensures.items in
    let wrote = c.loop-item.invariant.wrote in
    let before = g.S.Sink.written c.args.sink.now in
    record {
      wrote = (
        wrote.0 ++ piece,
        append_assoc wrote.0 piece (texts_of f left) ∙ ap (λ (l : List ℕ). wrote.0 ++ l) (first_text f line left) ∙ ap (λ (ls : List (SavedLine _)). wrote.0 ++ texts_of f ls) (sym c.in-Some.ensures) ∙ wrote.1,
        c.in_ok-write_piece.ensures.whole ∙ ap (grown (g.S.Sink.written c.loop-item.sink)) told ∙ ap (λ (w : Option (List ℕ)). grown w piece) wrote.2 ∙ grown-grown before wrote.0 piece,
      );
      may = may.1;
      frame = c.in_ok-write_piece.ensures.appends_only.same_frame ∙ c.loop-item.invariant.frame;
      no_fault = c.in_ok-write_piece.ensures.cause.served ∙ c.loop-item.invariant.no_fault;
    }

pub returns-in_err-write_piece-clause-part : goal.returns-in_err-write_piece-clause-part
returns-in_err-write_piece-clause-part g c =
    let vs = g.Q.Query.values c.args.query.now in
    let f = format_of g.Q.Saved.NUMBER vs (g.Q.Query.facts vs) g.Q.Query.text_of in
    let t = c.args.checkpoint.now.time in
    let line = line_said c.in-Some.item in
    let left : List (SavedLine _) = c.item.new.self in
    let piece = texts_of f (line ∷ []) in
    let may = first_may f t line left (subst (CellsMay f t) c.in-Some.ensures c.loop-item.invariant.may) in
    let told : c.as_slice.result.now ≡ piece = c.as_slice.ensures.value ∙ c.in_ok-put_item.ensures t may.0 ∙ ap (λ (l : List ℕ). l ++ piece) c.clear.ensures.items in
    let wrote = c.loop-item.invariant.wrote in
    let part = c.in_err-write_piece.ensures.part in
    let at = g.S.Sink.written c.loop-item.sink in
    let whole = texts_of f (lines_of c.args.checkpoint.now.cells c.args.checkpoint.now.wakes) in
    on_err c.from_residual-in_err-write_piece.result
    (part_of_piece (g.S.Sink.written c.args.sink.now) at (g.S.Sink.written c.write_piece.new.sink) wrote.0 piece (texts_of f left) whole part.0
    (ap (λ (l : List ℕ). wrote.0 ++ l) (first_text f line left) ∙ ap (λ (ls : List (SavedLine _)). wrote.0 ++ texts_of f ls) (sym c.in-Some.ensures) ∙ wrote.1)
    wrote.2
    (part.2 ∙ ap (λ (l : List ℕ). grown at (take part.0 l)) told))
