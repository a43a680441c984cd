-- The first line, those of the cells and wakes, and the last line are the file.
use Rattle.std.proofs.Common.{◌≡◌, ◌++◌, ◌+◌, ◌∷◌, [], ℕ, List, Option, arith, length, sym, ap, ◌∙◌, append_assoc, append-nil, take}
use Rattle.std.proofs.lemmas.Result.{on_err_weaker, on_ok_weaker}
use Rattle.mp_outside.specs.Sink.{grown}
use Rattle.mp_outside.proofs.SinkLemmas.{grown-grown, grown-nothing}
use Rattle.mp_opening.specs.Checkpoints.{CheckpointOf}
use Rattle.mp_checkpoint_laws.specs.Files.{file_text, first_line, format_of, last_line, lines_of}
use Rattle.mp_checkpoint.specs.Written.{texts_of}
use Rattle.mp_checkpoint.proofs.Pieces.{count_lines, file_in_parts, nothing_written, on_err, part_of_next, part_of_piece}
use Rattle.mp_checkpoint.proofs.writing.write_checkpoint.Goals as goal

pub returns-in_err-put_first_line-clause-part : goal.returns-in_err-put_first_line-clause-part
returns-in_err-put_first_line-clause-part g c =
    let vs = g.Q.Query.values c.args.query.now in
    let f = format_of g.Q.Saved.NUMBER vs (g.Q.Query.facts vs) g.Q.Query.text_of in
    let checkpoint = c.args.checkpoint.now in
    on_err c.from_residual.result (nothing_written (file_text f checkpoint.time (lines_of checkpoint.cells checkpoint.wakes)) (g.S.Sink.written c.args.sink.now))

pub returns-in_err-write_piece-clause-part : goal.returns-in_err-write_piece-clause-part
returns-in_err-write_piece-clause-part g c =
    let vs = g.Q.Query.values c.args.query.now in
    let f = format_of g.Q.Saved.NUMBER vs (g.Q.Query.facts vs) g.Q.Query.text_of in
    let checkpoint = c.args.checkpoint.now in
    let lines = lines_of checkpoint.cells checkpoint.wakes in
    let first_at = λ (t : ℕ). first_line f t ++ 10 ∷ [] in
    let first = first_at checkpoint.time in
    let told : c.as_slice.result.now ≡ first =
    c.as_slice.ensures.value ∙ c.in_ok-put_first_line.ensures ∙ ap (λ (l : List ℕ). l ++ first_at c.checkpoint.inside.time) c.new-line.ensures.items ∙ ap (λ (x : CheckpointOf _). first_at x.time) c.checkpoint.view_is in
    let part = c.in_err-write_piece.ensures.part in
    let before = g.S.Sink.written c.args.sink.now in
    on_err c.from_residual-in_err-write_piece.result
    (part_of_piece before before (g.S.Sink.written c.write_piece.new.sink) [] first (texts_of f lines ++ (last_line (length lines) ++ 10 ∷ [])) (file_text f checkpoint.time lines) part.0
    (file_in_parts f checkpoint.time lines) (sym (grown-nothing before)) (part.2 ∙ ap (λ (l : List ℕ). grown before (take part.0 l)) told))

pub returns-in_err-write_items-clause-part : goal.returns-in_err-write_items-clause-part
returns-in_err-write_items-clause-part g c =
    let vs = g.Q.Query.values c.args.query.now in
    let f = format_of g.Q.Saved.NUMBER vs (g.Q.Query.facts vs) g.Q.Query.text_of in
    let checkpoint = c.args.checkpoint.now in
    let lines = lines_of checkpoint.cells checkpoint.wakes in
    let first_at = λ (t : ℕ). first_line f t ++ 10 ∷ [] in
    let first = first_at checkpoint.time in
    let told : c.as_slice.result.now ≡ first =
    c.as_slice.ensures.value ∙ c.in_ok-put_first_line.ensures ∙ ap (λ (l : List ℕ). l ++ first_at c.checkpoint.inside.time) c.new-line.ensures.items ∙ ap (λ (x : CheckpointOf _). first_at x.time) c.checkpoint.view_is in
    let before = g.S.Sink.written c.args.sink.now in
    on_err c.from_residual-in_err-write_items.result
    (part_of_next before (g.S.Sink.written c.write_piece.new.sink) (g.S.Sink.written c.write_items.new.sink) first (texts_of f lines) (last_line (length lines) ++ 10 ∷ []) (file_text f checkpoint.time lines)
    (file_in_parts f checkpoint.time lines) (c.in_ok-write_piece.ensures.whole ∙ ap (grown before) told) c.in_err-write_items.ensures.part)

pub returns-in_err-put_last_line-clause-part : goal.returns-in_err-put_last_line-clause-part
returns-in_err-put_last_line-clause-part g c =
    let vs = g.Q.Query.values c.args.query.now in
    let f = format_of g.Q.Saved.NUMBER vs (g.Q.Query.facts vs) g.Q.Query.text_of in
    let checkpoint = c.args.checkpoint.now in
    let lines = lines_of checkpoint.cells checkpoint.wakes in
    let first_at = λ (t : ℕ). first_line f t ++ 10 ∷ [] in
    let first = first_at checkpoint.time in
    let told : c.as_slice.result.now ≡ first =
    c.as_slice.ensures.value ∙ c.in_ok-put_first_line.ensures ∙ ap (λ (l : List ℕ). l ++ first_at c.checkpoint.inside.time) c.new-line.ensures.items ∙ ap (λ (x : CheckpointOf _). first_at x.time) c.checkpoint.view_is in
    let before = g.S.Sink.written c.args.sink.now in
    let wrote : g.S.Sink.written c.write_items.new.sink ≡ grown before (first ++ texts_of f lines) =
    c.in_ok-write_items.ensures.whole ∙ ap (λ (w : Option (List ℕ)). grown w (texts_of f lines)) (c.in_ok-write_piece.ensures.whole ∙ ap (grown before) told) ∙ grown-grown before first (texts_of f lines) in
    on_err c.from_residual-in_err-put_last_line.result
    (first ++ texts_of f lines, (last_line (length lines) ++ 10 ∷ [], append_assoc first (texts_of f lines) (last_line (length lines) ++ 10 ∷ []) ∙ file_in_parts f checkpoint.time lines), wrote)

pub returns-clause-whole : goal.returns-clause-whole
returns-clause-whole g c =
    let vs = g.Q.Query.values c.args.query.now in
    let f = format_of g.Q.Saved.NUMBER vs (g.Q.Query.facts vs) g.Q.Query.text_of in
    let checkpoint = c.args.checkpoint.now in
    let lines = lines_of checkpoint.cells checkpoint.wakes in
    let first_at = λ (t : ℕ). first_line f t ++ 10 ∷ [] in
    let first = first_at checkpoint.time in
    let told : c.as_slice.result.now ≡ first =
    c.as_slice.ensures.value ∙ c.in_ok-put_first_line.ensures ∙ ap (λ (l : List ℕ). l ++ first_at c.checkpoint.inside.time) c.new-line.ensures.items ∙ ap (λ (x : CheckpointOf _). first_at x.time) c.checkpoint.view_is in
    let before = g.S.Sink.written c.args.sink.now in
    let wrote : g.S.Sink.written c.write_items.new.sink ≡ grown before (first ++ texts_of f lines) =
    c.in_ok-write_items.ensures.whole ∙ ap (λ (w : Option (List ℕ)). grown w (texts_of f lines)) (c.in_ok-write_piece.ensures.whole ∙ ap (grown before) told) ∙ grown-grown before first (texts_of f lines) in
    let count : c.len.result + c.len-2.result ≡ length lines =
    omega (arith, c.len.ensures, c.len-2.ensures, c.checkpoint.inside.cells.ok.0, c.checkpoint.inside.wakes.ok.0, count_lines c.checkpoint.inside.cells.items c.checkpoint.inside.wakes.items, ap (λ (x : CheckpointOf _). length (lines_of x.cells x.wakes)) c.checkpoint.view_is) in
    let last_of = λ (n : ℕ). last_line n ++ 10 ∷ [] in
    let last : c.as_slice-2.result.now ≡ last_line (length lines) ++ 10 ∷ [] =
    c.as_slice-2.ensures.value ∙ c.in_ok-put_last_line.ensures ∙ ap (λ (l : List ℕ). l ++ last_of (c.len.result + c.len-2.result)) c.clear.ensures.items ∙ ap last_of count in
    on_ok_weaker c.write_piece-2.result
    (λ here.
    here ∙ ap (grown (g.S.Sink.written c.write_items.new.sink)) last ∙ ap (λ (w : Option (List ℕ)). grown w (last_line (length lines) ++ 10 ∷ [])) wrote ∙ grown-grown before (first ++ texts_of f lines) (last_line (length lines) ++ 10 ∷ [])
    ∙ ap (grown before) (append_assoc first (texts_of f lines) (last_line (length lines) ++ 10 ∷ []) ∙ file_in_parts f checkpoint.time lines))
    c.write_piece-2.ensures.whole

pub returns-clause-part : goal.returns-clause-part
returns-clause-part g c =
    let vs = g.Q.Query.values c.args.query.now in
    let f = format_of g.Q.Saved.NUMBER vs (g.Q.Query.facts vs) g.Q.Query.text_of in
    let checkpoint = c.args.checkpoint.now in
    let lines = lines_of checkpoint.cells checkpoint.wakes in
    let first_at = λ (t : ℕ). first_line f t ++ 10 ∷ [] in
    let first = first_at checkpoint.time in
    let told : c.as_slice.result.now ≡ first =
    c.as_slice.ensures.value ∙ c.in_ok-put_first_line.ensures ∙ ap (λ (l : List ℕ). l ++ first_at c.checkpoint.inside.time) c.new-line.ensures.items ∙ ap (λ (x : CheckpointOf _). first_at x.time) c.checkpoint.view_is in
    let before = g.S.Sink.written c.args.sink.now in
    let wrote : g.S.Sink.written c.write_items.new.sink ≡ grown before (first ++ texts_of f lines) =
    c.in_ok-write_items.ensures.whole ∙ ap (λ (w : Option (List ℕ)). grown w (texts_of f lines)) (c.in_ok-write_piece.ensures.whole ∙ ap (grown before) told) ∙ grown-grown before first (texts_of f lines) in
    let count : c.len.result + c.len-2.result ≡ length lines =
    omega (arith, c.len.ensures, c.len-2.ensures, c.checkpoint.inside.cells.ok.0, c.checkpoint.inside.wakes.ok.0, count_lines c.checkpoint.inside.cells.items c.checkpoint.inside.wakes.items, ap (λ (x : CheckpointOf _). length (lines_of x.cells x.wakes)) c.checkpoint.view_is) in
    let last_of = λ (n : ℕ). last_line n ++ 10 ∷ [] in
    let last : c.as_slice-2.result.now ≡ last_line (length lines) ++ 10 ∷ [] =
    c.as_slice-2.ensures.value ∙ c.in_ok-put_last_line.ensures ∙ ap (λ (l : List ℕ). l ++ last_of (c.len.result + c.len-2.result)) c.clear.ensures.items ∙ ap last_of count in
    on_err_weaker c.write_piece-2.result
    (λ part.
    part_of_piece before (g.S.Sink.written c.write_items.new.sink) (g.S.Sink.written c.write_piece-2.new.sink) (first ++ texts_of f lines) (last_line (length lines) ++ 10 ∷ []) [] (file_text f checkpoint.time lines) part.0
    (ap (λ (l : List ℕ). (first ++ texts_of f lines) ++ l) (append-nil (last_line (length lines) ++ 10 ∷ [])) ∙ append_assoc first (texts_of f lines) (last_line (length lines) ++ 10 ∷ []) ∙ file_in_parts f checkpoint.time lines)
    wrote
    (part.2 ∙ ap (λ (l : List ℕ). grown (g.S.Sink.written c.write_items.new.sink) (take part.0 l)) last))
    c.write_piece-2.ensures.part
