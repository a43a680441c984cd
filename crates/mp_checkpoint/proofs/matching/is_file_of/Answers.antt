-- The first line, those of the cells and wakes, and the last line are the text, or it goes on otherwise.
use Rattle.std.proofs.Common.{◌≡◌, ◌++◌, ◌+◌, ◌∷◌, [], ℕ, List, arith, length, sym, ap, ◌∙◌}
use Rattle.std.proofs.lemmas.Bool.{false≢true}
use Rattle.std.proofs.lemmas.List.{append_cancel_left}
use Rattle.std.proofs.lemmas.Option.{MatchOption-at_none, MatchOption-at_some}
use Rattle.std.proofs.lemmas.Slice.Eq.{bytes_eq-Decides}
use Rattle.mp_opening.specs.Checkpoints.{CheckpointOf}
use Rattle.mp_checkpoint_laws.specs.Files.{first_line, format_of, last_line, lines_of}
use Rattle.mp_checkpoint.specs.Written.{texts_of}
use Rattle.mp_checkpoint.proofs.Pieces.{count_lines, file_in_parts}
use Rattle.mp_checkpoint.proofs.matching.is_file_of.Goals as goal

pub returns-in_default : goal.returns-in_default
returns-in_default g c =
    let vs = g.Q.Query.values c.args.query.now in
    let f = format_of g.Q.Saved.NUMBER vs (g.Q.Query.facts vs) g.Q.Query.text_of in
    let checkpoint = c.args.checkpoint.now in
    let lines = lines_of checkpoint.cells checkpoint.wakes in
    let first_at = λ (t : ℕ). first_line f t ++ 10 ∷ [] in
    let told : c.as_slice.result.now ≡ first_at checkpoint.time =
    c.as_slice.ensures.value ∙ c.in_ok-put_first_line.ensures ∙ ap (λ (l : List ℕ). l ++ first_at c.checkpoint.inside.time) c.new-line.ensures.items ∙ ap (λ (x : CheckpointOf _). first_at x.time) c.checkpoint.view_is in
    let more = texts_of f lines ++ (last_line (length lines) ++ 10 ∷ []) in (
      λ e. absurd (false≢true e),
      λ e. absurd (c.in_default.ensures more (e ∙ sym (file_in_parts f checkpoint.time lines) ∙ ap (λ (l : List ℕ). l ++ more) (sym told))),
    )

pub returns-in_default-2 : goal.returns-in_default-2
returns-in_default-2 g c =
    let vs = g.Q.Query.values c.args.query.now in
    let f = format_of g.Q.Saved.NUMBER vs (g.Q.Query.facts vs) g.Q.Query.text_of in
    let checkpoint = c.args.checkpoint.now in
    let lines = lines_of checkpoint.cells checkpoint.wakes in
    let first_at = λ (t : ℕ). first_line f t ++ 10 ∷ [] in
    let first = first_at checkpoint.time in
    let told : c.as_slice.result.now ≡ first =
    c.as_slice.ensures.value ∙ c.in_ok-put_first_line.ensures ∙ ap (λ (l : List ℕ). l ++ first_at c.checkpoint.inside.time) c.new-line.ensures.items ∙ ap (λ (x : CheckpointOf _). first_at x.time) c.checkpoint.view_is in
    let rest = c.in-Some.rest.now in
    let text : c.args.text.now ≡ first ++ rest = c.in-Some.ensures ∙ ap (λ (l : List ℕ). l ++ rest) told in
    let last = last_line (length lines) ++ 10 ∷ [] in (
      λ e. absurd (false≢true e),
      λ e.
          let here : rest ≡ texts_of f lines ++ last = append_cancel_left first rest (texts_of f lines ++ last) (sym text ∙ e ∙ sym (file_in_parts f checkpoint.time lines)) in
          absurd (MatchOption-at_none _ _ c.in_default-2.is c.in_ok-last.ensures last here),
    )

pub returns : goal.returns
returns g c =
    let vs = g.Q.Query.values c.args.query.now in
    let f = format_of g.Q.Saved.NUMBER vs (g.Q.Query.facts vs) g.Q.Query.text_of in
    let checkpoint = c.args.checkpoint.now in
    let lines = lines_of checkpoint.cells checkpoint.wakes in
    let first_at = λ (t : ℕ). first_line f t ++ 10 ∷ [] in
    let first = first_at checkpoint.time in
    let told : c.as_slice.result.now ≡ first =
    c.as_slice.ensures.value ∙ c.in_ok-put_first_line.ensures ∙ ap (λ (l : List ℕ). l ++ first_at c.checkpoint.inside.time) c.new-line.ensures.items ∙ ap (λ (x : CheckpointOf _). first_at x.time) c.checkpoint.view_is in
    let rest = c.in-Some.rest.now in
    let last = c.in-Some-2.last.now in
    let text : c.args.text.now ≡ first ++ rest = c.in-Some.ensures ∙ ap (λ (l : List ℕ). l ++ rest) told in
    let behind : rest ≡ texts_of f lines ++ last = MatchOption-at_some _ _ c.in-Some-2.last c.in-Some-2.is c.in_ok-last.ensures in
    let count : c.len.result + c.len-2.result ≡ length lines =
    omega (arith, c.len.ensures, c.len-2.ensures, c.checkpoint.inside.cells.ok.0, c.checkpoint.inside.wakes.ok.0, count_lines c.checkpoint.inside.cells.items c.checkpoint.inside.wakes.items, ap (λ (x : CheckpointOf _). length (lines_of x.cells x.wakes)) c.checkpoint.view_is) in
    let last_of = λ (n : ℕ). last_line n ++ 10 ∷ [] in
    let end : c.as_slice-2.result.now ≡ last_of (length lines) =
    c.as_slice-2.ensures.value ∙ c.in_ok-put_last_line.ensures ∙ ap (λ (l : List ℕ). l ++ last_of (c.len.result + c.len-2.result)) c.clear.ensures.items ∙ ap last_of count in
    let whole = file_in_parts f checkpoint.time lines in (
      λ e.
          let same : c.as_slice-2.result.now ≡ last = (bytes_eq-Decides c.as_slice-2.result.now last).0 (sym c.eq.ensures ∙ e) in
          text ∙ ap (λ (l : List ℕ). first ++ l) (behind ∙ ap (λ (l : List ℕ). texts_of f lines ++ l) (sym same ∙ end)) ∙ whole,
      λ e.
          let here : last ≡ last_of (length lines) = append_cancel_left (texts_of f lines) last (last_of (length lines)) (sym behind ∙ append_cancel_left first rest (texts_of f lines ++ last_of (length lines)) (sym text ∙ e ∙ sym whole)) in
          c.eq.ensures ∙ (bytes_eq-Decides c.as_slice-2.result.now last).1 (end ∙ sym here),
    )
