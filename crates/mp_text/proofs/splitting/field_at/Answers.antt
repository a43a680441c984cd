-- The field stands from its start up to its end.
use Rattle.std.proofs.Common.{[], Some, get_or, sym, ap, ◌∙◌, arith}
use Rattle.std.proofs.lemmas.Option.{slice_get-get_or}
use Rattle.mp_text.specs.Fields.{fields_of}
use Rattle.mp_text.proofs.FieldEnds.{StandsAt, start_from-more, denotes-held, denotes-first, denotes-later, held-within}
use Rattle.mp_text.specs.declared.splitting.TheConstants.{FIELDS_HELD}
use Rattle.mp_text.proofs.splitting.field_at.Goals.{then-index-eq0, else-index-eq0}
use Rattle.mp_text.proofs.splitting.field_at.Goals as goal

pub overflow_add-start : goal.overflow_add-start
overflow_add-start c =
    let denotes = denotes-held FIELDS_HELD c.args.line.now c.args.ends.now c.args.index c.requires.ends c.requires.held in
    let start = start_from-more 0 c.args.ends.now c.args.index c.if-index-eq0.false in
    omega (arith, denotes.order, start, c.type_inv.ends c.args.index)

pub slice_bounds-result-count : goal.slice_bounds-result-count
slice_bounds-result-count c =
    elim c.if-index-eq0.branch [
      | then-index-eq0 w ↦ omega (arith, w.start-is)
      | else-index-eq0 w ↦ (denotes-later FIELDS_HELD c.args.line.now c.args.ends.now c.args.index c.if-index-eq0.start c.requires.ends c.requires.held w.if-index-eq0.false w.start-is).order
    ]

pub slice_bounds-result-start : goal.slice_bounds-result-start
slice_bounds-result-start c = slice_bounds-result-count c

pub slice_bounds-result-end : goal.slice_bounds-result-end
slice_bounds-result-end c = (denotes-held FIELDS_HELD c.args.line.now c.args.ends.now c.args.index c.requires.ends c.requires.held).within

pub returns : goal.returns
returns c =
    let denotes : StandsAt c.args.line.now c.if-index-eq0.start (get_or c.args.ends.now c.args.index 0) (get_or (fields_of c.args.line.now) c.args.index []) =
    elim c.if-index-eq0.branch [
      | then-index-eq0 w ↦ denotes-first FIELDS_HELD c.args.line.now c.args.ends.now c.args.index c.if-index-eq0.start c.requires.ends c.requires.held w.if-index-eq0.true w.start-is
      | else-index-eq0 w ↦ denotes-later FIELDS_HELD c.args.line.now c.args.ends.now c.args.index c.if-index-eq0.start c.requires.ends c.requires.held w.if-index-eq0.false w.start-is
    ] in
    slice_get-get_or _ c.args.index [] (held-within FIELDS_HELD c.args.line.now c.args.ends.now c.args.index c.requires.ends c.requires.held) ∙ ap Some (sym denotes.bytes)
