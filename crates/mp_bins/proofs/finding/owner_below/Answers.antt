use Rattle.std.proofs.Common.{◌≡◌, ◌<◌, ◌-◌, ◌==◌, ◌&&◌, [], ◌∷◌, Option, Some, sym, ap, subst, ◌∙◌, arith}
use Rattle.std.specs.List.{prefix_len}
use Rattle.std.specs.Option.{IfNone, IfSome}
use Rattle.std.specs.Prelude.{slice_get}
use Rattle.std.proofs.lemmas.List.Sums.{prefix_len-le-length}
use Rattle.mp_names.specs.Names.{is_before}
use Rattle.mp_ordered.proofs.Placing.{read_at}
use Rattle.mp_bins.specs.declared.owners.Note.{Note}
use Rattle.mp_bins.specs.Notes.{no_note, note_at, rank_of_note}
use Rattle.mp_bins.proofs.Searching.{first_owns, last_owns, limit_parts, of_test, not_of_test}
use Rattle.mp_bins.proofs.finding.owner_below.Goals as goal

pub returns-in_default : goal.returns-in_default
returns-in_default c =
    let ns = c.args.notes.now.items in
    let of = c.args.of in
    let below = λ (n : Note). is_before (rank_of_note n) (of.stage ∷ of.bin ∷ c.args.limit ∷ []) in
    let p = prefix_len below ns in
    let none : p ≡ 0 = subst (λ (o : Option _). IfNone o (p ≡ 0)) c.in_default.is c.last_below.ensures.none in
    sym (first_owns ns c.requires of.stage of.bin c.args.limit p (prefix_len-le-length below ns) (limit_parts ns of.stage of.bin c.args.limit c.requires) of.first (λ l h. absurd (omega arith)))

pub returns-then-is_of : goal.returns-then-is_of
returns-then-is_of c =
    let ns = c.args.notes.now.items in
    let of = c.args.of in
    let note = c.in-Some.note.now in
    let below = λ (n : Note). is_before (rank_of_note n) (of.stage ∷ of.bin ∷ c.args.limit ∷ []) in
    let p = prefix_len below ns in
    let some = subst (λ (o : Option _). IfSome o (λ x. slice_get ns (p - 1) ≡ Some x.now)) c.in-Some.is c.last_below.ensures.some in
    let front : 0 < p = subst (λ (o : Option _). IfSome o (λ x. 0 < p)) c.in-Some.is c.last_below.ensures.some_in_front in
    let is : note_at ns (p - 1) ≡ note = (read_at ns (p - 1) note some).1 no_note in
    let tested = ap (λ (n : Note). n.control.stage == of.stage && n.control.bin == of.bin) is ∙ sym c.is_of.ensures ∙ c.if-is_of.true in
    ap (λ (n : Note). n.control.worker) (sym is)
    ∙ sym (last_owns ns c.requires of.stage of.bin c.args.limit p (prefix_len-le-length below ns) (limit_parts ns of.stage of.bin c.args.limit c.requires) of.first front (of_test of.stage of.bin (note_at ns (p - 1)) tested))

pub returns : goal.returns
returns c =
    let ns = c.args.notes.now.items in
    let of = c.args.of in
    let note = c.in-Some.note.now in
    let below = λ (n : Note). is_before (rank_of_note n) (of.stage ∷ of.bin ∷ c.args.limit ∷ []) in
    let p = prefix_len below ns in
    let some = subst (λ (o : Option _). IfSome o (λ x. slice_get ns (p - 1) ≡ Some x.now)) c.in-Some.is c.last_below.ensures.some in
    let is : note_at ns (p - 1) ≡ note = (read_at ns (p - 1) note some).1 no_note in
    let tested = ap (λ (n : Note). n.control.stage == of.stage && n.control.bin == of.bin) is ∙ sym c.is_of.ensures ∙ c.if-is_of.false in
    sym (first_owns ns c.requires of.stage of.bin c.args.limit p (prefix_len-le-length below ns) (limit_parts ns of.stage of.bin c.args.limit c.requires) of.first (λ l h. not_of_test of.stage of.bin (note_at ns (p - 1)) tested h))
