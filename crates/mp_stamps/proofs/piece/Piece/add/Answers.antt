-- The count that changes stands among those of the piece.
use Rattle.std.proofs.Common.{◌≡◌, ◌∙◌, ◌<◌, ap, ap₂, sym, length, pos, get_or, set, inr, of_z, to_z, List, ℤ, ◌+ℤ◌, rules, subst, arith, FitsSigned}
use Rattle.std.specs.Int.{w128}
use Rattle.std.proofs.lemmas.Bool.{true≢false}
use Rattle.std.proofs.lemmas.List.{get_or_default, get_or-set_same, length-set}
use Rattle.mp_stamps.specs.Rows.{IsSpan, PieceState, counts_held, is_outstanding}
use Rattle.mp_stamps.proofs.Firsts.{span_changed}
use Rattle.mp_stamps.proofs.Joined.{full, whole}
use Rattle.mp_stamps.proofs.piece.Piece.add.Goals as goal

pub sum_of-sum-requires : goal.sum_of-sum-requires
sum_of-sum-requires c =
    let held = c.fill_if_empty.new.counts.items in
    let long : length held ≡ 1024 = ap (λ (xs : List ℤ). length xs) c.fill_if_empty.ensures.filled ∙ whole c.self.inside.counts.items c.self.invariant.piece in
    let inside : c.args.index < length held = omega (arith, long, c.requires.index) in
    let is : held ≡ c.args.self.now.counts = c.fill_if_empty.ensures.filled ∙ ap (λ (p : PieceState). p.counts) c.self.view_is in
    let read : c.index.result.now ≡ get_or c.args.self.now.counts c.args.index (pos 0) =
    c.index.ensures ∙ get_or_default held c.args.index c.index.result.now (pos 0) inside ∙ ap (λ (xs : List ℤ). get_or xs c.args.index (pos 0)) is in
    search (subst (λ (n : ℤ). FitsSigned w128 (n +ℤ c.args.by)) (sym read) c.requires.fits, rules)

pub span_after-self-inside-requires-clause-open : goal.span_after-self-inside-requires-clause-open
span_after-self-inside-requires-clause-open c =
    let held = c.fill_if_empty.new.counts.items in
    let long : length held ≡ 1024 = ap (λ (xs : List ℤ). length xs) c.fill_if_empty.ensures.filled ∙ whole c.self.inside.counts.items c.self.invariant.piece in
    let inside : c.args.index < length held = omega (arith, long, c.requires.index) in
    rw c.deref.ensures.value (c.is_open-is_open.ensures ∙ ap is_outstanding (sym (get_or-set_same held c.args.index _ (pos 0) inside)))

pub span_after-self-inside-requires-clause-before : goal.span_after-self-inside-requires-clause-before
span_after-self-inside-requires-clause-before c =
    let span = subst (λ (xs : List ℤ). IsSpan xs c.self.inside.span.first c.self.inside.span.end) (sym c.fill_if_empty.ensures.filled) c.self.invariant.span in
    rw c.deref.ensures.value (span_changed c.fill_if_empty.new.counts.items c.self.inside.span.first c.self.inside.span.end c.args.index _ span)

pub returns-clause-counts : goal.returns-clause-counts
returns-clause-counts c =
    let held = c.fill_if_empty.new.counts.items in
    let long : length held ≡ 1024 = ap (λ (xs : List ℤ). length xs) c.fill_if_empty.ensures.filled ∙ whole c.self.inside.counts.items c.self.invariant.piece in
    let inside : c.args.index < length held = omega (arith, long, c.requires.index) in
    let is : held ≡ c.args.self.now.counts = c.fill_if_empty.ensures.filled ∙ ap (λ (p : PieceState). p.counts) c.self.view_is in
    let read : c.index.result.now ≡ get_or c.args.self.now.counts c.args.index (pos 0) =
    c.index.ensures ∙ get_or_default held c.args.index c.index.result.now (pos 0) inside ∙ ap (λ (xs : List ℤ). get_or xs c.args.index (pos 0)) is in
    let value : c.sum_of-sum.result ≡ get_or c.args.self.now.counts c.args.index (pos 0) +ℤ c.args.by = search (c.sum_of-sum.ensures, read, rules) in
    let h : counts_held (set held c.args.index c.sum_of-sum.result) ≡ set c.args.self.now.counts c.args.index (get_or c.args.self.now.counts c.args.index (pos 0) +ℤ c.args.by) =
    full (set held c.args.index c.sum_of-sum.result) (length-set held c.args.index c.sum_of-sum.result ∙ long)
    ∙ ap₂ (λ (xs : List ℤ) (v : ℤ). set xs c.args.index v) is value in
    search (h, rules)

pub returns-clause-open : goal.returns-clause-open
returns-clause-open c =
    let held = c.fill_if_empty.new.counts.items in
    let long : length held ≡ 1024 = ap (λ (xs : List ℤ). length xs) c.fill_if_empty.ensures.filled ∙ whole c.self.inside.counts.items c.self.invariant.piece in
    let inside : c.args.index < length held = omega (arith, long, c.requires.index) in
    let all = full (set held c.args.index (to_z w128 (of_z w128 c.sum_of-sum.result))) (length-set held c.args.index _ ∙ long) in
    rw all (c.is_open-is_open.ensures ∙ ap is_outstanding (sym (get_or-set_same held c.args.index _ (pos 0) inside)))

pub invariant_of-self : goal.invariant_of-self
invariant_of-self c =
    let held = c.fill_if_empty.new.counts.items in
    let long : length held ≡ 1024 = ap (λ (xs : List ℤ). length xs) c.fill_if_empty.ensures.filled ∙ whole c.self.inside.counts.items c.self.invariant.piece in
    let then = set held c.args.index (to_z w128 (of_z w128 c.sum_of-sum.result)) in
    let filled : length then ≡ 1024 = length-set held c.args.index _ ∙ long in
    let span = subst (λ (xs : List ℤ). IsSpan xs c.span_after-self-inside.result.first c.span_after-self-inside.result.end) c.deref.ensures.value c.span_after-self-inside.ensures in
    record {
      piece = inr filled;
      room = λ _. c.fill_if_empty.ensures.room;
      freed = λ e. absurd (true≢false (sym (ap (λ (p : PieceState). p.kept) c.self.view_is ∙ c.requires.kept) ∙ e));
      span = subst (λ (xs : List ℤ). IsSpan xs c.span_after-self-inside.result.first c.span_after-self-inside.result.end) (sym (full then filled)) span;
    }
