use Rattle.std.proofs.Common.{◌≡◌, ◌==◌, ◌&&◌, not, length, get_or, Option, Some, sym, ap, subst, ◌∙◌, arith}
use Rattle.std.specs.List.{prefix_len}
use Rattle.std.specs.Option.{IfNone, IfSome}
use Rattle.std.specs.Prelude.{slice_get}
use Rattle.std.proofs.lemmas.Bool.{and_from, and_parts, both_ways, eq-eqb, eqb-true}
use Rattle.std.proofs.lemmas.List.Sums.{prefix_len-le-length}
use Rattle.mp_names.specs.Names.{is_before}
use Rattle.mp_names.specs.declared.controls.Move.{Move}
use Rattle.mp_ordered.proofs.Placing.{read_at}
use Rattle.mp_bins.specs.Changes.{IsFirstFrom, key_of, rank_of_move}
use Rattle.mp_bins.proofs.Ranking.{first_is, key_parts, none_from, upto_first}
use Rattle.mp_bins.proofs.ranked.first_from.Goals as goal

abbrev no_move : Move
no_move = record { time = 0; stage = 0; bin = 0; from = 0; to = 0 }

pub first_behind-requires : goal.first_behind-requires
first_behind-requires c = upto_first c.args.changes.now.items (key_of c.args.stage c.args.worker c.args.after) c.requires

pub returns-in_default-clause-none : goal.returns-in_default-clause-none
returns-in_default-clause-none c =
    let ms = c.args.changes.now.items in
    let key = key_of c.args.stage c.args.worker c.args.after in
    let upto = λ (m : Move). not (is_before key (rank_of_move m)) in
    let p = prefix_len upto ms in
    let past : length ms ≡ p = subst (λ (o : Option _). IfNone o (length ms ≡ p)) c.in_default.is c.first_behind.ensures.none in
    none_from ms c.requires c.args.stage c.args.worker c.args.after p (prefix_len-le-length upto ms) (key_parts ms key c.requires) no_move (λ l e f. absurd (omega arith))

pub returns-then-is_from-clause-first : goal.returns-then-is_from-clause-first
returns-then-is_from-clause-first c =
    let ms = c.args.changes.now.items in
    let key = key_of c.args.stage c.args.worker c.args.after in
    let upto = λ (m : Move). not (is_before key (rank_of_move m)) in
    let p = prefix_len upto ms in
    let change = c.in-Some.change.now in
    let some = subst (λ (o : Option _). IfSome o (λ x. slice_get ms p ≡ Some x.now)) c.in-Some.is c.first_behind.ensures.some in
    let read = read_at ms p change some in
    let this = get_or ms p no_move in
    let is : this ≡ change = read.1 no_move in
    let q = and_parts (this.stage == c.args.stage) (this.from == c.args.worker) (ap (λ (m : Move). m.stage == c.args.stage && m.from == c.args.worker) is ∙ sym c.is_from.ensures ∙ c.if-is_from.true) in
    subst (IsFirstFrom ms c.args.stage c.args.worker c.args.after) is (first_is ms c.requires c.args.stage c.args.worker c.args.after p (prefix_len-le-length upto ms) (key_parts ms key c.requires) no_move read.0 (eqb-true this.stage c.args.stage q.0) (eqb-true this.from c.args.worker q.1))

pub returns-clause-none : goal.returns-clause-none
returns-clause-none c =
    let ms = c.args.changes.now.items in
    let key = key_of c.args.stage c.args.worker c.args.after in
    let upto = λ (m : Move). not (is_before key (rank_of_move m)) in
    let p = prefix_len upto ms in
    let change = c.in-Some.change.now in
    let some = subst (λ (o : Option _). IfSome o (λ x. slice_get ms p ≡ Some x.now)) c.in-Some.is c.first_behind.ensures.some in
    let this = get_or ms p no_move in
    let is : this ≡ change = (read_at ms p change some).1 no_move in
    let tested = ap (λ (m : Move). m.stage == c.args.stage && m.from == c.args.worker) is ∙ sym c.is_from.ensures ∙ c.if-is_from.false in
    none_from ms c.requires c.args.stage c.args.worker c.args.after p (prefix_len-le-length upto ms) (key_parts ms key c.requires) no_move
    (λ l e f. both_ways (this.stage == c.args.stage && this.from == c.args.worker) tested (and_from (this.stage == c.args.stage) (this.from == c.args.worker) (eq-eqb this.stage c.args.stage e) (eq-eqb this.from c.args.worker f)))
