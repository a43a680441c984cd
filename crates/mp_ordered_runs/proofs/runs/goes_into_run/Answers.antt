use Rattle.std.proofs.Common.{◌<◌, ◌∙◌, ap, sym, arith, get_or, length}
use Rattle.std.proofs.lemmas.Bool.{not-true}
use Rattle.std.proofs.lemmas.List.{get_or_default, get_or_read}
use Rattle.mp_ordered.proofs.Placed.{got, put_where_found, put_within}
use Rattle.mp_ordered_runs.proofs.runs.goes_into_run.Goals as goal

pub returns-then-at-run : goal.returns-then-at-run
returns-then-at-run g c = λ t.
    let rank = g.O.Order.rank in
    let run = c.args.run.now in
    let x = c.args.item.now in
    let at = c.args.at in
    let some : 0 < length run = omega (arith, c.if-at-eq0.false, c.requires.inside) in
    let y = get_or run at x in
    record {
      some = omega (arith, c.if-at-eq0.false);
      kind = λ d. ap (λ y. g.O.Kinds.same y x) (sym (get_or_read run 0 c.index-run-0.result some c.index-run-0.is d)) ∙ sym c.is_same.ensures ∙ c.if-not-is_same.false;
      place = put_where_found rank x run c.args.rest.now.items y (sym c.requires.place ∙ got run at y c.if-at-run.true (get_or_default run at x y c.if-at-run.true));
    }

pub returns : goal.returns
returns g c = λ t.
    let rank = g.O.Order.rank in
    let run = c.args.run.now in
    let x = c.args.item.now in
    let some : 0 < length run = omega (arith, c.if-at-eq0.false, c.requires.inside) in
    record {
      some = omega (arith, c.if-at-eq0.false);
      kind = λ d. ap (λ y. g.O.Kinds.same y x) (sym (get_or_read run 0 c.index-run-0.result some c.index-run-0.is d)) ∙ sym c.is_same.ensures ∙ c.if-not-is_same.false;
      place = put_within rank x run c.args.rest.now.items (sym c.begins_before.ensures ∙ not-true c.begins_before.result t);
    }
