use Rattle.std.proofs.Common.{◌<◌, ◌∙◌, ap, sym, arith, length}
use Rattle.std.proofs.lemmas.Bool.{not-true}
use Rattle.std.proofs.lemmas.List.{get_or_read}
use Rattle.mp_ordered.proofs.Placed.{got_past, none_from, put_behind}
use Rattle.mp_ordered_runs.proofs.runs.goes_behind_run.Goals as goal

pub returns : goal.returns
returns g c = λ t.
    let rank = g.O.Order.rank in
    let run = c.args.run.now in
    let x = c.args.item.now in
    let some : 0 < length run = omega (arith, c.if-at-eq0.false, c.requires.inside) in
    record {
      some = some;
      other = λ d. ap (λ y. g.O.Kinds.same y x) (sym (get_or_read run 0 c.index-run-0.result some c.index-run-0.is d)) ∙ sym c.is_same.ensures ∙ not-true c.is_same.result t;
      place = λ rest. put_behind rank x run rest (none_from rank x run (sym c.requires.place ∙ got_past run c.args.at c.if-at-run.false));
    }
