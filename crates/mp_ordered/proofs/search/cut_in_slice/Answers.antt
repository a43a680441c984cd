use Rattle.std.proofs.Common.{◌-◌, ◌∙◌, sym, arith, length}
use Rattle.std.proofs.lemmas.List.Sums.{prefix_len-le-length}
use Rattle.mp_ordered.proofs.Halving.{count_past}
use Rattle.mp_ordered.proofs.search.cut_in_slice.Goals as goal

pub returns-then-is_in_front : goal.returns-then-is_in_front
returns-then-is_in_front g c =
    let p = g.C.Cut.front c.args.cut.now in
    let xs = c.args.items.now in
    let last = c.in-Some.ensures.item in
    let past = count_past p xs (length xs - 1) c.in-Some.last.now c.requires (omega (arith, last.3.0)) last.1 (sym c.is_in_front.ensures ∙ c.if-is_in_front.true) in
    omega (arith, past, last.3.0, prefix_len-le-length p xs)
