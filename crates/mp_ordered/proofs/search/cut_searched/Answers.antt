use Rattle.std.proofs.Common.{◌+◌, ◌/◌, ◌∙◌, sym, arith}
use Rattle.std.proofs.lemmas.List.Sums.{prefix_len-le-length}
use Rattle.mp_ordered.proofs.Halving.{count_past, count_upto}
use Rattle.mp_ordered.proofs.search.cut_searched.Goals as goal
use Rattle.mp_ordered.proofs.search.cut_searched.Goals.{then-is_in_front, else-is_in_front}

pub loop-size-init : goal.loop-size-init
loop-size-init g c =
    let most = prefix_len-le-length (g.C.Cut.front c.args.cut.now) c.args.items.now in
    record { some = c.requires.some; inside = omega arith; least = omega arith; most = omega (arith, most) }

pub loop-size-preserved : goal.loop-size-preserved
loop-size-preserved g c =
    let p = g.C.Cut.front c.args.cut.now in
    let xs = c.args.items.now in
    let mid = c.loop-size.base + c.loop-size.size / 2 in
    let x = c.index-items-base.result in
    let i = c.loop-size.invariant in
    elim c.if-is_in_front.branch [
      | then-is_in_front w ↦
          let past = count_past p xs mid x c.requires.parted (omega (arith, i.inside)) c.index-items-base.is (sym c.is_in_front.ensures ∙ w.if-is_in_front.true) in
          record {
            some = omega arith;
            inside = omega (arith, w.base-is, i.inside);
            least = omega (arith, w.base-is, past);
            most = omega (arith, w.base-is, i.most);
          }
      | else-is_in_front w ↦
          let upto = count_upto p xs mid x c.index-items-base.is (sym c.is_in_front.ensures ∙ w.if-is_in_front.false) in
          record {
            some = omega arith;
            inside = omega (arith, w.base-is, i.inside);
            least = omega (arith, w.base-is, i.least);
            most = omega (arith, w.base-is, upto);
          }
    ]

pub returns-then-is_in_front-2 : goal.returns-then-is_in_front-2
returns-then-is_in_front-2 g c =
    let i = c.loop-size.invariant in
    let past = count_past (g.C.Cut.front c.args.cut.now) c.args.items.now c.loop-size.base c.index-items-base-2.result c.requires.parted (omega (arith, i.inside, i.some)) c.index-items-base-2.is (sym c.is_in_front-2.ensures ∙ c.if-is_in_front-2.true) in
    omega (arith, past, i.most)

pub returns-else-is_in_front-2 : goal.returns-else-is_in_front-2
returns-else-is_in_front-2 g c =
    let i = c.loop-size.invariant in
    let upto = count_upto (g.C.Cut.front c.args.cut.now) c.args.items.now c.loop-size.base c.index-items-base-2.result c.index-items-base-2.is (sym c.is_in_front-2.ensures ∙ c.if-is_in_front-2.false) in
    omega (arith, upto, i.least)
