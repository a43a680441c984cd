use Rattle.std.proofs.Common.{◌≡◌, ◌+◌, ◌-◌, ◌∙◌, ap, length, refl, sym, take, arith}
use Rattle.std.specs.Prelude.{slice_get}
use Rattle.std.specs.List.{prefix_len}
use Rattle.mp_ordered.specs.Blocks.{items_of}
use Rattle.mp_ordered.proofs.Nearest.{ends_at}
use Rattle.mp_ordered.proofs.hinted.last_at.Goals as goal

pub returns-then-is_end-clause-some : goal.returns-then-is_end-clause-some
returns-then-is_end-clause-some g c =
    let p = g.C.Cut.front c.args.cut.now in
    let xs = items_of c.args.blocks.now in
    let from = length (items_of (take c.args.spot.block c.args.blocks.now)) in
    let at = from + c.args.spot.place in
    let next = from + (c.args.spot.place + 1) in
    let count = ends_at p xs at next c.in_ok-item.item.now c.requires.parted c.in_ok-item.ensures.some (sym c.is_in_front.ensures ∙ c.if-is_in_front.true) (omega arith) (c.if-is_end.ensures refl) in
    let last : prefix_len p xs - 1 ≡ at = omega (arith, count) in
    ap (λ n. slice_get xs n) last ∙ c.in_ok-item.ensures.some

pub returns-then-is_end-clause-some_in_front : goal.returns-then-is_end-clause-some_in_front
returns-then-is_end-clause-some_in_front g c =
    let p = g.C.Cut.front c.args.cut.now in
    let xs = items_of c.args.blocks.now in
    let from = length (items_of (take c.args.spot.block c.args.blocks.now)) in
    let at = from + c.args.spot.place in
    let next = from + (c.args.spot.place + 1) in
    let count = ends_at p xs at next c.in_ok-item.item.now c.requires.parted c.in_ok-item.ensures.some (sym c.is_in_front.ensures ∙ c.if-is_in_front.true) (omega arith) (c.if-is_end.ensures refl) in
    omega (arith, count)
