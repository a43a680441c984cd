use Rattle.std.proofs.Common.{◌<◌, ◌++◌, ◌∷◌, [], ◌∙◌, ap, arith, drop, get_or, length, length-drop, length-set, refl, sym}
use Rattle.std.specs.List.{remove}
use Rattle.mp_ordered.specs.Blocks.{row_of}
use Rattle.mp_ordered.proofs.Changed.{first_has}
use Rattle.mp_ordered.proofs.Edited.{kept_less, kept_retired, more_room}
use Rattle.mp_ordered.proofs.Rows.{first_left, set_first_left}
use Rattle.mp_ordered.proofs.blocks.OrderedBlocks.pop_first.Goals as goal

pub invariant_of-self : goal.invariant_of-self
invariant_of-self g c =
    let rank = g.O.Order.rank in
    let s = c.self.inside in
    let inv = c.self.invariant.1 in
    let bs = drop s.gone s.blocks.items in
    let b = c.take_first-item.new.block in
    let was = c.index_mut-block.ensures.value ∙ sym (first_left s.blocks.items s.gone c.index_mut-block.result.now) in
    let taken = c.take_first-item.ensures in
    let has = first_has bs c.index_mut-block.result.now inv.filled (omega (arith, c.if-self-eq0.false, inv.count)) in
    let some : 0 < length c.index_mut-block.result.now.items = omega (arith, has.1, ap (λ v. length v.items) was) in
    let count = c.len-count.ensures ∙ b.ok.0 in
    let enough = more_room rank inv b has.0 some was taken.items count c.past_half.ensures c.past_half-2.ensures taken.memory refl in
    let set_is = set_first_left s.blocks.items s.gone b in
    let new = c.take_front-empty.new in
    let front = sym set_is ∙ c.take_front-empty.ensures.blocks in (
      c.take_front-empty.ensures.inside,
      kept_retired rank inv b has.0 some was taken.items count c.past_half.ensures c.past_half-2.ensures taken.memory (omega (arith, c.if-self-eq0.false, inv.few)) enough
          c.if-count-eq0.true (omega (arith, c.if-len-self-gt1.true, c.len.ensures, length-drop s.gone s.blocks.items)) (row_of new.blocks new.gone) c.push_reserved.new.self (sym (ap (λ v. remove v 0) front))
          (c.push_reserved.ensures.items ∙ ap (λ v. s.spare.items ++ v ∷ []) (sym (ap (λ v. get_or v 0 b) front))) c.take_front-empty.ensures.memory (omega (arith, c.push_reserved.ensures.capacity)),
    )

pub invariant_of-self-else-len-self-gt1 : goal.invariant_of-self-else-len-self-gt1
invariant_of-self-else-len-self-gt1 g c =
    let rank = g.O.Order.rank in
    let s = c.self.inside in
    let inv = c.self.invariant.1 in
    let bs = drop s.gone s.blocks.items in
    let b = c.take_first-item.new.block in
    let was = c.index_mut-block.ensures.value ∙ sym (first_left s.blocks.items s.gone c.index_mut-block.result.now) in
    let taken = c.take_first-item.ensures in
    let has = first_has bs c.index_mut-block.result.now inv.filled (omega (arith, c.if-self-eq0.false, inv.count)) in
    let some : 0 < length c.index_mut-block.result.now.items = omega (arith, has.1, ap (λ v. length v.items) was) in
    let count = c.len-count.ensures ∙ b.ok.0 in
    let enough = more_room rank inv b has.0 some was taken.items count c.past_half.ensures c.past_half-2.ensures taken.memory refl in
    let set_is = set_first_left s.blocks.items s.gone b in (
      rw length-set c.self.invariant.0,
      kept_less rank inv b has.0 some was taken.items count c.past_half.ensures c.past_half-2.ensures taken.memory (omega (arith, c.if-self-eq0.false, inv.few)) enough
          (λ e. omega (arith, c.if-len-self-gt1.false, c.len.ensures, length-drop s.gone s.blocks.items)) _ set_is refl,
    )

pub invariant_of-self-else-count-eq0 : goal.invariant_of-self-else-count-eq0
invariant_of-self-else-count-eq0 g c =
    let rank = g.O.Order.rank in
    let s = c.self.inside in
    let inv = c.self.invariant.1 in
    let bs = drop s.gone s.blocks.items in
    let b = c.take_first-item.new.block in
    let was = c.index_mut-block.ensures.value ∙ sym (first_left s.blocks.items s.gone c.index_mut-block.result.now) in
    let taken = c.take_first-item.ensures in
    let has = first_has bs c.index_mut-block.result.now inv.filled (omega (arith, c.if-self-eq0.false, inv.count)) in
    let some : 0 < length c.index_mut-block.result.now.items = omega (arith, has.1, ap (λ v. length v.items) was) in
    let count = c.len-count.ensures ∙ b.ok.0 in
    let enough = more_room rank inv b has.0 some was taken.items count c.past_half.ensures c.past_half-2.ensures taken.memory refl in
    let set_is = set_first_left s.blocks.items s.gone b in (
      rw length-set c.self.invariant.0,
      kept_less rank inv b has.0 some was taken.items count c.past_half.ensures c.past_half-2.ensures taken.memory (omega (arith, c.if-self-eq0.false, inv.few)) enough
          (λ e. absurd (c.if-count-eq0.false e)) _ set_is refl,
    )
