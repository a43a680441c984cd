use Rattle.std.proofs.Common.{◌+◌, ◌++◌, ◌∷◌, [], ◌∙◌, ap, arith, drop, get_or, length, length-drop, length-set, refl, set, sym}
use Rattle.std.specs.List.{remove}
use Rattle.std.proofs.lemmas.List.Edits.{length-remove}
use Rattle.std.proofs.lemmas.List.{get_or-drop}
use Rattle.mp_ordered.specs.Blocks.{items_of, row_of}
use Rattle.mp_ordered.proofs.Rows.{remove_behind, set_behind}
use Rattle.mp_ordered.proofs.Edited.{block_parted, cut_here, items_retired, kept_less, kept_retired, last_inside, last_item, lost, now_less, room_there, without_last}
use Rattle.mp_ordered.proofs.blocks.OrderedBlocks.take_last_in_front.Goals as goal
use Rattle.mp_ordered.proofs.blocks.OrderedBlocks.take_last_in_front.Goals.{else-count-eq0-via-then-count-eq0+else-len-self-gt1, else-count-eq0-via-else-count-eq0}

pub cut_in-place-requires : goal.cut_in-place-requires
cut_in-place-requires g c =
    let was = c.index_mut-block.ensures.value ∙ sym (get_or-drop c.self.inside.gone c.self.inside.blocks.items c.cut_block-at.result _) in
    let at = c.cut_block-at.ensures in
    block_parted g.O.Order.rank c.self.invariant.1 (g.C.Cut.front c.args.cut.now) c.self.view_is c.requires.parted c.used.ensures at.inside was

pub take_at-item-requires : goal.take_at-item-requires
take_at-item-requires g c =
    let was = c.index_mut-block.ensures.value ∙ sym (get_or-drop c.self.inside.gone c.self.inside.blocks.items c.cut_block-at.result _) in
    let at = c.cut_block-at.ensures in
    last_inside g.O.Order.rank c.self.invariant.1 (g.C.Cut.front c.args.cut.now) c.self.view_is c.requires.parted c.used.ensures at.inside was at.cut c.cut_in-place.ensures c.requires.some

pub overflow_sub-self-3 : goal.overflow_sub-self-3
overflow_sub-self-3 g c =
    let was = c.index_mut-block.ensures.value ∙ sym (get_or-drop c.self.inside.gone c.self.inside.blocks.items c.cut_block-at.result _) in
    let at = c.cut_block-at.ensures in
    let here = cut_here g.O.Order.rank c.self.invariant.1 (g.C.Cut.front c.args.cut.now) c.self.view_is c.requires.parted c.used.ensures at.inside was in
    let inside = last_inside g.O.Order.rank c.self.invariant.1 (g.C.Cut.front c.args.cut.now) c.self.view_is c.requires.parted c.used.ensures at.inside was at.cut c.cut_in-place.ensures c.requires.some in
    let taken = c.take_at-item.ensures in
    let count = c.len-count.ensures ∙ c.take_at-item.new.block.ok.0 in
    lost g.O.Order.rank c.self.invariant.1 c.take_at-item.new.block here inside was taken.items count c.past_half.ensures c.past_half-2.ensures

pub invariant_of-self : goal.invariant_of-self
invariant_of-self g c =
    let s = c.self.inside in
    let b = c.take_at-item.new.block in
    let k = c.cut_block-at.result in
    let behind = set_behind s.blocks.items s.gone k b in
    let put = set s.blocks.items (s.gone + k) b in
    let retired = ap (λ v. drop s.gone v) c.retire.ensures.blocks ∙ remove_behind put s.gone k ∙ ap (λ v. remove v k) behind in
    let was = c.index_mut-block.ensures.value ∙ sym (get_or-drop c.self.inside.gone c.self.inside.blocks.items c.cut_block-at.result _) in
    let at = c.cut_block-at.ensures in
    let here = cut_here g.O.Order.rank c.self.invariant.1 (g.C.Cut.front c.args.cut.now) c.self.view_is c.requires.parted c.used.ensures at.inside was in
    let inside = last_inside g.O.Order.rank c.self.invariant.1 (g.C.Cut.front c.args.cut.now) c.self.view_is c.requires.parted c.used.ensures at.inside was at.cut c.cut_in-place.ensures c.requires.some in
    let taken = c.take_at-item.ensures in
    let count = c.len-count.ensures ∙ c.take_at-item.new.block.ok.0 in (
      omega (arith, ap length c.retire.ensures.blocks, length-remove put (s.gone + k) (omega (arith, here, length-drop s.gone s.blocks.items, length-set s.blocks.items (s.gone + k) b)), here, length-drop s.gone s.blocks.items, length-set s.blocks.items (s.gone + k) b),
      kept_retired g.O.Order.rank c.self.invariant.1 c.take_at-item.new.block here inside was taken.items count c.past_half.ensures c.past_half-2.ensures taken.memory (omega (arith, c.self.invariant.1.few)) (room_there g.O.Order.rank c.self.invariant.1 c.take_at-item.new.block here inside was taken.items count c.past_half.ensures c.past_half-2.ensures taken.memory) c.if-count-eq0.true (omega (arith, c.if-len-self-gt1.true, c.len.ensures, length-drop c.self.inside.gone c.self.inside.blocks.items)) (row_of c.retire.new.blocks s.gone) c.retire.new.spare retired (c.retire.ensures.spare b ∙ ap (λ v. s.spare.items ++ v ∷ []) (sym (get_or-drop s.gone put k b) ∙ ap (λ v. get_or v k b) behind)) c.retire.ensures.memory.0 c.retire.ensures.memory.1,
    )

pub invariant_of-self-else-len-self-gt1 : goal.invariant_of-self-else-len-self-gt1
invariant_of-self-else-len-self-gt1 g c =
    let s = c.self.inside in
    let b = c.take_at-item.new.block in
    let k = c.cut_block-at.result in
    let behind = set_behind s.blocks.items s.gone k b in
    let was = c.index_mut-block.ensures.value ∙ sym (get_or-drop c.self.inside.gone c.self.inside.blocks.items c.cut_block-at.result _) in
    let at = c.cut_block-at.ensures in
    let here = cut_here g.O.Order.rank c.self.invariant.1 (g.C.Cut.front c.args.cut.now) c.self.view_is c.requires.parted c.used.ensures at.inside was in
    let inside = last_inside g.O.Order.rank c.self.invariant.1 (g.C.Cut.front c.args.cut.now) c.self.view_is c.requires.parted c.used.ensures at.inside was at.cut c.cut_in-place.ensures c.requires.some in
    let taken = c.take_at-item.ensures in
    let count = c.len-count.ensures ∙ c.take_at-item.new.block.ok.0 in (
      rw length-set c.self.invariant.0,
      kept_less g.O.Order.rank c.self.invariant.1 c.take_at-item.new.block here inside was taken.items count c.past_half.ensures c.past_half-2.ensures taken.memory (omega (arith, c.self.invariant.1.few)) (room_there g.O.Order.rank c.self.invariant.1 c.take_at-item.new.block here inside was taken.items count c.past_half.ensures c.past_half-2.ensures taken.memory) (λ e. omega (arith, c.if-len-self-gt1.false, c.len.ensures, length-drop c.self.inside.gone c.self.inside.blocks.items)) _ behind refl,
    )

pub invariant_of-self-else-count-eq0 : goal.invariant_of-self-else-count-eq0
invariant_of-self-else-count-eq0 g c =
    let s = c.self.inside in
    let b = c.take_at-item.new.block in
    let k = c.cut_block-at.result in
    let behind = set_behind s.blocks.items s.gone k b in
    let was = c.index_mut-block.ensures.value ∙ sym (get_or-drop c.self.inside.gone c.self.inside.blocks.items c.cut_block-at.result _) in
    let at = c.cut_block-at.ensures in
    let here = cut_here g.O.Order.rank c.self.invariant.1 (g.C.Cut.front c.args.cut.now) c.self.view_is c.requires.parted c.used.ensures at.inside was in
    let inside = last_inside g.O.Order.rank c.self.invariant.1 (g.C.Cut.front c.args.cut.now) c.self.view_is c.requires.parted c.used.ensures at.inside was at.cut c.cut_in-place.ensures c.requires.some in
    let taken = c.take_at-item.ensures in
    let count = c.len-count.ensures ∙ c.take_at-item.new.block.ok.0 in (
      rw length-set c.self.invariant.0,
      kept_less g.O.Order.rank c.self.invariant.1 c.take_at-item.new.block here inside was taken.items count c.past_half.ensures c.past_half-2.ensures taken.memory (omega (arith, c.self.invariant.1.few)) (room_there g.O.Order.rank c.self.invariant.1 c.take_at-item.new.block here inside was taken.items count c.past_half.ensures c.past_half-2.ensures taken.memory) (λ e. absurd (c.if-count-eq0.false e)) _ behind refl,
    )

pub returns-then-len-self-gt1-clause-item : goal.returns-then-len-self-gt1-clause-item
returns-then-len-self-gt1-clause-item g c =
    let was = c.index_mut-block.ensures.value ∙ sym (get_or-drop c.self.inside.gone c.self.inside.blocks.items c.cut_block-at.result _) in
    let at = c.cut_block-at.ensures in
    last_item g.O.Order.rank c.self.invariant.1 (g.C.Cut.front c.args.cut.now) c.self.view_is c.requires.parted c.used.ensures at.inside was at.cut c.cut_in-place.ensures c.requires.some c.take_at-item.ensures.item

pub returns-then-len-self-gt1-clause-items : goal.returns-then-len-self-gt1-clause-items
returns-then-len-self-gt1-clause-items g c =
    let s = c.self.inside in
    let b = c.take_at-item.new.block in
    let k = c.cut_block-at.result in
    let behind = set_behind s.blocks.items s.gone k b in
    let put = set s.blocks.items (s.gone + k) b in
    let retired = ap (λ v. drop s.gone v) c.retire.ensures.blocks ∙ remove_behind put s.gone k ∙ ap (λ v. remove v k) behind in
    let was = c.index_mut-block.ensures.value ∙ sym (get_or-drop c.self.inside.gone c.self.inside.blocks.items c.cut_block-at.result _) in
    let at = c.cut_block-at.ensures in
    let here = cut_here g.O.Order.rank c.self.invariant.1 (g.C.Cut.front c.args.cut.now) c.self.view_is c.requires.parted c.used.ensures at.inside was in
    let inside = last_inside g.O.Order.rank c.self.invariant.1 (g.C.Cut.front c.args.cut.now) c.self.view_is c.requires.parted c.used.ensures at.inside was at.cut c.cut_in-place.ensures c.requires.some in
    let taken = c.take_at-item.ensures in
    let count = c.len-count.ensures ∙ c.take_at-item.new.block.ok.0 in
    without_last g.O.Order.rank c.self.invariant.1 (g.C.Cut.front c.args.cut.now) c.self.view_is c.requires.parted c.used.ensures at.inside was at.cut c.cut_in-place.ensures c.requires.some (items_retired g.O.Order.rank c.self.invariant.1 c.take_at-item.new.block here inside was taken.items count c.past_half.ensures c.past_half-2.ensures taken.memory c.if-count-eq0.true retired)

pub returns-else-count-eq0-clause-item : goal.returns-else-count-eq0-clause-item
returns-else-count-eq0-clause-item g c =
    let was = c.index_mut-block.ensures.value ∙ sym (get_or-drop c.self.inside.gone c.self.inside.blocks.items c.cut_block-at.result _) in
    let at = c.cut_block-at.ensures in
    last_item g.O.Order.rank c.self.invariant.1 (g.C.Cut.front c.args.cut.now) c.self.view_is c.requires.parted c.used.ensures at.inside was at.cut c.cut_in-place.ensures c.requires.some c.take_at-item.ensures.item

pub returns-else-count-eq0-clause-items : goal.returns-else-count-eq0-clause-items
returns-else-count-eq0-clause-items g c =
    let s = c.self.inside in
    let b = c.take_at-item.new.block in
    let k = c.cut_block-at.result in
    let behind = set_behind s.blocks.items s.gone k b in
    let was = c.index_mut-block.ensures.value ∙ sym (get_or-drop c.self.inside.gone c.self.inside.blocks.items c.cut_block-at.result _) in
    let at = c.cut_block-at.ensures in
    let here = cut_here g.O.Order.rank c.self.invariant.1 (g.C.Cut.front c.args.cut.now) c.self.view_is c.requires.parted c.used.ensures at.inside was in
    let inside = last_inside g.O.Order.rank c.self.invariant.1 (g.C.Cut.front c.args.cut.now) c.self.view_is c.requires.parted c.used.ensures at.inside was at.cut c.cut_in-place.ensures c.requires.some in
    let taken = c.take_at-item.ensures in
    let count = c.len-count.ensures ∙ c.take_at-item.new.block.ok.0 in
    let told = without_last g.O.Order.rank c.self.invariant.1 (g.C.Cut.front c.args.cut.now) c.self.view_is c.requires.parted c.used.ensures at.inside was at.cut c.cut_in-place.ensures c.requires.some (ap items_of behind ∙ now_less g.O.Order.rank c.self.invariant.1 c.take_at-item.new.block here inside was taken.items count c.past_half.ensures c.past_half-2.ensures taken.memory) in
    elim c.else-count-eq0.branch [
      | else-count-eq0-via-then-count-eq0+else-len-self-gt1 w ↦ ap (λ m. m.items) w.self-is ∙ told
      | else-count-eq0-via-else-count-eq0 w ↦ ap (λ m. m.items) w.self-is ∙ told
    ]
