use Rattle.std.proofs.Common.{◌<◌, ◌∙◌, ap, drop, length, length-set, refl, subst, sym}
use Rattle.std.specs.Vec.{vec_capacity}
use Rattle.std.proofs.lemmas.List.{get_or-drop}
use Rattle.mp_ordered.specs.Blocks.{IsSplit, items_of, row_of}
use Rattle.mp_ordered.proofs.Rows.{set_behind}
use Rattle.mp_ordered.proofs.Changed.{for_one}
use Rattle.mp_ordered.proofs.Edited.{half_there, kept_put, kept_split, now_put, now_split, spare_there}
use Rattle.mp_ordered.proofs.blocks.OrderedBlocks.insert_reserved.Goals as goal

pub split_used-requires-clause-some : goal.split_used-requires-clause-some
split_used-requires-clause-some g c =
    spare_there g.O.Order.rank c.self.invariant.1 c.args.item c.spot_of-at.result.place c.put_in.new.block (rw (← c.self.view_is) at c.requires) (rw c.used.ensures at c.spot_of-at.ensures.at) (rw c.used.ensures at c.spot_of-at.ensures.block) (c.index_mut-block.ensures.value ∙ sym (get_or-drop c.self.inside.gone c.self.inside.blocks.items c.spot_of-at.result.block _))
    (rw c.used.ensures at (c.spot_of-at.ensures.place c.index_mut-block.result.now)) c.put_in.ensures.items c.put_in.ensures.memory (c.len-count.ensures ∙ c.put_in.new.block.ok.0) c.past_half.ensures c.past_half-2.ensures c.if-count-eq-FULL.true

pub split_used-requires-clause-memory : goal.split_used-requires-clause-memory
split_used-requires-clause-memory g c =
    let s = c.self.inside in
    let behind = set_behind s.blocks.items s.gone c.spot_of-at.result.block c.put_in.new.block in
    subst (λ v. length v < vec_capacity s.blocks) (sym behind) (for_one g.O.Order.rank (row_of s.blocks s.gone) s.spare s.len s.past s.room c.self.invariant.1 (split_used-requires-clause-some g c) c.spot_of-at.result.block c.put_in.new.block)

pub overflow_sub-self-then-count-eq-FULL : goal.overflow_sub-self-then-count-eq-FULL
overflow_sub-self-then-count-eq-FULL g c =
    half_there g.O.Order.rank c.self.invariant.1 c.args.item c.spot_of-at.result.place c.put_in.new.block (rw (← c.self.view_is) at c.requires) (rw c.used.ensures at c.spot_of-at.ensures.at) (rw c.used.ensures at c.spot_of-at.ensures.block) (c.index_mut-block.ensures.value ∙ sym (get_or-drop c.self.inside.gone c.self.inside.blocks.items c.spot_of-at.result.block _))
    (rw c.used.ensures at (c.spot_of-at.ensures.place c.index_mut-block.result.now)) c.put_in.ensures.items c.put_in.ensures.memory (c.len-count.ensures ∙ c.put_in.new.block.ok.0) c.past_half.ensures c.past_half-2.ensures c.if-count-eq-FULL.true

pub invariant_of-self : goal.invariant_of-self
invariant_of-self g c =
    let s = c.self.inside in
    let behind = set_behind s.blocks.items s.gone c.spot_of-at.result.block c.put_in.new.block in (
      c.split_used.ensures.gone,
      kept_split g.O.Order.rank c.self.invariant.1 c.args.item c.spot_of-at.result.place c.put_in.new.block (rw (← c.self.view_is) at c.requires) (rw c.used.ensures at c.spot_of-at.ensures.at) (rw c.used.ensures at c.spot_of-at.ensures.block) (c.index_mut-block.ensures.value ∙ sym (get_or-drop c.self.inside.gone c.self.inside.blocks.items c.spot_of-at.result.block _))
          (rw c.used.ensures at (c.spot_of-at.ensures.place c.index_mut-block.result.now)) c.put_in.ensures.items c.put_in.ensures.memory (c.len-count.ensures ∙ c.put_in.new.block.ok.0) c.past_half.ensures c.past_half-2.ensures c.if-count-eq-FULL.true
          (row_of c.split_used.new.blocks c.split_used.new.gone) c.split_used.new.spare (subst (λ v. IsSplit c.spot_of-at.result.block v (drop c.split_used.new.gone c.split_used.new.blocks.items)) behind c.split_used.ensures.split) c.split_used.ensures.spare c.split_used.ensures.one_less c.split_used.ensures.memory.0 c.split_used.ensures.memory.1,
    )

pub returns-then-count-eq-FULL-clause-put : goal.returns-then-count-eq-FULL-clause-put
returns-then-count-eq-FULL-clause-put g c =
    let s = c.self.inside in
    let behind = set_behind s.blocks.items s.gone c.spot_of-at.result.block c.put_in.new.block in
    rw (← c.self.view_is)
    (now_split g.O.Order.rank c.self.invariant.1 c.args.item c.spot_of-at.result.place c.put_in.new.block (rw (← c.self.view_is) at c.requires) (rw c.used.ensures at c.spot_of-at.ensures.at) (rw c.used.ensures at c.spot_of-at.ensures.block) (c.index_mut-block.ensures.value ∙ sym (get_or-drop c.self.inside.gone c.self.inside.blocks.items c.spot_of-at.result.block _))
    (rw c.used.ensures at (c.spot_of-at.ensures.place c.index_mut-block.result.now)) c.put_in.ensures.items c.put_in.ensures.memory (c.len-count.ensures ∙ c.put_in.new.block.ok.0) c.past_half.ensures c.past_half-2.ensures c.if-count-eq-FULL.true
    (row_of c.split_used.new.blocks c.split_used.new.gone) c.split_used.new.spare (subst (λ v. IsSplit c.spot_of-at.result.block v (drop c.split_used.new.gone c.split_used.new.blocks.items)) behind c.split_used.ensures.split) c.split_used.ensures.spare c.split_used.ensures.one_less c.split_used.ensures.memory.0 c.split_used.ensures.memory.1)

pub invariant_of-self-else-count-eq-FULL : goal.invariant_of-self-else-count-eq-FULL
invariant_of-self-else-count-eq-FULL g c =
    let s = c.self.inside in
    let behind = set_behind s.blocks.items s.gone c.spot_of-at.result.block c.put_in.new.block in (
      rw length-set c.self.invariant.0,
      kept_put g.O.Order.rank c.self.invariant.1 c.args.item c.spot_of-at.result.place c.put_in.new.block (rw (← c.self.view_is) at c.requires) (rw c.used.ensures at c.spot_of-at.ensures.at) (rw c.used.ensures at c.spot_of-at.ensures.block) (c.index_mut-block.ensures.value ∙ sym (get_or-drop c.self.inside.gone c.self.inside.blocks.items c.spot_of-at.result.block _))
          (rw c.used.ensures at (c.spot_of-at.ensures.place c.index_mut-block.result.now)) c.put_in.ensures.items c.put_in.ensures.memory (c.len-count.ensures ∙ c.put_in.new.block.ok.0) c.past_half.ensures c.past_half-2.ensures c.if-count-eq-FULL.false _ behind refl,
    )

pub returns-else-count-eq-FULL-clause-put : goal.returns-else-count-eq-FULL-clause-put
returns-else-count-eq-FULL-clause-put g c =
    let s = c.self.inside in
    let behind = set_behind s.blocks.items s.gone c.spot_of-at.result.block c.put_in.new.block in
    rw (← c.self.view_is)
    (ap items_of behind ∙ now_put g.O.Order.rank c.self.invariant.1 c.args.item c.spot_of-at.result.place c.put_in.new.block (rw (← c.self.view_is) at c.requires) (rw c.used.ensures at c.spot_of-at.ensures.at) (rw c.used.ensures at c.spot_of-at.ensures.block) (c.index_mut-block.ensures.value ∙ sym (get_or-drop c.self.inside.gone c.self.inside.blocks.items c.spot_of-at.result.block _))
    (rw c.used.ensures at (c.spot_of-at.ensures.place c.index_mut-block.result.now)) c.put_in.ensures.items c.put_in.ensures.memory (c.len-count.ensures ∙ c.put_in.new.block.ok.0) c.past_half.ensures c.past_half-2.ensures)
