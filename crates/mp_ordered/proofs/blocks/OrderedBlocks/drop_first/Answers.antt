use Rattle.std.proofs.Common.{◌≡◌, ◌∙◌, ◌+◌, ◌-◌, ap, arith, drop, get_or, length, length-drop, length-set, set, sym}
use Rattle.std.specs.VecDeque.{deque_capacity}
use Rattle.std.proofs.lemmas.List.{get_or-drop}
use Rattle.mp_ordered.specs.Blocks.{items_of, past_halves, row_of}
use Rattle.mp_ordered.proofs.Dropped.{left_items, left_kept}
use Rattle.mp_ordered.proofs.Fronts.{past_from, set_first}
use Rattle.mp_ordered.proofs.Rows.{first_left, set_first_left}
use Rattle.mp_ordered.proofs.blocks.OrderedBlocks.drop_first.Goals as goal

pub index_mut-block-requires : goal.index_mut-block-requires
index_mut-block-requires g c =
    let bs = drop c.self.inside.gone c.self.inside.blocks.items in
    let now = c.retire_first-self-inside.new in
    let here = rw c.used.ensures at c.end_of-at.ensures.at in
    omega (arith, here, ap length c.retire_first-self-inside.ensures.blocks, length-drop c.end_of-at.result.0 bs, length-drop now.gone now.blocks.items, now.blocks.ok.0)

pub drop_front-requires : goal.drop_front-requires
drop_front-requires g c =
    let bs = drop c.self.inside.gone c.self.inside.blocks.items in
    let at = c.end_of-at.result.0 in
    let d = c.index_mut-block.result.now in
    let retired = c.retire_first-self-inside.ensures.blocks in
    let at_first : at + 0 ≡ at = omega arith in
    let now = c.retire_first-self-inside.new in
    let first = c.index_mut-block.ensures.value ∙ sym (first_left now.blocks.items now.gone d) ∙ ap (λ v. get_or v 0 d) retired ∙ get_or-drop at bs 0 d ∙ ap (λ i. get_or bs i d) at_first in
    let inside = (rw c.used.ensures at c.end_of-at.ensures.place) d in
    omega (arith, inside, ap (λ v. length v.items) first)

pub overflow_sub-len : goal.overflow_sub-len
overflow_sub-len g c =
    let bs = drop c.self.inside.gone c.self.inside.blocks.items in
    let at = c.end_of-at.result.0 in
    let d = c.index_mut-block.result.now in
    let retired = c.retire_first-self-inside.ensures.blocks in
    let at_first : at + 0 ≡ at = omega arith in
    let now = c.retire_first-self-inside.new in
    let first = c.index_mut-block.ensures.value ∙ sym (first_left now.blocks.items now.gone d) ∙ ap (λ v. get_or v 0 d) retired ∙ get_or-drop at bs 0 d ∙ ap (λ i. get_or bs i d) at_first in
    let inside = (rw c.used.ensures at c.end_of-at.ensures.place) d in
    omega (arith, inside, c.len-len.ensures, d.ok.0, ap (λ v. length v.items) first)

pub overflow_sub-self-2 : goal.overflow_sub-self-2
overflow_sub-self-2 g c =
    let bs = drop c.self.inside.gone c.self.inside.blocks.items in
    let at = c.end_of-at.result.0 in
    let d = c.index_mut-block.result.now in
    let retired = c.retire_first-self-inside.ensures.blocks in
    let at_first : at + 0 ≡ at = omega arith in
    let now = c.retire_first-self-inside.new in
    let first = c.index_mut-block.ensures.value ∙ sym (first_left now.blocks.items now.gone d) ∙ ap (λ v. get_or v 0 d) retired ∙ get_or-drop at bs 0 d ∙ ap (λ i. get_or bs i d) at_first in
    let here = rw c.used.ensures at c.end_of-at.ensures.at in
    omega (arith, c.past_half.ensures, c.len-len.ensures, d.ok.0, ap (λ v. length v.items) first, c.retire_first-self-inside.ensures.past, ap past_halves retired, past_from bs at d here)

pub invariant_of-self : goal.invariant_of-self
invariant_of-self g c =
    let rank = g.O.Order.rank in
    let s = c.self.inside in
    let bs = drop s.gone s.blocks.items in
    let at = c.end_of-at.result.0 in
    let place = c.end_of-at.result.1 in
    let d = c.index_mut-block.result.now in
    let b = c.drop_front.new.block in
    let retired = c.retire_first-self-inside.ensures.blocks in
    let at_first : at + 0 ≡ at = omega arith in
    let now = c.retire_first-self-inside.new in
    let first = c.index_mut-block.ensures.value ∙ sym (first_left now.blocks.items now.gone d) ∙ ap (λ v. get_or v 0 d) retired ∙ get_or-drop at bs 0 d ∙ ap (λ i. get_or bs i d) at_first in
    let few = rw (← c.self.view_is) at c.requires in
    let here = rw c.used.ensures at c.end_of-at.ensures.at in
    let count_is = rw c.used.ensures at c.end_of-at.ensures.count in
    let inside = (rw c.used.ensures at c.end_of-at.ensures.place) d in
    let last = (rw c.used.ensures at c.end_of-at.ensures.last) d in
    let is = c.drop_front.ensures.items ∙ ap (λ v. drop place v.items) first in
    let same = c.drop_front.ensures.memory ∙ ap (λ v. deque_capacity v) first in
    let len_is = c.len-len.ensures ∙ d.ok.0 ∙ ap (λ v. length v.items) first in
    let left_is = ap length is ∙ length-drop place (get_or bs at d).items in
    let past_is : c.retire_first-self-inside.result - (c.past_half.result - c.past_half-2.result) + (length (get_or bs at d).items - 64) ≡ past_halves (drop at bs) + (length b.items - 64) = omega (arith, c.retire_first-self-inside.ensures.past, ap past_halves retired, past_from bs at d here, c.past_half.ensures, c.past_half-2.ensures, len_is, left_is) in (
      rw length-set c.retire_first-self-inside.ensures.gone,
      left_kept rank (row_of s.blocks s.gone) s.spare s.len s.past s.room c.self.invariant.1 c.args.count at place b d few here count_is inside last is same
          _ c.retire_first-self-inside.new.spare _ (set_first_left now.blocks.items now.gone b ∙ ap (λ v. set v 0 b) retired ∙ set_first bs at b here) c.retire_first-self-inside.ensures.empty c.retire_first-self-inside.ensures.more c.retire_first-self-inside.ensures.memory.0 c.retire_first-self-inside.ensures.memory.1 past_is,
    )

pub returns-clause-items : goal.returns-clause-items
returns-clause-items g c =
    let rank = g.O.Order.rank in
    let s = c.self.inside in
    let bs = drop s.gone s.blocks.items in
    let at = c.end_of-at.result.0 in
    let place = c.end_of-at.result.1 in
    let d = c.index_mut-block.result.now in
    let b = c.drop_front.new.block in
    let retired = c.retire_first-self-inside.ensures.blocks in
    let at_first : at + 0 ≡ at = omega arith in
    let now = c.retire_first-self-inside.new in
    let first = c.index_mut-block.ensures.value ∙ sym (first_left now.blocks.items now.gone d) ∙ ap (λ v. get_or v 0 d) retired ∙ get_or-drop at bs 0 d ∙ ap (λ i. get_or bs i d) at_first in
    let few = rw (← c.self.view_is) at c.requires in
    let here = rw c.used.ensures at c.end_of-at.ensures.at in
    let count_is = rw c.used.ensures at c.end_of-at.ensures.count in
    let inside = (rw c.used.ensures at c.end_of-at.ensures.place) d in
    let last = (rw c.used.ensures at c.end_of-at.ensures.last) d in
    let is = c.drop_front.ensures.items ∙ ap (λ v. drop place v.items) first in
    let same = c.drop_front.ensures.memory ∙ ap (λ v. deque_capacity v) first in
    let now_is = ap items_of (set_first_left now.blocks.items now.gone b ∙ ap (λ v. set v 0 b) retired ∙ set_first bs at b here) in
    rw (← c.self.view_is) (now_is ∙ left_items rank (row_of s.blocks s.gone) s.spare s.len s.past s.room c.self.invariant.1 c.args.count at place b d few here count_is inside last is same)
