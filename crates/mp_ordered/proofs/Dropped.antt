-- Blocks of which the first items were dropped.
use Rattle.std.proofs.Common.{◌≡◌, false, ℕ, suc, ◌+◌, ◌-◌, ◌<◌, ◌≤◌, List, [], ◌∷◌, ◌++◌, All, length, get_or, take, drop, ap, sym, ◌∙◌, subst, ◌⊎◌, ⊎_elim, arith, length-drop}
use Rattle.std.specs.declared.vec.Vec.{Vec}
use Rattle.std.specs.declared.collections.VecDeque.{VecDeque}
use Rattle.std.specs.Vec.{vec_capacity}
use Rattle.std.specs.VecDeque.{deque_capacity}
use Rattle.std.proofs.lemmas.Bool.{cases_order}
use Rattle.std.proofs.lemmas.List.Elements.{All-nil, All-cons, All-drop, All-get_or}
use Rattle.mp_names.specs.Names.{is_before}
use Rattle.mp_ordered.specs.Blocks.{AreBlocks, AreFilled, IsBlock, IsFilled, IsSpare, Row, items_of, lacking, past_halves}
use Rattle.mp_ordered.specs.InOrder.{IsInOrder}
use Rattle.mp_ordered.proofs.Placing.{pairs_drop}
use Rattle.mp_ordered.proofs.Fronts.{items_from, past_from, room_of_front}

-- all but the first have items
filled_behind : {T Z : Type 0} (bs : List (VecDeque T Z)) (at : ℕ) → AreFilled bs → All IsFilled (drop (suc at) bs)
filled_behind [] at f = All-nil IsFilled
filled_behind (b ∷ bs) at f = All-drop IsFilled at bs f.1

module _ {T Z : Type 0} (rank : T → List ℕ) (blocks : Row T Z) (spare : Vec (VecDeque T Z) Z) (len past room : ℕ) (are : AreBlocks rank blocks spare len past room)
    (count at place : ℕ) (b d : VecDeque T Z) (few : count ≤ length (items_of blocks.items)) (here : at < length blocks.items) (count_is : length (items_of (take at blocks.items)) + place ≡ count)
    (inside : place ≤ length (get_or blocks.items at d).items) (last : place ≡ length (get_or blocks.items at d).items → suc at ≡ length blocks.items)
    (is : b.items ≡ drop place (get_or blocks.items at d).items) (same : deque_capacity b ≡ deque_capacity (get_or blocks.items at d)) where
  abbrev left : List (VecDeque T Z)
  left = b ∷ drop (suc at) blocks.items

  pub left_items : items_of left ≡ drop count (items_of blocks.items)
  left_items = ap (λ (r : List T). r ++ items_of (drop (suc at) blocks.items)) is ∙ sym (items_from blocks.items at place d here inside) ∙ ap (λ i. drop i (items_of blocks.items)) count_is

  block_count : length b.items ≡ length (get_or blocks.items at d).items - place
  block_count = ap length is ∙ length-drop place (get_or blocks.items at d).items

  left_length : length left + at ≡ length blocks.items
  left_length = omega (arith, here, length-drop (suc at) blocks.items)

  left_order : IsInOrder rank (items_of left)
  left_order = subst (IsInOrder rank) (sym left_items) (pairs_drop (λ y z. is_before (rank z) (rank y) ≡ false) count (items_of blocks.items) are.order)

  left_low : All IsBlock left
  left_low =
      let low : IsBlock (get_or blocks.items at d) = All-get_or IsBlock blocks.items at d here are.low in
      All-cons IsBlock b (drop (suc at) blocks.items) (omega (arith, low.0, block_count), omega (arith, low.1, same)) (All-drop IsBlock (suc at) blocks.items are.low)

  left_filled : AreFilled left
  left_filled = (λ n. some n, filled_behind blocks.items at are.filled)
    where
      some : 0 < length (drop (suc at) blocks.items) → 0 < length b.items
      some n =
          ⊎_elim
          (λ (e : place ≡ length (get_or blocks.items at d).items). absurd (omega (arith, last e, n, length-drop (suc at) blocks.items)))
          (λ (o : (place < length (get_or blocks.items at d).items) ⊎ (length (get_or blocks.items at d).items < place)). ⊎_elim (λ (k : place < length (get_or blocks.items at d).items). omega (arith, block_count)) (λ (k : length (get_or blocks.items at d).items < place). absurd (omega (arith, inside))) o)
          (cases_order place (length (get_or blocks.items at d).items))

  pub left_kept : (new : Row T Z) (more : Vec (VecDeque T Z) Z) (now_past : ℕ) → new.items ≡ left → All IsSpare more.items → length more.items ≡ length spare.items + at → new.capacity ≡ blocks.capacity → vec_capacity more ≡ vec_capacity spare
      → now_past + (length (get_or blocks.items at d).items - 64) ≡ past_halves (drop at blocks.items) + (length b.items - 64) → AreBlocks rank new more (len - count) now_past (room + count)
  left_kept new more now_past e empty more_is kept grown now_past_is =
      let length_is : length new.items + at ≡ length blocks.items = omega (arith, ap length e, left_length) in
      let past_is : now_past ≡ past_halves left = omega (arith, now_past_is, past_from blocks.items at d here) in
      let enough = room_of_front blocks.items at place d here inside in
      record {
        order = subst (λ bs. IsInOrder rank (items_of bs)) (sym e) left_order;
        low = subst (All IsBlock) (sym e) left_low;
        filled = subst AreFilled (sym e) left_filled;
        count = omega (arith, ap length left_items, length-drop count (items_of blocks.items), are.count, ap (λ bs. length (items_of bs)) e);
        past_is = past_is ∙ ap past_halves (sym e);
        enough = omega (arith, enough, block_count, past_is, count_is, are.past_is, are.enough, more_is, ap lacking e);
        few = omega (arith, few, are.count, are.few);
        memory = record {
          empty = empty;
          none = λ n. absurd (omega (arith, n, ap length e));
          for_blocks = omega (arith, length_is, more_is, kept, are.memory.for_blocks);
          for_spare = omega (arith, length_is, more_is, grown, are.memory.for_spare);
        };
      }
