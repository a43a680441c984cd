use Rattle.std.proofs.Common.{◌≡◌, ◌<◌, ◌+◌, ◌⊎◌, ◌∙◌, ℕ, List, false, ap, arith, drop, inl, inr, length, subst, sym, take, ⊎_elim}
use Rattle.std.proofs.lemmas.List.{length-drop}
use Rattle.mp_model.specs.declared.record.Rec.{Rec}
use Rattle.mp_ordered.specs.Blocks.{items_of}
use Rattle.mp_ordered.specs.InOrder.{begins}
use Rattle.mp_route.specs.Along.{FirstGoes, IsCount, goes_to, is_at}
use Rattle.mp_route.proofs.Counting.{all_upto, begins_from, count_upto, upto_within}
use Rattle.mp_route.proofs.Firsts.{first_in_block, none_looked}
use Rattle.mp_route.proofs.along.count_along.Goals as goal

pub count_in-here-requires-clause-first : goal.count_in-here-requires-clause-first
count_in-here-requires-clause-first c none =
    let bs = c.as_blocks-block-items.result.now in
    let notes = c.args.owners.now in
    let a = c.args.along in
    let i = c.loop-block.block-index in
    let looked = none_looked c.loop-block.all.looked c.loop-block.all.chosen c.loop-block.invariant.some none in
    let first = subst (FirstGoes notes a) (sym c.as_blocks-block-items.ensures.items) c.requires.first in
    first_in_block notes a bs i c.block-item.result c.loop-block-test.true c.block-item.is (sym c.loop-block.invariant.looked ∙ looked) first

pub overflow_add-all : goal.overflow_add-all
overflow_add-all c =
    let bs = c.as_blocks-block-items.result.now in
    let b = c.block-item.result in
    omega (arith, upto_within (is_at c.args.along) bs c.loop-block.block-index c.count_in-here.result.looked b c.loop-block-test.true c.block-item.is c.count_in-here.ensures.inside, c.loop-block.invariant.looked, ap length c.as_blocks-block-items.ensures.items, c.as_blocks-block-items.ensures.few)

pub returns-then-here-len-clause-count : goal.returns-then-here-len-clause-count
returns-then-here-len-clause-count c =
    let bs = c.as_blocks-block-items.result.now in
    let i = c.loop-block.block-index in
    let b = c.block-item.result in
    let a = c.args.along in
    let notes = c.args.owners.now in
    let n = c.count_in-here.result.looked in
    let m = c.count_in-here.result.chosen in
    let within = c.count_in-here.ensures.inside in
    let some : n < length b.items = omega (arith, c.if-here-len.true, c.len.ensures, b.ok.0) in
    let looked = length (items_of (take i bs)) + n in
    let counted : IsCount notes a 64 (items_of bs) looked m = record {
      inside = upto_within (is_at a) bs i n b c.loop-block-test.true c.block-item.is within;
      time = all_upto (is_at a) bs i n b c.loop-block-test.true c.block-item.is within c.loop-block.invariant.time c.count_in-here.ensures.time;
      chosen_is = omega (arith, count_upto (goes_to notes a) bs i n b c.loop-block-test.true c.block-item.is within, c.loop-block.invariant.chosen, c.count_in-here.ensures.chosen);
      few = c.count_in-here.ensures.few;
      ends =
          ⊎_elim
          (λ (e : n ≡ length b.items). absurd (omega arith))
          (λ (e : (m ≡ 64) ⊎ (begins (is_at a) (drop n b.items) ≡ false)).
          ⊎_elim
          (λ (f : m ≡ 64). inl f)
          (λ (f : begins (is_at a) (drop n b.items) ≡ false). inr (begins_from (is_at a) bs i n b c.loop-block-test.true c.block-item.is within b (omega (arith, length-drop n b.items)) f))
          e)
          c.count_in-here.ensures.ends;
    } in
    subst (λ (xs : List Rec). IsCount notes a 64 xs (c.loop-block.all.looked + n) m) c.as_blocks-block-items.ensures.items (subst (λ (k : ℕ). IsCount notes a 64 (items_of bs) (k + n) m) (sym c.loop-block.invariant.looked) counted)
