use Rattle.std.proofs.Common.{◌≡◌, [], ◌∷◌, ap, arith, drop, length, length-drop, ⊎_elim}
use Rattle.std.specs.declared.alloc.Global.{Global}
use Rattle.std.specs.declared.collections.VecDeque.{VecDeque}
use Rattle.mp_ordered.specs.Blocks.{IsSpare}
use Rattle.mp_ordered.proofs.block.have_blocks.Goals as goal

pub overflow_sub-wanted-3 : goal.overflow_sub-wanted-3
overflow_sub-wanted-3 g c =
    let old = c.args.blocks.now in
    let mid = c.reserve.new.self in
    let new = c.have_first.new.blocks in
    let n = c.args.gone in
    ⊎_elim
    (λ (e : new.items ≡ mid.items). omega (arith, c.len-4.ensures, new.ok.0, ap length e, ap length c.reserve.ensures.items, old.ok.0, c.len.ensures, c.if-wanted-used.false))
    (λ (e : (drop n mid.items ≡ []) × ((b : VecDeque _ Global) × (IsSpare b × (drop n new.items ≡ b ∷ [])))). omega (arith, c.len-4.ensures, new.ok.0, ap length e.1.1.1, length-drop n new.items, c.requires.some))
    c.in_ok-have_first.ensures.same
