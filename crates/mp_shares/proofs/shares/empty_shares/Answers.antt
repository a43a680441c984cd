use Rattle.std.proofs.Common.{List, ℕ, [], refl, zero-add}
use Rattle.std.proofs.lemmas.List.FromFn.{map-range_with_len_more}
use Rattle.mp_shares.proofs.shares.empty_shares.Goals as goal

pub loop-preserved : goal.loop-preserved
loop-preserved c =
    let none : ℕ → List ℕ = λ _. [] in
    let more = map-range_with_len_more none 0 c.loop.counter c.loop.counter (zero-add c.loop.counter) in
    rw (more, c.in_ok-push.ensures.items, c.loop.invariant, c.new.ensures) refl
