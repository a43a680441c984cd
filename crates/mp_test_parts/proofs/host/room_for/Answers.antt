-- There are no more times of wakes than wakes.
use Rattle.std.proofs.Common.{◌≡◌, ◌≤◌, ℕ, List, [], map, length, ap, ◌∙◌, arith}
use Rattle.std.proofs.lemmas.List.{length-map}
use Rattle.mp_msg.specs.States.{BinContent}
use Rattle.mp_model.specs.Ascending.{ascending}
use Rattle.mp_host.proofs.Enough.{ascending_length}
use Rattle.mp_test_parts.proofs.host.room_for.Goals as goal

few_times : (wakes : List (ℕ × ℕ)) (n m : ℕ) → n ≡ length wakes → n ≤ m → length (ascending (map (λ w. w.0) wakes)) ≤ m
few_times wakes n m e l = omega (arith, ascending_length (map (λ w. w.0) wakes) [], length-map wakes (λ w. w.0), e, l)

pub returns-clause-room : goal.returns-clause-room
returns-clause-room g = few_times g.args.state.now.wakes g.len.result _ (g.len.ensures.wakes ∙ ap (λ (s : BinContent ℕ). length s.wakes) g.state.view_is) g.in_ok-numbers.ensures.capacity
