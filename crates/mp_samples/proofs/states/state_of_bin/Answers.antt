use Rattle.std.proofs.Common.{◌≡◌, ◌∙◌, ℕ, [], ◌∷◌, List, ap, nat_eq}
use Rattle.mp_msg.proofs.Sorted.{by_key-ascends}
use Rattle.mp_msg.specs.States.{by_key}
use Rattle.mp_postdated.specs.Wakes.{with_wake}
use Rattle.mp_samples.proofs.Alone.{put_alone}
use Rattle.mp_samples.proofs.states.state_of_bin.Goals as goal

pub invariant_of-result : goal.invariant_of-result
invariant_of-result c = record { cells = by_key-ascends c.insert.new.self.entries; wakes = c.add.ensures.ascending }

pub returns : goal.returns
returns c =
    let cells : c.insert.new.self.entries ≡ (7, 1) ∷ [] = put_alone nat_eq c.new-cells.result c.insert.new.self 7 1 c.in_ok-insert.field-0 c.new-cells.ensures.empty c.in_ok-insert.ensures.old c.in_ok-insert.ensures.entries in
    let wakes : c.add.new.self.wakes ≡ (15, 7) ∷ [] = c.in_ok-add.ensures.added ∙ ap (λ (ws : List (ℕ × ℕ)). with_wake ws 15 7) c.new-wakes.ensures in
    λ i. record { cells = by_key (cells i); wakes = wakes i }
