use Rattle.std.proofs.Common.{ℕ, ◌+◌, ◌*◌, ◌≤◌, arith}
use Rattle.mp_names.specs.Outlines.{name_count}
use Rattle.mp_machine.specs.Worlds.{start_of_machine}
use Rattle.mp_machine.specs.Runs.{made_count, turns_of}
use Rattle.mp_machine.proofs.Bounds.{steps_bounded}
use Rattle.mp_machine.proofs.progress.steps_are_bounded.Goals as goal

looser : (n m k : ℕ) → k ≤ (n + 1) * m → k ≤ (n + 2) * m
looser n m k h = grind arith

pub returns-clause-bounded : goal.returns-clause-bounded
returns-clause-bounded c = λ o depth steps ok. looser o.workers (name_count o) (made_count (turns_of o depth (start_of_machine o) steps)) (steps_bounded o ok depth steps)

pub returns-clause-closely : goal.returns-clause-closely
returns-clause-closely c = λ o depth steps ok. steps_bounded o ok depth steps
