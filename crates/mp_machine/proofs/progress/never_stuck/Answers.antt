use Rattle.std.proofs.Common.{◌≡◌, ℕ, true, false, refl, inl, inr, ⊎_elim}
use Rattle.std.specs.List.{Contains}
use Rattle.std.proofs.lemmas.Bool.{false≢true}
use Rattle.mp_names.specs.declared.kinds.Kind.{Kind}
use Rattle.mp_machine.specs.Runs.{Turn, Did, Saw, NotNow, run_of_machine, turn_of_machine, is_made}
use Rattle.mp_machine.specs.Places.{places}
use Rattle.mp_machine.proofs.Worlds.{run_right}
use Rattle.mp_machine.proofs.Ends.{all_over}
use Rattle.mp_machine.proofs.Places.{place_listed, some_passes}
use Rattle.mp_machine.proofs.progress.never_stuck.Goals as goal

pub returns-clause-not_stuck : goal.returns-clause-not_stuck
returns-clause-not_stuck c = λ o depth steps ok deep not_now. all_over o ok depth deep (run_of_machine o depth steps) (run_right o ok depth steps) not_now

not_made : (t : Turn) → is_made t ≡ false → t ≡ NotNow
not_made (Did x n) e = absurd (cc)
not_made (Saw v) e = absurd (cc)
not_made NotNow e = refl

made : (t : Turn) → is_made t ≡ true → t ≡ NotNow → ⊥
made (Did x n) e f = cc
made (Saw v) e f = cc
made NotNow e f = false≢true e

pub returns-clause-someone : goal.returns-clause-someone
returns-clause-someone c = λ o depth steps ok deep.
    let world = run_of_machine o depth steps in
    ⊎_elim
    (λ (h : (p : ℕ × Kind) × Contains (places o) p × (is_made (turn_of_machine o depth world p.0 p.1) ≡ true)). inr (h.0, h.1, made (turn_of_machine o depth world h.0.0 h.0.1) h.2))
    (λ (h : (p : ℕ × Kind) → Contains (places o) p → is_made (turn_of_machine o depth world p.0 p.1) ≡ false).
    inl (all_over o ok depth deep world (run_right o ok depth steps) (λ w kind place. not_made (turn_of_machine o depth world w kind) (h (w, kind) (place_listed o w kind place)))))
    (some_passes (λ p. is_made (turn_of_machine o depth world p.0 p.1)) (places o))
