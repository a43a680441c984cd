-- Exchanges and the work left.
use Rattle.std.proofs.Common.{◌≡◌, ℕ, zero, suc, ◌+◌, ◌<◌, ◌≤◌, List, [], pos, refl, ap, ◌∙◌, ⊎_elim, arith}
use Rattle.std.proofs.lemmas.Bool.{cases_lt}
use Rattle.mp_names.specs.declared.locations.Loc.{Loc}
use Rattle.mp_names.specs.declared.locations.Frontier.{Frontier}
use Rattle.mp_names.specs.declared.kinds.Kind.{Kind}
use Rattle.mp_names.specs.Outlines.{Outline, OutlineIsSound}
use Rattle.mp_names.specs.Logs.{Log, LogIsLegal, LogsAreLegal}
use Rattle.mp_names.specs.Frontiers.{IsFrontierOf}
use Rattle.mp_machine.specs.Worlds.{World, posted_logs, start_of_machine}
use Rattle.mp_machine.specs.Steps.{posted_with, having_seen}
use Rattle.mp_machine.specs.Runs.{run_of_machine}
use Rattle.mp_machine.proofs.Puts.{put_all, put_here, put_other}
use Rattle.mp_machine.proofs.Worlds.{run_right}
use Rattle.mp_player_laws.specs.WorkLeft.{added_below, left_at, work_left}
use Rattle.mp_player_laws.proofs.Remaining.{shows_frontier}

-- a sum of which no addend changes, and one of which one does
same_sum : (n : ℕ) (f g : ℕ → ℕ) → ((v : ℕ) → v < n → f v ≡ g v) → added_below n f ≡ added_below n g
same_sum zero f g h = refl
same_sum (suc n) f g h = let before = same_sum n f g (λ v l. h v (omega arith)) in let last = h n (omega arith) in omega arith

one_changes : (n : ℕ) (f g : ℕ → ℕ) (w : ℕ) → w < n → ((v : ℕ) → (v ≡ w → ⊥) → f v ≡ g v) → added_below n f + g w ≡ added_below n g + f w
one_changes zero f g w l h = absurd (omega arith)
one_changes (suc n) f g w l h =
    ⊎_elim
    (λ (k : w < n). let before = one_changes n f g w k h in let last = h n (λ e. differ e k) in omega arith)
    (λ (k : n ≤ w).
    let same : n ≡ w = omega arith in
    let before = same_sum n f g (λ v low. h v (λ e. below v low e k)) in
    let here = ap f same in
    let there = ap g same in
    omega arith)
    (cases_lt w n)
  where
    differ : n ≡ w → w < n → ⊥
    differ e k = omega arith

    below : (v : ℕ) → v < n → v ≡ w → n ≤ w → ⊥
    below v low e k = omega arith

pub work_moves : (o : Outline) (world : World) (w : ℕ) (a : Loc) (t : ℕ) → w < o.workers → work_left o (posted_with world w) a t + left_at o w (world.worker w).posted a t ≡ work_left o (posted_logs world) a t + left_at o w (world.worker w).log a t
work_moves o world w a t l =
    let f : ℕ → ℕ = λ v. left_at o v (posted_with world w v) a t in
    let g : ℕ → ℕ = λ v. left_at o v (posted_logs world v) a t in
    let changed = one_changes o.workers f g w l (λ v n. ap (λ (log : Log). left_at o v log a t) (put_other w v (world.worker w).log (posted_logs world) n)) in
    let here : f w ≡ left_at o w (world.worker w).log a t = ap (λ (log : Log). left_at o w log a t) (put_here w w (world.worker w).log (posted_logs world) refl) in
    changed ∙ ap (λ (n : ℕ). work_left o (posted_logs world) a t + n) here

module _ (o : Outline) (ok : OutlineIsSound o) (depth : ℕ) (steps : List (ℕ × Kind)) where
  abbrev world : World
  world = run_of_machine o depth steps

  legal_with : (w : ℕ) → w < o.workers → LogsAreLegal o (posted_with world w)
  legal_with w l =
      let right = run_right o ok depth steps in
      put_all (λ v (log : Log). v < o.workers → LogIsLegal o v log) w (world.worker w).log (posted_logs world) (λ h. right.logs w h) (λ v n h. right.posted v h)

  pub exchange_sees : (w : ℕ) (at : Loc) (f : Frontier) → w < o.workers → IsFrontierOf (λ a t. pos (work_left o (posted_with world w) a t)) at f → f ≡ (having_seen o world w).seen at
  exchange_sees w at f l is = shows_frontier o ok (posted_with world w) at (legal_with w l) f is

pub start_legal : (o : Outline) → OutlineIsSound o → LogsAreLegal o (posted_logs (start_of_machine o))
start_legal o ok = (run_right o ok 1 []).posted
