-- The merge of what the workers of a whole schedule have kept.
use Rattle.std.proofs.Common.{◌≡◌, ◌⊎◌, ℕ, ◌<◌, ◌≤◌, ◌==◌, List, [], ◌∷◌, ◌++◌, get_or, length, refl, sym, ap, ◌∙◌, ⊎_elim, arith}
use Rattle.std.proofs.lemmas.Bool.{cases_eq, cond-false, ne_eqb}
use Rattle.std.proofs.lemmas.List.{get_or_past}
use Rattle.std.proofs.lemmas.Option.{slice_get-get_or}
use Rattle.mp_names.specs.declared.kinds.Kept.{Kept}
use Rattle.mp_names.specs.declared.kinds.Kind.{Kind}
use Rattle.mp_names.specs.Outlines.{Outline, OutlineIsSound}
use Rattle.mp_machine.specs.Runs.{NotNow, run_of_machine, step_of_machine, turn_of_machine}
use Rattle.mp_machine.specs.Worlds.{World, start_of_machine}
use Rattle.mp_machine.proofs.Full.{over_where_known}
use Rattle.mp_machine.proofs.Turns.{not_now_from}
use Rattle.mp_machine.proofs.Worlds.{exchange_place, run_right}
use Rattle.mp_audit.specs.Going.{HasLegalMerge}
use Rattle.mp_audit.specs.Lists.{list_of}
use Rattle.mp_journal_laws.specs.Kept.{kept_at, kept_of}
use Rattle.mp_journal_laws.proofs.Keeping.{kept_more, merge_of_run}
use Rattle.mp_drive.specs.Below.{IsKeptBySchedule, kept_one, none_of}

module _ (o : Outline) (ok : OutlineIsSound o) (depth : ℕ) where
  -- a worker that the outline hasn't makes no step
  outside_not_now : (world : World) (w : ℕ) (kind : Kind) → o.workers ≤ w → turn_of_machine o depth world w kind ≡ NotNow
  unfolding turn_of_machine
  outside_not_now world w kind past =
      not_now_from o depth world w ok kind (λ x can. let l = can.0.0 in absurd (omega arith)) (λ can. let l = exchange_place o world w kind can in absurd (omega arith))

  one_outside : (world : World) (v : ℕ) (kind : Kind) (w : ℕ) → o.workers ≤ w → kept_of o depth world ((v, kind) ∷ []) w ≡ []
  one_outside world v kind w past =
      ⊎_elim
      (λ (e : v ≡ w). kept_one o depth world v kind NotNow (outside_not_now world v kind (omega arith)) w ∙ none_of (v == w))
      (λ (n : v ≡ w → ⊥).
      kept_one o depth world v kind (turn_of_machine o depth world v kind) refl w ∙ cond-false (v == w) (kept_at kind (turn_of_machine o depth world v kind)) [] (ne_eqb v w n))
      (cases_eq v w)

  -- so it keeps none
  none_outside : (steps : List (ℕ × Kind)) (world : World) (w : ℕ) → o.workers ≤ w → kept_of o depth world steps w ≡ []
  none_outside [] world w past = refl
  none_outside (s ∷ steps) world w past =
      let next = step_of_machine o depth world s.0 s.1 in
      kept_more o depth world (s ∷ []) steps w
      ∙ ap (λ (kept : List Kept). kept ++ kept_of o depth next steps w) (one_outside world s.0 s.1 w past)
      ∙ none_outside steps next w past

  module _ (seed : ℕ) (journals : List (List Kept)) (by : IsKeptBySchedule o depth seed journals) where
    each : (w : ℕ) → kept_of o depth (start_of_machine o) by.steps w ≡ list_of journals w
    each w =
        ⊎_elim
        (λ (l : w < o.workers). let many = by.all_workers in sym (by.each w (get_or journals w []) (slice_get-get_or journals w [] (omega arith))))
        (λ (l : o.workers ≤ w). let many = by.all_workers in none_outside by.steps (start_of_machine o) w l ∙ sym (get_or_past journals w [] (omega arith)))
        (either w o.workers)
      where
        either : (a b : ℕ) → (a < b) ⊎ (b ≤ a)
        either a b = grind arith

    pub legal_merge : (n : ℕ) × HasLegalMerge o depth (list_of journals) n
    legal_merge =
        let world = run_of_machine o depth by.steps in
        let run = merge_of_run o depth by.steps (over_where_known o ok depth world (run_right o ok depth by.steps) by.finished) in (
          length run.merge,
          (run.merge, record { merge = record { order = λ w. run.legal.merge.order w ∙ each w; made = run.legal.merge.made }; finished = run.legal.finished }, refl),
        )
