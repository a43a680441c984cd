-- What is kept of one step, and of steps of which none is made.
use Rattle.std.proofs.Common.{◌≡◌, ℕ, ◌+◌, ◌==◌, cond, Bool, true, false, List, [], ◌∷◌, ◌++◌, map, refl, ap, ◌∙◌, sym, arith}
use Rattle.std.proofs.lemmas.List.Sums.{sum_by-append}
use Rattle.mp_names.specs.declared.kinds.Kept.{Kept}
use Rattle.mp_names.specs.declared.kinds.Kind.{Kind}
use Rattle.mp_names.specs.Outlines.{Outline}
use Rattle.mp_machine.specs.Runs.{Turn, Did, Saw, NotNow, after_turn, is_made, made_count, step_of_machine, turn_of_machine, turns_of, world_after}
use Rattle.mp_machine.specs.Worlds.{World}
use Rattle.mp_journal_laws.specs.Journals.{steps_of}
use Rattle.mp_journal_laws.specs.Kept.{kept_at, kept_of}
use Rattle.mp_journal_laws.proofs.Keeping.{kept_more}

-- no step, whoever's it is
pub none_of : (b : Bool) → ◌≡◌ {A = List Kept} (cond b [] []) []
none_of true = refl
none_of false = refl

idle : (t : Turn) → made_count (t ∷ []) ≡ 0 → t ≡ NotNow
idle (Did x n) e = let one : made_count (Did x n ∷ []) ≡ 1 = refl in absurd (omega (arith, e, one))
idle (Saw version) e = let one : made_count (Saw version ∷ []) ≡ 1 = refl in absurd (omega (arith, e, one))
idle NotNow e = refl

module _ (o : Outline) (depth : ℕ) where
  -- of one step its worker keeps what its turn leaves, and another nothing
  pub kept_one : (world : World) (w : ℕ) (kind : Kind) (t : Turn) → turn_of_machine o depth world w kind ≡ t → (v : ℕ) → kept_of o depth world ((w, kind) ∷ []) v ≡ cond (w == v) (kept_at kind t) []
  kept_one world w kind t e v = ap (λ (u : Turn). steps_of v (map (λ (k : Kept). (w, k)) (kept_at kind u) ++ [])) e ∙ by_turn t
    where
      by_worker : (b : Bool) (k : Kept) → map (λ (s : ℕ × Kept). s.1) (cond b ((w, k) ∷ []) []) ≡ cond b (k ∷ []) []
      by_worker true k = refl
      by_worker false k = refl

      by_turn : (u : Turn) → steps_of v (map (λ (k : Kept). (w, k)) (kept_at kind u) ++ []) ≡ cond (w == v) (kept_at kind u) []
      by_turn (Did x n) = by_worker (w == v) (record { kind = kind; version = 0 })
      by_turn (Saw version) = by_worker (w == v) (record { kind = kind; version = version })
      by_turn NotNow = sym (none_of (w == v))

  still : (world : World) (w : ℕ) (kind : Kind) → turn_of_machine o depth world w kind ≡ NotNow → step_of_machine o depth world w kind ≡ world
  unfolding step_of_machine
  still world w kind e = ap (after_turn o world w kind) e

  -- where no step is made nothing changes, and nothing is kept
  pub none_made : (steps : List (ℕ × Kind)) (world : World) → made_count (turns_of o depth world steps) ≡ 0 → (world_after o depth world steps ≡ world) × ((w : ℕ) → kept_of o depth world steps w ≡ [])
  none_made [] world none = (refl, λ w. refl)
  none_made (s ∷ steps) world none =
      let turn = turn_of_machine o depth world s.0 s.1 in
      let next = step_of_machine o depth world s.0 s.1 in
      let parts : made_count (turn ∷ turns_of o depth next steps) ≡ made_count (turn ∷ []) + made_count (turns_of o depth next steps) = sum_by-append (λ (t : Turn). cond (is_made t) 1 0) (turn ∷ []) (turns_of o depth next steps) in
      let here : turn ≡ NotNow = idle turn (omega (arith, parts, none)) in
      let later = none_made steps next (omega (arith, parts, none)) in (
        later.0 ∙ still world s.0 s.1 here,
        λ w.
            kept_more o depth world (s ∷ []) steps w
            ∙ ap (λ (kept : List Kept). kept ++ kept_of o depth next steps w) (kept_one world s.0 s.1 NotNow here w ∙ none_of (s.0 == w))
            ∙ later.1 w,
      )
