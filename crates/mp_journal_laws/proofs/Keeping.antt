-- What is kept of a run merges into it.
use Rattle.std.proofs.Common.{◌≡◌, ℕ, ◌+◌, ◌==◌, cond, Bool, true, false, List, [], ◌∷◌, ◌++◌, length, filter, map, refl, sym, ap, ◌∙◌, subst, arith}
use Rattle.std.proofs.lemmas.List.{append_assoc, map-append}
use Rattle.std.proofs.lemmas.List.Sums.{sum_by-append}
use Rattle.mp_names.specs.declared.kinds.Kept.{Kept}
use Rattle.mp_names.specs.declared.kinds.Kind.{Kind}
use Rattle.mp_names.specs.Outlines.{Outline}
use Rattle.mp_machine.specs.Runs.{Turn, Did, Saw, NotNow, IsFinished, after_turn, is_made, made_count, run_of_machine, step_of_machine, turn_of_machine, turns_of, world_after}
use Rattle.mp_machine.specs.Worlds.{World, start_of_machine}
use Rattle.mp_journal_laws.specs.Journals.{steps_of}
use Rattle.mp_journal_laws.specs.Merges.{AreMade, IsTurnOf, end_of}
use Rattle.mp_journal_laws.specs.Kept.{all_kept, kept_at, kept_of}
use Rattle.mp_journal_laws.specs.KeptPromises.{MergeOfRun}

pushed : {X : Type 0} (b : Bool) (x : X) (xs ys zs : List X) → zs ≡ xs ++ ys → cond b (x ∷ zs) zs ≡ cond b (x ∷ xs) xs ++ ys
pushed true x xs ys zs e = ap (λ (l : List _). x ∷ l) e
pushed false x xs ys zs e = e

filter_more : {X : Type 0} (p : X → Bool) (xs ys : List X) → filter p (xs ++ ys) ≡ filter p xs ++ filter p ys
filter_more p [] ys = refl
filter_more p (x ∷ xs) ys = pushed (p x) x (filter p xs) (filter p ys) (filter p (xs ++ ys)) (filter_more p xs ys)

steps_more : (w : ℕ) (xs ys : List (ℕ × Kept)) → steps_of w (xs ++ ys) ≡ steps_of w xs ++ steps_of w ys
steps_more w xs ys =
    let mine = λ (s : ℕ × Kept). s.0 == w in
    ap (map (λ (s : ℕ × Kept). s.1)) (filter_more mine xs ys) ∙ map-append (λ (s : ℕ × Kept). s.1) (filter mine xs) (filter mine ys)

module _ (o : Outline) (depth : ℕ) where
  abbrev turn : World → ℕ × Kind → Turn
  turn world s = turn_of_machine o depth world s.0 s.1

  abbrev next : World → ℕ × Kind → World
  next world s = step_of_machine o depth world s.0 s.1

  -- what is kept of a step with this turn
  abbrev kept : ℕ × Kind → Turn → List (ℕ × Kept)
  kept s t = map (λ (k : Kept). (s.0, k)) (kept_at s.1 t)

  still : (world : World) (s : ℕ × Kind) → turn world s ≡ NotNow → next world s ≡ world
  unfolding step_of_machine
  still world s e = ap (after_turn o world s.0 s.1) e

  all_more : (steps more : List (ℕ × Kind)) (world : World) → all_kept o depth world (steps ++ more) ≡ all_kept o depth world steps ++ all_kept o depth (world_after o depth world steps) more
  all_more [] more world = refl
  all_more (s ∷ steps) more world =
      ap (λ (behind : List (ℕ × Kept)). kept s (turn world s) ++ behind) (all_more steps more (next world s))
      ∙ sym (append_assoc (kept s (turn world s)) (all_kept o depth (next world s) steps) (all_kept o depth (world_after o depth (next world s) steps) more))

  pub kept_more : (world : World) (steps more : List (ℕ × Kind)) (w : ℕ) → kept_of o depth world (steps ++ more) w ≡ kept_of o depth world steps w ++ kept_of o depth (world_after o depth world steps) more w
  kept_more world steps more w = ap (steps_of w) (all_more steps more world) ∙ steps_more w (all_kept o depth world steps) (all_kept o depth (world_after o depth world steps) more)

  made_then : (world : World) (s : ℕ × Kind) (rest : List (ℕ × Kept)) (t : Turn) → turn world s ≡ t → AreMade o depth (next world s) rest → AreMade o depth world (kept s t ++ rest)
  made_then world s rest (Did x n) e are = (subst (IsTurnOf (record { kind = s.1; version = 0 })) (sym e) tt, are)
  made_then world s rest (Saw version) e are = (subst (IsTurnOf (record { kind = s.1; version = version })) (sym e) refl, are)
  made_then world s rest NotNow e are = subst (λ (z : World). AreMade o depth z rest) (still world s e) are

  are_made : (steps : List (ℕ × Kind)) (world : World) → AreMade o depth world (all_kept o depth world steps)
  are_made [] world = tt
  are_made (s ∷ steps) world = made_then world s (all_kept o depth (next world s) steps) (turn world s) refl (are_made steps (next world s))

  end_then : (world : World) (s : ℕ × Kind) (rest : List (ℕ × Kept)) (t : Turn) → turn world s ≡ t → end_of o depth world (kept s t ++ rest) ≡ end_of o depth (next world s) rest
  end_then world s rest (Did x n) e = refl
  end_then world s rest (Saw version) e = refl
  end_then world s rest NotNow e = ap (λ (z : World). end_of o depth z rest) (sym (still world s e))

  same_end : (steps : List (ℕ × Kind)) (world : World) → end_of o depth world (all_kept o depth world steps) ≡ world_after o depth world steps
  same_end [] world = refl
  same_end (s ∷ steps) world = end_then world s (all_kept o depth (next world s) steps) (turn world s) refl ∙ same_end steps (next world s)

  one_kept : (s : ℕ × Kind) (t : Turn) (rest : List (ℕ × Kept)) → length (kept s t ++ rest) ≡ made_count (t ∷ []) + length rest
  one_kept s (Did x n) rest = let one : made_count (Did x n ∷ []) ≡ 1 = refl in omega (arith, one)
  one_kept s (Saw version) rest = let one : made_count (Saw version ∷ []) ≡ 1 = refl in omega (arith, one)
  one_kept s NotNow rest = let none : made_count (NotNow ∷ []) ≡ 0 = refl in omega (arith, none)

  as_many : (steps : List (ℕ × Kind)) (world : World) → length (all_kept o depth world steps) ≡ made_count (turns_of o depth world steps)
  as_many [] world = refl
  as_many (s ∷ steps) world =
      let here = one_kept s (turn world s) (all_kept o depth (next world s) steps) in
      let behind = as_many steps (next world s) in
      let parts : made_count (turn world s ∷ turns_of o depth (next world s) steps) ≡ made_count (turn world s ∷ []) + made_count (turns_of o depth (next world s) steps) = sum_by-append (λ t. cond (is_made t) 1 0) (turn world s ∷ []) (turns_of o depth (next world s) steps) in
      omega arith

  pub merge_of_run : (steps : List (ℕ × Kind)) → IsFinished o (run_of_machine o depth steps) → MergeOfRun o depth steps
  merge_of_run steps over =
      let start = start_of_machine o in
      record {
        merge = all_kept o depth start steps;
        legal = record {
          merge = record { order = λ w. refl; made = are_made steps start };
          finished = subst (IsFinished o) (sym (same_end steps start)) over;
        };
        many = as_many steps start;
      }
