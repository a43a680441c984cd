-- The wakes of a saved state that fits: they are not too late, and later than the start.
use Rattle.std.proofs.Common.{◌≡◌, refl, ◌<◌, ◌≤◌, ◌==◌, ℕ, true, [], Option, None, Some, All, arith, filter}
use Rattle.std.proofs.lemmas.Bool.{leb-true}
use Rattle.std.proofs.lemmas.List.Elements.{All-nil, All-filter, All-map}
use Rattle.mp_names.specs.Limits.{last_time}
use Rattle.mp_model.specs.Facts.{QueryFacts, SavedState, SavedWake}
use Rattle.mp_model.specs.QueryLaws.{SavedFits}
use Rattle.mp_model.specs.Tables.{is_after_saved, opening_wakes}

module _ {Cell : Type 0} (q : QueryFacts Cell) where
  -- no wake that a stage begins with is too late
  pub saved_in_time : (from : Option SavedState) → SavedFits q from → (j : ℕ) → All (λ w. w.0 ≤ last_time) (opening_wakes from j)
  saved_in_time None fits j = All-nil (λ (w : ℕ × ℕ). w.0 ≤ last_time)
  saved_in_time (Some saved) fits j =
      All-map
      (λ (w : ℕ × ℕ). w.0 ≤ last_time)
      (λ (w : SavedWake). (w.time, w.key))
      (filter (λ (w : SavedWake). w.stage == j) saved.wakes)
      (All-filter (λ (w : SavedWake). w.stage == j) (λ (w : SavedWake). w.time ≤ last_time) saved.wakes fits.in_time)

  -- where there is one, a time that counts is later than 0
  pub counted_after_start : (from : Option SavedState) → SavedFits q from → (j : ℕ) → (opening_wakes from j ≡ [] → ⊥) → (t : ℕ) → is_after_saved from t ≡ true → 0 < t
  counted_after_start None fits j some t after = absurd (some refl)
  counted_after_start (Some saved) fits j some t after =
      let begins : 0 < saved.time = fits.time.0 in
      let later : saved.time ≤ t = leb-true saved.time t after in
      omega arith
