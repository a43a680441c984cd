-- The wakes that a stage begins with, and the names of their groups.
use Rattle.std.proofs.Common.{◌≡◌, ℕ, ◌<◌, ◌==◌, ◌&&◌, ◌||◌, nat_lt, Bool, true, false, cond, Option, None, Some, List, [], ◌∷◌, filter, map, Contains, refl, sym, ap, ◌∙◌, subst, subst₂}
use Rattle.std.specs.List.{list_any}
use Rattle.std.proofs.lemmas.Bool.{and_right, eq-eqb, eqb-true, lt-ltb, ltb-true}
use Rattle.std.proofs.lemmas.List.Elements.{All-contains}
use Rattle.mp_names.specs.declared.names.Name.{Name}
use Rattle.mp_names.specs.declared.names.Name.TheVariants.{Group}
use Rattle.mp_names.specs.Names.{has, In}
use Rattle.mp_model.specs.Facts.{JobFacts, QueryFacts, SavedState, SavedWake}
use Rattle.mp_model.specs.Folds.{waking_of}
use Rattle.mp_model.specs.QueryLaws.{SavedFits}
use Rattle.mp_model.specs.Tables.{opening_wakes}
use Rattle.mp_job.specs.Legal.{JobIsLegal}
use Rattle.mp_job.proofs.Members.{Contains-filter, Contains-map, filter-Contains, map-Contains, nothing_in_nil}
use Rattle.mp_outline.specs.JobOutline.{name_of_wake, opening_names}
use Rattle.mp_outline.proofs.Found.{found, found_there}
use Rattle.mp_outline.proofs.Named.{if_In, In_if, In_named, named_In}

module _ {Cell : Type 0} (q : QueryFacts Cell) (job : JobFacts) where
  -- the name of an opening wake is that of a wake, and the stage is there
  pub wake_named : (j : ℕ) (x : Name) → In x (opening_names q job j) → (w : ℕ × ℕ) × Contains (q.waking j) w × (name_of_wake j w ≡ x) × (j < job.shape.stages)
  wake_named j x h =
      let a = In_if (nat_lt j job.shape.stages) (map (name_of_wake j) (q.waking j)) x h in
      let b = In_named (name_of_wake j) (q.waking j) x a.1 in
      (b.0, b.1, b.2, ltb-true j job.shape.stages a.0)

  -- each wake of a stage that is there has its name
  pub wake_stands : (j : ℕ) (w : ℕ × ℕ) → j < job.shape.stages → Contains (q.waking j) w → In (name_of_wake j w) (opening_names q job j)
  wake_stands j w l h =
      if_In (nat_lt j job.shape.stages) (map (name_of_wake j) (q.waking j)) (name_of_wake j w) (lt-ltb j job.shape.stages l) (named_In (name_of_wake j) (q.waking j) w h)

module _ {Cell : Type 0} (q : QueryFacts Cell) where
  -- saved wakes are of the first stage
  saved_first : (from : Option SavedState) → SavedFits q from → (j : ℕ) (w : ℕ × ℕ) → Contains (opening_wakes from j) w → j ≡ 0
  saved_first None fits j w i = absurd (nothing_in_nil w i)
  saved_first (Some saved) fits j w i =
      let own = filter (λ (v : SavedWake). v.stage == j) saved.wakes in
      let a = found (λ (v : SavedWake). (v.time, v.key) ≡ w) own (Contains-map (λ (v : SavedWake). (v.time, v.key)) own w i) in
      let b = Contains-filter (λ (v : SavedWake). v.stage == j) saved.wakes a.0 a.1 in
      sym (eqb-true a.0.stage j b.1) ∙ All-contains (λ (v : SavedWake). v.stage ≡ 0) saved.wakes a.0 fits.first b.0

module _ {Cell : Type 0} (q : QueryFacts Cell) (job : JobFacts) (legal : JobIsLegal q job) where
  -- only the first stage of a job begins with wakes
  pub wakes_are_first : (j : ℕ) (w : ℕ × ℕ) → Contains (q.waking j) w → j ≡ 0
  wakes_are_first j w i = saved_first q job.from legal.saved j w (subst (λ (ws : List (ℕ × ℕ)). Contains ws w) (legal.table.waking j) i)

  -- so no other has their names
  pub opens_first : (j : ℕ) (x : Name) → In x (opening_names q job j) → j ≡ 0
  opens_first j x h = let a = wake_named q job j x h in wakes_are_first j a.0 a.1

module _ {Cell : Type 0} (q : QueryFacts Cell) (j k t : ℕ) where
  -- the wakes of a key are the stage's wakes that have it
  pub waking_is : Contains (waking_of q j k) t → Contains (q.waking j) (t, k)
  waking_is h =
      let own = filter (λ (w : ℕ × ℕ). w.1 == k) (q.waking j) in
      let a = found (λ (w : ℕ × ℕ). w.0 ≡ t) own (Contains-map (λ (w : ℕ × ℕ). w.0) own t h) in
      let c = Contains-filter (λ (w : ℕ × ℕ). w.1 == k) (q.waking j) a.0 a.1 in
      subst₂ (λ (s l : ℕ). Contains (q.waking j) (s, l)) a.2 (eqb-true a.0.1 k c.1) c.0

  pub is_waking : Contains (q.waking j) (t, k) → Contains (waking_of q j k) t
  is_waking h =
      let own = filter (λ (w : ℕ × ℕ). w.1 == k) (q.waking j) in
      map-Contains (λ (w : ℕ × ℕ). w.0) own t (found_there (λ (w : ℕ × ℕ). w.0 ≡ t) own (t, k) (filter-Contains (λ (w : ℕ × ℕ). w.1 == k) (q.waking j) (t, k) h (eq-eqb k k refl)) refl)

-- whether one of them has a time

and_true : (b : Bool) → (b && true) ≡ b
and_true true = refl
and_true false = refl

first_kept : (b : Bool) (t : ℕ) (w : ℕ × ℕ) (ws : List (ℕ × ℕ)) → list_any (λ u. u == t) (map (λ v. v.0) (cond b (w ∷ ws) ws)) ≡ (w.0 == t && b || list_any (λ u. u == t) (map (λ v. v.0) ws))
first_kept true t w ws = ap (λ (a : Bool). a || list_any (λ u. u == t) (map (λ (v : ℕ × ℕ). v.0) ws)) (sym (and_true (w.0 == t)))
first_kept false t w ws = ap (λ (a : Bool). a || list_any (λ u. u == t) (map (λ (v : ℕ × ℕ). v.0) ws)) (sym (and_right (w.0 == t) false refl))

-- names have that of a group exactly where the wakes of its key have its time
pub names_wake : (j t k : ℕ) (ws : List (ℕ × ℕ)) → has (map (name_of_wake j) ws) (Group j t k) ≡ list_any (λ u. u == t) (map (λ w. w.0) (filter (λ w. w.1 == k) ws))
names_wake j t k [] = refl
names_wake j t k (w ∷ ws) =
    ap (λ (b : Bool). b && (w.0 == t && w.1 == k) || has (map (name_of_wake j) ws) (Group j t k)) (eq-eqb j j refl)
    ∙ ap (λ (b : Bool). w.0 == t && w.1 == k || b) (names_wake j t k ws)
    ∙ sym (first_kept (w.1 == k) t w (filter (λ (v : ℕ × ℕ). v.1 == k) ws))
