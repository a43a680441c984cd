-- What stands among the times.
use Rattle.std.proofs.Common.{◌≡◌, ◌⊎◌, ℕ, List, ◌∷◌, ◌++◌, Any, Contains, inl, inr, subst, ⊎_elim}
use Rattle.std.proofs.lemmas.List.Elements.{Contains-append_cases, Contains-append_left, Contains-append_right}
use Rattle.mp_names.specs.declared.controls.Control.{Control}
use Rattle.mp_model.specs.declared.record.Event.{Event}
use Rattle.mp_model.specs.declared.record.Rec.{Rec}
use Rattle.mp_model.specs.Facts.{QueryFacts}
use Rattle.mp_model.specs.Folds.{times_in}
use Rattle.mp_model.specs.Stages.{input_records}
use Rattle.mp_shares.specs.Laws.{HasTime}
use Rattle.mp_shares.specs.Times.{control_times, times_of, wake_times}
use Rattle.mp_shares.proofs.Ascents.{ascending-Contains, Contains-ascending}
use Rattle.mp_shares.proofs.Members.{Any-weaker, Contains-cases, Contains-flat_map, Contains-here, Contains-later, Contains-map, flat_map-Contains, map-Contains}

module _ {Cell : Type 0} (q : QueryFacts Cell) where
  -- a record has a time or posts it
  abbrev IsOf : ℕ → Rec → Type 0
  IsOf t r = (r.time ≡ t) ⊎ Contains (q.posts 0 r) t

  stands_there : (t : ℕ) (r : Rec) → IsOf t r → Contains (r.time ∷ q.posts 0 r) t
  stands_there t r h =
      ⊎_elim
      (λ (e : r.time ≡ t). subst (λ (u : ℕ). Contains (r.time ∷ q.posts 0 r) u) e (Contains-here r.time (q.posts 0 r)))
      (λ (i : Contains (q.posts 0 r) t). Contains-later r.time t (q.posts 0 r) i)
      h

  abbrev of_records : List Event → List ℕ
  of_records events = times_in q 0 (input_records q events)

  abbrev time : Control → ℕ
  time c = c.time

  -- the times of a record: its own, and those that it posts
  abbrev its_times : Rec → List ℕ
  its_times r = r.time ∷ q.posts 0 r

  record_has : (events : List Event) (t : ℕ) → Any (IsOf t) (input_records q events) → Contains (of_records events) t
  record_has events t i =
      let rs = input_records q events in
      flat_map-Contains its_times rs t (Any-weaker (IsOf t) (λ (r : Rec). Contains (its_times r) t) (stands_there t) rs i)

  has_record : (events : List Event) (t : ℕ) → Contains (of_records events) t → Any (IsOf t) (input_records q events)
  has_record events t i =
      let rs = input_records q events in
      Any-weaker (λ (r : Rec). Contains (its_times r) t) (IsOf t) (λ r k. Contains-cases r.time t (q.posts 0 r) k) rs (Contains-flat_map its_times rs t i)

  abbrev without_wakes : List Event → List Control → List ℕ
  without_wakes events controls = of_records events ++ control_times controls

  pub times_have : (events : List Event) (controls : List Control) (t : ℕ) → HasTime q events controls t → Contains (times_of q events controls) t
  times_have events controls t h = ascending-Contains (without_wakes events controls ++ wake_times q) t (⊎_elim from_record (λ h. ⊎_elim from_control (Contains-append_right (without_wakes events controls) (wake_times q) t) h) h)
    where
      early : Contains (without_wakes events controls) t → Contains (without_wakes events controls ++ wake_times q) t
      early i = Contains-append_left (without_wakes events controls) (wake_times q) t i

      from_record : Any (IsOf t) (input_records q events) → Contains (without_wakes events controls ++ wake_times q) t
      from_record i = early (Contains-append_left (of_records events) (control_times controls) t (record_has events t i))

      from_control : Any (λ (c : Control). c.time ≡ t) controls → Contains (without_wakes events controls ++ wake_times q) t
      from_control i = early (Contains-append_right (of_records events) (control_times controls) t (map-Contains time controls t i))

  pub have_times : (events : List Event) (controls : List Control) (t : ℕ) → Contains (times_of q events controls) t → HasTime q events controls t
  have_times events controls t h = ⊎_elim early (λ i. inr (inr i)) (Contains-append_cases (without_wakes events controls) (wake_times q) t (Contains-ascending (without_wakes events controls ++ wake_times q) t h))
    where
      early : Contains (without_wakes events controls) t → HasTime q events controls t
      early h =
          ⊎_elim
          (λ (i : Contains (of_records events) t). inl (has_record events t i))
          (λ (i : Contains (control_times controls) t). inr (inl (Contains-map time controls t i)))
          (Contains-append_cases (of_records events) (control_times controls) t h)
