-- Records in order make the timelines and outputs that they make as they come.
use Rattle.std.proofs.Common.{◌≡◌, ◌==◌, ◌||◌, ◌&&◌, ◌++◌, ℕ, Bool, List, ◌∷◌, map, sym, ap, ◌∙◌}
use Rattle.std.specs.List.{flat_map, list_any}
use Rattle.std.proofs.lemmas.List.Folds.{list_any-append}
use Rattle.std.proofs.lemmas.List.Sorted.{IsPermutation-append_right, IsPermutation-map, list_any-IsPermutation}
use Rattle.mp_model.specs.declared.record.Rec.{Rec}
use Rattle.mp_model.specs.Ascending.{ascending}
use Rattle.mp_model.specs.Facts.{QueryFacts}
use Rattle.mp_model.specs.Folds.{at_time, entry_at, is_woken, keys_in, of_key, outputs_along, outputs_of, stage_outputs, timeline, times_in, waking_of}
use Rattle.mp_fold.proofs.Ascending.{ascending_same, has}
use Rattle.mp_fold.proofs.Numbers.{any_kept, has-flat_map}
use Rattle.mp_fold.specs.Order.{AreInOrder}

module _ {Cell : Type 0} (q : QueryFacts Cell) (j : ℕ) (recs ordered : List Rec) (is : AreInOrder recs ordered) where
  keys_same : keys_in q j ordered ≡ keys_in q j recs
  keys_same =
      let first = map (λ (w : ℕ × ℕ). w.1) (q.waking j) in
      let moved = IsPermutation-append_right first (map (λ (r : Rec). r.key) recs) (map (λ (r : Rec). r.key) ordered) (IsPermutation-map (λ (r : Rec). r.key) recs ordered is.same) in
      ascending_same _ _ (λ u. sym (list_any-IsPermutation (λ (v : ℕ). v == u) _ _ moved))

  module _ (k : ℕ) where
    -- one of the records of a key passes a test
    any_same : (p : Rec → Bool) → list_any p (of_key k ordered) ≡ list_any p (of_key k recs)
    any_same p =
        any_kept p (λ (r : Rec). r.key == k) ordered
        ∙ sym (list_any-IsPermutation (λ (r : Rec). (r.key == k) && p r) recs ordered is.same)
        ∙ sym (any_kept p (λ (r : Rec). r.key == k) recs)

    times_same : (u : ℕ) → has u (waking_of q j k ++ times_in q j (of_key k ordered)) ≡ has u (waking_of q j k ++ times_in q j (of_key k recs))
    times_same u =
        let times = λ (r : Rec). r.time ∷ q.posts j r in
        let found = has-flat_map u times (of_key k ordered) ∙ any_same (λ r. has u (times r)) ∙ sym (has-flat_map u times (of_key k recs)) in
        list_any-append (λ (v : ℕ). v == u) (waking_of q j k) (times_in q j (of_key k ordered))
        ∙ ap (λ b. has u (waking_of q j k) || b) found
        ∙ sym (list_any-append (λ (v : ℕ). v == u) (waking_of q j k) (times_in q j (of_key k recs)))

    group_same : (t : ℕ) → entry_at q j k (of_key k ordered) t ≡ entry_at q j k (of_key k recs) t
    group_same t =
        let woken : is_woken q j k (of_key k ordered) t ≡ is_woken q j k (of_key k recs) t = ap (λ b. list_any (λ u. u == t) (waking_of q j k) || b) (any_same (λ r. list_any (λ u. u == t) (q.posts j r))) in
        let now : at_time t (of_key k ordered) ≡ at_time t (of_key k recs) = is.kept k t in
        λ i. record { time = t; key = k; woken = woken i; recs = now i }

    pub timeline_same : timeline q j k ordered ≡ timeline q j k recs
    timeline_same =
        ap (map (entry_at q j k (of_key k ordered))) (ascending_same _ _ times_same)
        ∙ (λ i. map (λ t. group_same t i) (ascending (waking_of q j k ++ times_in q j (of_key k recs))))

    outputs_same : outputs_of q j ordered k ≡ outputs_of q j recs k
    outputs_same = ap (outputs_along q j (q.opening j k)) timeline_same

  pub stage_same : stage_outputs q j ordered ≡ stage_outputs q j recs
  stage_same = ap (flat_map (outputs_of q j ordered)) keys_same ∙ (λ i. flat_map (λ k. outputs_same k i) (keys_in q j recs))
