-- The greatest control time below that of the next control record, as the cursor moves on.
use Rattle.std.proofs.Common.{◌≡◌, ◌⊎◌, ◌∙◌, ◌==◌, ℕ, suc, ◌<◌, ◌≤◌, ◌+◌, Bool, true, List, Option, None, Some, length, refl, sym, ap, subst, ⊎_elim, arith}
use Rattle.std.proofs.lemmas.Bool.{both_ways, cond_both, eqb-false}
use Rattle.mp_names.specs.declared.controls.Control.{Control}
use Rattle.mp_names.specs.declared.pointstamps.ControlCursor.{ControlCursor}
use Rattle.mp_names.specs.Controls.{control_of}
use Rattle.mp_controller.specs.Controlling.{Controlling, GoesBefore, IsControlling, IsLatestBelow, IsLeft, IsSendingOrder, index_at}
use Rattle.mp_controller.specs.Cursors.{cursor, place_after}
use Rattle.mp_controller.proofs.Orders.{index_listed, place_of}

module _ (controls : List Control) (order : List ℕ) (ordered : IsSendingOrder true controls order) where
  abbrev time_at : ℕ → ℕ
  time_at p = (control_of controls (index_at order p)).time

  -- times don't fall along the order
  times_rise : (p k : ℕ) → p ≤ k → k < length order → time_at p ≤ time_at k
  times_rise p k l m = ⊎_elim (λ (s : p < k). below p k (ordered.by_turn p k s m)) (λ (e : p ≡ k). let same = ap time_at e in omega arith) (either p k l)
    where
      below : (p k : ℕ) → GoesBefore true controls (index_at order p) (index_at order k) → time_at p ≤ time_at k
      below p k before = ⊎_elim (λ (s : time_at p < time_at k). omega arith) (λ (a : (time_at p ≡ time_at k) × (index_at order p < index_at order k)). omega arith) before

      either : (p k : ℕ) → p ≤ k → (p < k) ⊎ (p ≡ k)
      either p k l = grind arith

  -- at first there is none below
  pub none_before : 0 < length order → IsLatestBelow controls (time_at 0) None
  none_before some i l =
      let place = place_of true controls order ordered i l in
      let rise = times_rise 0 place.0 (omega arith) place.1 in
      let e = ap (λ (k : ℕ). (control_of controls k).time) place.2 in
      omega arith

  module _ (p : ℕ) (next : p + 1 < length order) where
    -- behind a control record of an earlier time the greatest below is that time
    pub last_is_latest : time_at p < time_at (p + 1) → IsLatestBelow controls (time_at (p + 1)) (Some (time_at p))
    last_is_latest less = (less, (index_at order p, index_listed true controls order ordered p (omega arith), refl), below)
      where
        below : (i : ℕ) → i < length controls → (control_of controls i).time < time_at (p + 1) → (control_of controls i).time ≤ time_at p
        below i l sooner =
            let place = place_of true controls order ordered i l in
            let e = ap (λ (k : ℕ). (control_of controls k).time) place.2 in
            at place.0 place.1 e (times_rise place.0 p) (times_rise (p + 1) place.0)
          where
            at : (k : ℕ) → k < length order → time_at k ≡ (control_of controls i).time → (k ≤ p → p < length order → time_at k ≤ time_at p) → (p + 1 ≤ k → k < length order → time_at (p + 1) ≤ time_at k) → (control_of controls i).time ≤ time_at p
            at k m e low high = grind arith

    -- behind one of the same time it stays
    pub latest_stays : time_at (p + 1) ≤ time_at p → (before : Option ℕ) → IsLatestBelow controls (time_at p) before → IsLatestBelow controls (time_at (p + 1)) before
    latest_stays no_more before latest =
        let rise = times_rise p (p + 1) (omega arith) next in
        let same : time_at p ≡ time_at (p + 1) = omega arith in
        subst (λ (t : ℕ). IsLatestBelow controls t before) same latest

-- A controller whose cursor has moved on to the next control record

module _ (c : Controlling) (before : Option ℕ) (keeps : IsControlling c before) (left : IsLeft c) (next : ControlCursor) (after : next ≡ place_after c.shape.workers c.next) (moved : next.index ≡ c.next.index → ⊥) (paced : c.paced ≡ true) where
  next_index_is : next.index ≡ c.next.index + 1
  next_index_is = ap (λ (n : ControlCursor). n.index) after ∙ cond_both {A = ControlCursor} (suc c.next.receiver == c.shape.workers) (cursor (suc c.next.index) 0) (cursor c.next.index (suc c.next.receiver)) (λ n. n.index ≡ c.next.index + 1)
      (λ e. omega arith)
      (λ e. absurd (moved (rw after (rw e refl))))

  next_receiver_fits : next.receiver < c.shape.workers
  next_receiver_fits = rw after (cond_both {A = ControlCursor} (suc c.next.receiver == c.shape.workers) (cursor (suc c.next.index) 0) (cursor c.next.index (suc c.next.receiver)) (λ n. n.receiver < c.shape.workers)
      (λ e. let l = keeps.receiver in omega arith)
      (λ e. let l = keeps.receiver in let n = eqb-false (suc c.next.receiver) c.shape.workers e in omega arith))

  ordered : IsSendingOrder true c.controls c.order
  ordered = subst (λ (p : Bool). IsSendingOrder p c.controls c.order) paced keeps.order

  moved_on : (latest : Option ℕ) → (next.index < length c.order → IsLatestBelow c.controls (control_of c.controls (index_at c.order next.index)).time latest) → IsControlling (record c { next = next }) latest
  moved_on latest is = record {
    order = keeps.order;
    few = keeps.few;
    place = let e = next_index_is in omega arith;
    receiver = next_receiver_fits;
    latest = λ paced left. is left;
    no_wait = λ e. absurd (both_ways c.paced e paced);
  }

  abbrev its_time : ℕ → ℕ
  its_time p = (control_of c.controls (index_at c.order p)).time

  -- the last one's time is the greatest below where it is less
  pub moved_later : its_time c.next.index < its_time next.index → IsControlling (record c { next = next }) (Some (its_time c.next.index))
  moved_later less = moved_on (Some (its_time c.next.index)) (λ l.
      let e = next_index_is in
      subst (λ (p : ℕ). IsLatestBelow c.controls (its_time p) (Some (its_time c.next.index))) (sym e) (last_is_latest c.controls c.order ordered c.next.index (subst (λ (p : ℕ). p < length c.order) e l) (subst (λ (p : ℕ). its_time c.next.index < its_time p) e less)))

  -- else it is the one that was
  pub moved_along : its_time next.index ≤ its_time c.next.index → IsControlling (record c { next = next }) before
  moved_along no_more = moved_on before (λ l.
      let e = next_index_is in
      subst (λ (p : ℕ). IsLatestBelow c.controls (its_time p) before) (sym e) (latest_stays c.controls c.order ordered c.next.index (subst (λ (p : ℕ). p < length c.order) e l) (subst (λ (p : ℕ). its_time p ≤ its_time c.next.index) e no_more) before (keeps.latest paced left)))
