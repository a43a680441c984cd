-- Which control records are sent, by the place of the next one.
use Rattle.std.proofs.Common.{◌≡◌, ℕ, suc, ◌<◌, ◌⊎◌, ◌==◌, ◌&&◌, Bool, true, false, nat_lt, List, [], ◌∷◌, ◌++◌, length, refl, sym, ap, ◌∙◌, subst, inl, inr, ⊎_elim, arith}
use Rattle.std.proofs.lemmas.Bool.{and_from, and_parts, cond_both, eq-eqb, eqb-false, eqb-true, false_from_ne_true, lt-ltb, ltb-true, or_cases, or_left, or_right}
use Rattle.mp_names.specs.declared.names.Name.{Name}
use Rattle.mp_names.specs.declared.names.Name.TheVariants.{Ctrl}
use Rattle.mp_names.specs.declared.pointstamps.ControlCursor.{ControlCursor}
use Rattle.mp_names.specs.Names.{has, In}
use Rattle.mp_names.specs.Logs.{Log, empty_log, with_sent}
use Rattle.mp_names.specs.Outlines.{Outline}
use Rattle.mp_names.proofs.Lists.{In_here, In_left, In_push, In_right}
use Rattle.mp_names.specs.declared.controls.Control.{Control}
use Rattle.mp_names.specs.declared.controls.Shape.{Shape}
use Rattle.mp_model.specs.Facts.{JobFacts}
use Rattle.mp_controller.specs.Controlling.{Controlling, IsLeft, IsNew, IsSendingOrder, after_sent, index_at, next_index, next_name}
use Rattle.mp_controller.specs.Cursors.{cursor, is_before}
use Rattle.mp_controller.specs.Telling.{IsControllerOf}
use Rattle.mp_controller.proofs.Orders.{one_place}

-- two tests that hold together are one
same_test : (a b : Bool) → (a ≡ true → b ≡ true) → (b ≡ true → a ≡ true) → a ≡ b
same_test true b to from = sym (to refl)
same_test false true to from = from refl
same_test false false to from = refl

-- the indices and receivers of two control records are told by their names

abbrev ctrl_index : Name → ℕ
ctrl_index (Ctrl i v) = i
ctrl_index _ = 0

abbrev ctrl_receiver : Name → ℕ
ctrl_receiver (Ctrl i v) = v
ctrl_receiver _ = 0

-- a control record stands in a list with one more, where it is that one or stood there before
pub has_ctrl : (xs : List Name) (i v k u : ℕ) → In (Ctrl k u) (xs ++ Ctrl i v ∷ []) → In (Ctrl k u) xs ⊎ ((i ≡ k) × (v ≡ u))
has_ctrl xs i v k u h = ⊎_elim (λ (e : In (Ctrl k u) xs). inl e) (λ (e : Ctrl i v ≡ Ctrl k u). inr (ap ctrl_index e, ap ctrl_receiver e)) (In_push (Ctrl k u) (Ctrl i v) xs h)

pub last_ctrl : (xs : List Name) (i v : ℕ) → In (Ctrl i v) (xs ++ Ctrl i v ∷ [])
last_ctrl xs i v = In_right (Ctrl i v) xs (Ctrl i v ∷ []) (In_here (Ctrl i v) [])

-- Places

abbrev pub IsBefore : ControlCursor → ℕ → ℕ → Type 0
IsBefore next p v = (p < next.index) ⊎ ((p ≡ next.index) × (v < next.receiver))

pub before_is : (next : ControlCursor) (p v : ℕ) → is_before next p v ≡ true → IsBefore next p v
before_is next p v e =
    ⊎_elim
    (λ (f : nat_lt p next.index ≡ true). inl (ltb-true p next.index f))
    (λ (f : (p == next.index && nat_lt v next.receiver) ≡ true). let a = and_parts (p == next.index) (nat_lt v next.receiver) f in inr (eqb-true p next.index a.0, ltb-true v next.receiver a.1))
    (or_cases (nat_lt p next.index) (p == next.index && nat_lt v next.receiver) e)

pub is_so_before : (next : ControlCursor) (p v : ℕ) → IsBefore next p v → is_before next p v ≡ true
is_so_before next p v h =
    ⊎_elim
    (λ (l : p < next.index). or_left (nat_lt p next.index) (p == next.index && nat_lt v next.receiver) (lt-ltb p next.index l))
    (λ (a : (p ≡ next.index) × (v < next.receiver)). or_right (nat_lt p next.index) (p == next.index && nat_lt v next.receiver) (and_from (p == next.index) (nat_lt v next.receiver) (eq-eqb p next.index a.0) (lt-ltb v next.receiver a.1)))
    h

-- the place itself isn't before it
pub place_not_before : (next : ControlCursor) → is_before next next.index next.receiver ≡ false
place_not_before next = false_from_ne_true (is_before next next.index next.receiver) (λ e. ⊎_elim (λ (l : next.index < next.index). omega arith) (λ (a : (next.index ≡ next.index) × (next.receiver < next.receiver)). omega arith) (before_is next next.index next.receiver e))

-- before the place after it come that one and those that came before it

abbrev IsUpto : ControlCursor → ℕ → ℕ → Type 0
IsUpto next p v = IsBefore next p v ⊎ ((next.index ≡ p) × (next.receiver ≡ v))

next_receiver : (next : ControlCursor) (p v : ℕ) → (IsBefore (cursor next.index (suc next.receiver)) p v → IsUpto next p v) × (IsUpto next p v → IsBefore (cursor next.index (suc next.receiver)) p v)
next_receiver next p v = grind arith

next_record : (next : ControlCursor) (p v : ℕ) → v < suc next.receiver → (IsBefore (cursor (suc next.index) 0) p v → IsUpto next p v) × (IsUpto next p v → IsBefore (cursor (suc next.index) 0) p v)
next_record next p v l = grind arith

-- A worker's controller

module _ (o : Outline) where
  -- where the same control records are sent, it stays
  pub controller_stays : (old new : Log) (c : Controlling) → ((i v : ℕ) → has old.sent (Ctrl i v) ≡ has new.sent (Ctrl i v)) → IsControllerOf o old c → IsControllerOf o new c
  controller_stays old new c same of = record {
    controls = of.controls;
    order = of.order;
    paced = of.paced;
    workers = of.workers;
    stages = of.stages;
    receiver = of.receiver;
    sent = λ p v l m. sym (same (index_at c.order p) v) ∙ of.sent p v l m;
  }

  -- the next one is sent
  pub controller_sent : (log : Log) (c : Controlling) → IsLeft c → IsControllerOf o log c → IsControllerOf o (with_sent log (next_name c)) (after_sent c)
  controller_sent log c left of = record {
    controls = of.controls;
    order = of.order;
    paced = of.paced;
    workers = of.workers;
    stages = of.stages;
    receiver = rw of.workers (cond_both {A = ControlCursor} (suc next.receiver == o.workers) (cursor (suc next.index) 0) (cursor next.index (suc next.receiver)) (λ n. n.receiver < o.workers)
        (λ e. let l = of.receiver in omega arith)
        (λ e. let l = of.receiver in let n = eqb-false (suc next.receiver) o.workers e in omega arith));
    sent = λ p v l m. rw of.workers (
        cond_both {A = ControlCursor} (suc next.receiver == o.workers) (cursor (suc next.index) 0) (cursor next.index (suc next.receiver)) (λ n. has (log.sent ++ next_name c ∷ []) (Ctrl (index_at c.order p) v) ≡ is_before n p v)
        (λ e. let f = eqb-true (suc next.receiver) o.workers e in next_is p v l m (cursor (suc next.index) 0) (next_record next p v (omega arith)))
        (λ e. next_is p v l m (cursor next.index (suc next.receiver)) (next_receiver next p v)));
  }
    where
      next : ControlCursor
      next = c.next

      next_is : (p v : ℕ) → p < length c.order → v < o.workers → (n : ControlCursor) → (IsBefore n p v → IsUpto c.next p v) × (IsUpto c.next p v → IsBefore n p v)
          → has (log.sent ++ next_name c ∷ []) (Ctrl (index_at c.order p) v) ≡ is_before n p v
      next_is p v l m n same =
          same_test (has (log.sent ++ next_name c ∷ []) (Ctrl (index_at c.order p) v)) (is_before n p v)
          (λ h. is_so_before n p v (same.1 (
          ⊎_elim
          (λ (e : In (Ctrl (index_at c.order p) v) log.sent). inl (before_is c.next p v (sym (of.sent p v l m) ∙ e)))
          (λ (e : (next_index c ≡ index_at c.order p) × (c.next.receiver ≡ v)). inr (one_place o.paced o.controls c.order of.order c.next.index p left l e.0, e.1))
          (has_ctrl log.sent (next_index c) c.next.receiver (index_at c.order p) v h))))
          (λ h.
          ⊎_elim
          (λ (b : IsBefore c.next p v). In_left (Ctrl (index_at c.order p) v) log.sent (next_name c ∷ []) (of.sent p v l m ∙ is_so_before c.next p v b))
          (λ (e : (c.next.index ≡ p) × (c.next.receiver ≡ v)).
          subst (λ (x : Name). In x (log.sent ++ next_name c ∷ [])) (ap (λ (k : ℕ). Ctrl (index_at c.order k) c.next.receiver) e.0 ∙ ap (λ (u : ℕ). Ctrl (index_at c.order p) u) e.1) (last_ctrl log.sent (next_index c) c.next.receiver))
          (same.0 (before_is n p v h)))

  -- at first none is sent
  pub controller_begins : (job : JobFacts) (c : Controlling) → IsNew o.paced job c → job.controls ≡ o.controls → job.shape.workers ≡ o.workers → job.shape.stages ≡ o.stages → 0 < o.workers → IsControllerOf o empty_log c
  controller_begins job c new controls workers stages some = record {
    controls = new.controls ∙ controls;
    order = subst (λ (cs : List Control). IsSendingOrder o.paced cs c.order) controls new.order;
    paced = new.pace;
    workers = ap (λ (s : Shape). s.workers) new.shape ∙ workers;
    stages = ap (λ (s : Shape). s.stages) new.shape ∙ stages;
    receiver = subst (λ (n : ControlCursor). n.receiver < o.workers) (sym new.next) some;
    sent = λ p v l m. subst (λ (n : ControlCursor). false ≡ is_before n p v) (sym new.next) (sym (false_from_ne_true (is_before (cursor 0 0) p v) (λ e. ⊎_elim (λ (k : p < 0). omega arith) (λ (a : (p ≡ 0) × (v < 0)). omega arith) (before_is (cursor 0 0) p v e))));
  }
