-- The keys of records that wait at a time with no wake: they rise, and each such key is among them.
use Rattle.std.proofs.Common.{◌≡◌, ◌⊎◌, ℕ, zero, suc, ◌+◌, ◌<◌, ◌≤◌, ◌==◌, ◌&&◌, ◌||◌, nat_lt, Bool, true, false, not, cond, Option, Some, List, [], ◌∷◌, All, Contains, drop, get_or, add-one, length, sym, ap, ◌∙◌, subst, inl, inr, ⊎_elim, refl, arith}
use Rattle.std.specs.Prelude.{slice_get}
use Rattle.std.specs.List.{list_any}
use Rattle.std.specs.Option.{option_map_or}
use Rattle.std.proofs.lemmas.Bool.{and_cases, and_from, and_parts, both_ways, cases_Bool, cases_order, eq-eqb, eqb-true, false≢true, ltb-false, not-true, not_from_false, or_cases, or_left, or_parts, or_right}
use Rattle.std.proofs.lemmas.List.Elements.{All-cons, All-contains, All-head, All-nil, All-weaker}
use Rattle.std.proofs.Math.Seq.{drop-cons}
use Rattle.mp_names.specs.Names.{is_before}
use Rattle.mp_model.specs.declared.record.Rec.{Rec}
use Rattle.mp_job.proofs.Ascents.{Rises}
use Rattle.mp_job.proofs.Members.{nothing_in_nil, Contains-cases, Contains-here, Contains-later}
use Rattle.mp_ordered.specs.InOrder.{IsInOrder}
use Rattle.mp_ordered.proofs.Placing.{pairs_head, pairs_tail}
use Rattle.mp_host_laws.specs.Hosted.{Hosted, group_rank, has_wake_at, is_of}
use Rattle.mp_host_laws.proofs.Waiting.{from_is_of, is_of_from}
use Rattle.mp_host.specs.Waiting.{begins_unwoken, unwoken_after}

-- the list from a place on begins with what stands there
drop_step : (rs : List Rec) (i : ℕ) (r : Rec) → i < length rs → r ≡ get_or rs i r → drop i rs ≡ r ∷ drop (i + 1) rs
drop_step rs i r l is = rw add-one (drop-cons rs i r l ∙ ap (λ (s : Rec). s ∷ drop (suc i) rs) (sym is))

-- what is got from a place stands there
pub standing_at : (rs : List Rec) (i : ℕ) (r : Rec) → slice_get rs i ≡ Some r → (i < length rs) × (r ≡ get_or rs i r)
standing_at [] i r e = absurd (cc)
standing_at (s ∷ rs) zero r e = let same : s ≡ r = cc in (omega arith, sym same)
standing_at (s ∷ rs) (suc i) r e = let at = standing_at rs i r e in (omega (arith, at.0), at.1)

-- the group of a key at the time comes after the record's
abbrev IsAfter : ℕ → Rec → ℕ → Type 0
IsAfter t r k = (r.time < t) ⊎ ((r.time ≡ t) × (r.key < k))

-- a record that doesn't stand behind another isn't of an earlier group
no_earlier : (r s : Rec) → is_before (group_rank s) (group_rank r) ≡ false → (r.time < s.time) ⊎ ((r.time ≡ s.time) × (r.key ≤ s.key))
no_earlier r s behind =
    let tags : Bool = is_before (s.tag.0 ∷ s.tag.1 ∷ []) (r.tag.0 ∷ r.tag.1 ∷ []) in
    let keys : Bool = nat_lt s.key r.key || (s.key == r.key && tags) in
    let a = or_parts (nat_lt s.time r.time) (s.time == r.time && keys) behind in
    let low : r.time ≤ s.time = ltb-false s.time r.time a.0 in
    ⊎_elim
    (λ (e : r.time ≡ s.time).
    ⊎_elim
    (λ (f : (s.time == r.time) ≡ false). absurd (both_ways (s.time == r.time) f (eq-eqb s.time r.time (sym e))))
    (λ (f : keys ≡ false). inr (e, ltb-false s.key r.key (or_parts (nat_lt s.key r.key) (s.key == r.key && tags) f).0))
    (and_cases (s.time == r.time) keys a.1))
    (λ (e : (r.time < s.time) ⊎ (s.time < r.time)). ⊎_elim (λ (m : r.time < s.time). inl m) (λ (m : s.time < r.time). absurd (omega arith)) e)
    (cases_order r.time s.time)

-- one element more, where the test passes
pub add_if : {X : Type 0} (P : List X → Type 0) (b : Bool) (x : X) (xs : List X) → (b ≡ true → P (x ∷ xs)) → (b ≡ false → P xs) → P (cond b (x ∷ xs) xs)
add_if P true x xs f g = f refl
add_if P false x xs f g = g refl

module _ {Cell : Type 0} (h : Hosted Cell) (t : ℕ) where
  -- what a record that begins a group without a wake is
  begins_is : (last : Option Rec) (r : Rec) → begins_unwoken h t last r ≡ true → (r.time ≡ t) × (has_wake_at h t r.key ≡ false) × (option_map_or (is_of t r.key) last false ≡ false)
  begins_is last r e =
      let a = and_parts (r.time == t) (not (has_wake_at h t r.key) && not (option_map_or (is_of t r.key) last false)) e in
      let b = and_parts (not (has_wake_at h t r.key)) (not (option_map_or (is_of t r.key) last false)) a.1 in
      (eqb-true r.time t a.0, not-true (has_wake_at h t r.key) b.0, not-true (option_map_or (is_of t r.key) last false) b.1)

  -- the record's own group isn't its
  not_its_own : (r s : Rec) → s.time ≡ t → is_of t s.key r ≡ false → is_before (group_rank s) (group_rank r) ≡ false → IsAfter t r s.key
  not_its_own r s at other behind =
      ⊎_elim
      (λ (m : r.time < s.time). inl (omega arith))
      (λ (m : (r.time ≡ s.time) × (r.key ≤ s.key)).
      let same : r.time ≡ s.time = m.0 in
      let no_less : r.key ≤ s.key = m.1 in
      let now : r.time ≡ t = omega arith in
      ⊎_elim
      (λ (e : r.key ≡ s.key). absurd (both_ways (is_of t s.key r) other (is_of_from t s.key r now e)))
      (λ (e : (r.key < s.key) ⊎ (s.key < r.key)). ⊎_elim (λ (l : r.key < s.key). inr (now, l)) (λ (l : s.key < r.key). absurd (omega arith)) e)
      (cases_order r.key s.key))
      (no_earlier r s behind)

  -- what is after a record is after each that stands in front of it
  still_after : (r s : Rec) (k : ℕ) → is_before (group_rank s) (group_rank r) ≡ false → IsAfter t s k → IsAfter t r k
  still_after r s k behind after =
      ⊎_elim
      (λ (m : r.time < s.time). ⊎_elim (λ (n : s.time < t). inl (omega arith)) (λ (n : (s.time ≡ t) × (s.key < k)). let e : s.time ≡ t = n.0 in inl (omega arith)) after)
      (λ (m : (r.time ≡ s.time) × (r.key ≤ s.key)).
      let same : r.time ≡ s.time = m.0 in
      let no_less : r.key ≤ s.key = m.1 in
      ⊎_elim (λ (n : s.time < t). inl (omega arith)) (λ (n : (s.time ≡ t) × (s.key < k)). let e : s.time ≡ t = n.0 in let l : s.key < k = n.1 in inr (omega arith, omega arith)) after)
      (no_earlier r s behind)

  abbrev NotAfter : Rec → Rec → Type 0
  NotAfter x y = is_before (group_rank y) (group_rank x) ≡ false

  -- the keys after a record are of later groups
  after_last : (r : Rec) (rs : List Rec) → IsInOrder group_rank (r ∷ rs) → All (IsAfter t r) (unwoken_after h t (Some r) rs)
  after_last r [] order = All-nil (IsAfter t r)
  after_last r (s ∷ rs) order =
      let behind = All-head (NotAfter r) s rs (pairs_head NotAfter r (s ∷ rs) order) in
      let rest = All-weaker (IsAfter t s) (IsAfter t r) (λ k after. still_after r s k behind after) (unwoken_after h t (Some s) rs) (after_last s rs (pairs_tail NotAfter r (s ∷ rs) order)) in
      add_if (All (IsAfter t r)) (begins_unwoken h t (Some r) s) s.key (unwoken_after h t (Some s) rs)
      (λ e. let is = begins_is (Some r) s e in All-cons (IsAfter t r) s.key (unwoken_after h t (Some s) rs) (not_its_own r s is.0 is.2 behind) rest)
      (λ e. rest)

  -- so they rise
  pub unwoken_rise : (last : Option Rec) (rs : List Rec) → IsInOrder group_rank rs → Rises (unwoken_after h t last rs)
  unwoken_rise last [] order = tt
  unwoken_rise last (s ∷ rs) order =
      let rest = unwoken_rise (Some s) rs (pairs_tail NotAfter s rs order) in
      add_if Rises (begins_unwoken h t last s) s.key (unwoken_after h t (Some s) rs)
      (λ e.
      let at : s.time ≡ t = (begins_is last s e).0 in
      ((λ k i. ⊎_elim (λ (m : s.time < t). absurd (omega arith)) (λ (m : (s.time ≡ t) × (s.key < k)). m.1) (All-contains (IsAfter t s) (unwoken_after h t (Some s) rs) k (after_last s rs order) i)), rest))
      (λ e. rest)

  -- each is the key of a record of the time, and isn't to be woken
  pub unwoken_is : (last : Option Rec) (rs : List Rec) (k : ℕ) → Contains (unwoken_after h t last rs) k → (has_wake_at h t k ≡ false) × (list_any (is_of t k) rs ≡ true)
  unwoken_is last [] k i = absurd (nothing_in_nil k i)
  unwoken_is last (s ∷ rs) k i =
      let later : Contains (unwoken_after h t (Some s) rs) k → (has_wake_at h t k ≡ false) × (list_any (is_of t k) (s ∷ rs) ≡ true) = λ j. let r = unwoken_is (Some s) rs k j in (r.0, or_right (is_of t k s) (list_any (is_of t k) rs) r.1) in
      add_if (λ (ks : List ℕ). Contains ks k → (has_wake_at h t k ≡ false) × (list_any (is_of t k) (s ∷ rs) ≡ true)) (begins_unwoken h t last s) s.key (unwoken_after h t (Some s) rs)
      (λ e j.
      let is = begins_is last s e in
      ⊎_elim
      (λ (same : s.key ≡ k). (subst (λ (l : ℕ). has_wake_at h t l ≡ false) same is.1, or_left (is_of t k s) (list_any (is_of t k) rs) (is_of_from t k s is.0 same)))
      later
      (Contains-cases s.key k (unwoken_after h t (Some s) rs) j))
      (λ e. later)
      i

  -- and each such key is among them, unless the record before them is of its group
  pub is_unwoken : (last : Option Rec) (rs : List Rec) (k : ℕ) → has_wake_at h t k ≡ false → list_any (is_of t k) rs ≡ true → Contains (unwoken_after h t last rs) k ⊎ (option_map_or (is_of t k) last false ≡ true)
  is_unwoken last [] k quiet some = absurd (false≢true some)
  is_unwoken last (s ∷ rs) k quiet some = ⊎_elim (here s rs last k quiet) (λ other. ⊎_elim (further s rs last k) (here s rs last k quiet) (is_unwoken (Some s) rs k quiet other)) (or_cases (is_of t k s) (list_any (is_of t k) rs) some)
    where
      here : (s : Rec) (rs : List Rec) (last : Option Rec) (k : ℕ) → has_wake_at h t k ≡ false → is_of t k s ≡ true → Contains (unwoken_after h t last (s ∷ rs)) k ⊎ (option_map_or (is_of t k) last false ≡ true)
      here s rs last k quiet e =
          let at = from_is_of t k s e in
          ⊎_elim
          (λ (f : option_map_or (is_of t k) last false ≡ true). inr f)
          (λ (f : option_map_or (is_of t k) last false ≡ false).
          let woken = subst (λ (l : ℕ). has_wake_at h t l ≡ false) (sym at.1) quiet in
          let other = subst (λ (l : ℕ). option_map_or (is_of t l) last false ≡ false) (sym at.1) f in
          let begins : begins_unwoken h t last s ≡ true = and_from (s.time == t) _ (eq-eqb s.time t at.0) (and_from _ _ (not_from_false (has_wake_at h t s.key) woken) (not_from_false (option_map_or (is_of t s.key) last false) other)) in
          inl (add_if (λ (ks : List ℕ). Contains ks k) (begins_unwoken h t last s) s.key (unwoken_after h t (Some s) rs) (λ g. subst (Contains (s.key ∷ unwoken_after h t (Some s) rs)) at.1 (Contains-here s.key (unwoken_after h t (Some s) rs))) (λ g. absurd (both_ways (begins_unwoken h t last s) g begins))))
          (cases_Bool (option_map_or (is_of t k) last false))

      further : (s : Rec) (rs : List Rec) (last : Option Rec) (k : ℕ) → Contains (unwoken_after h t (Some s) rs) k → Contains (unwoken_after h t last (s ∷ rs)) k ⊎ (option_map_or (is_of t k) last false ≡ true)
      further s rs last k i = inl (add_if (λ (ks : List ℕ). Contains ks k) (begins_unwoken h t last s) s.key (unwoken_after h t (Some s) rs) (λ e. Contains-later s.key k (unwoken_after h t (Some s) rs) i) (λ e. i))

  -- the step over a record that begins a group without a wake, and over another
  pub unwoken_one : (last : Option Rec) (rs : List Rec) (i n : ℕ) (r : Rec) → i < length rs → r ≡ get_or rs i r → begins_unwoken h t last r ≡ true
      → n + length (unwoken_after h t last (drop i rs)) ≡ n + 1 + length (unwoken_after h t (Some r) (drop (i + 1) rs))
  unwoken_one last rs i n r l is e = rw (drop_step rs i r l is, e) (omega arith)

  pub unwoken_none : (last : Option Rec) (rs : List Rec) (i n : ℕ) (r : Rec) → i < length rs → r ≡ get_or rs i r → begins_unwoken h t last r ≡ false
      → n + length (unwoken_after h t last (drop i rs)) ≡ n + length (unwoken_after h t (Some r) (drop (i + 1) rs))
  unwoken_none last rs i n r l is e = rw (drop_step rs i r l is, e) refl
