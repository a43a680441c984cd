-- The records of the first group stand in front of all others.
use Rattle.std.proofs.Common.{◌≡◌, ℕ, zero, suc, ◌+◌, ◌<◌, ◌≤◌, ◌⊎◌, ◌==◌, ◌&&◌, nat_lt, Bool, true, false, not, List, [], ◌∷◌, All, drop, filter, take, refl, sym, ap, inl, inr, ⊎_elim, arith}
use Rattle.std.specs.List.{prefix_len}
use Rattle.std.proofs.lemmas.Bool.{and_from, and_parts, both_ways, cases_Bool, eq-eqb, eqb-true, false_from_ne_true, lt-ltb, or_left, or_right}
use Rattle.std.proofs.lemmas.List.Elements.{All-head, All-tail, All-weaker}
use Rattle.mp_names.specs.Names.{is_before}
use Rattle.mp_model.specs.declared.record.Rec.{Rec}
use Rattle.mp_ordered.specs.InOrder.{IsInOrder}
use Rattle.mp_ordered.proofs.Placing.{pairs_head, pairs_tail}
use Rattle.mp_postdated.specs.Wakes.{ComesNoLater}
use Rattle.mp_host_laws.specs.Hosted.{group_rank, is_of}

-- the record of a later group isn't in front of one of this group
later_group : (t k : ℕ) (r s : Rec) → ComesNoLater (t, k) (r.time, r.key) → is_of t k r ≡ false → is_before (group_rank s) (group_rank r) ≡ false → is_of t k s ≡ false
later_group t k r s later other behind =
    false_from_ne_true (is_of t k s)
    (λ e.
    let both = and_parts (s.time == t) (s.key == k) e in
    let at : s.time ≡ t = eqb-true s.time t both.0 in
    let of : s.key ≡ k = eqb-true s.key k both.1 in
    let last : Bool = s.key == r.key && is_before (s.tag.0 ∷ s.tag.1 ∷ []) (r.tag.0 ∷ r.tag.1 ∷ []) in
    let then : Bool = s.time == r.time && is_before (s.key ∷ s.tag.0 ∷ s.tag.1 ∷ []) (r.key ∷ r.tag.0 ∷ r.tag.1 ∷ []) in
    both_ways (is_before (group_rank s) (group_rank r)) behind
    (⊎_elim
    (λ (l : t < r.time). let m : s.time < r.time = omega arith in or_left (nat_lt s.time r.time) then (lt-ltb s.time r.time m))
    (λ (l : (t ≡ r.time) × (k ≤ r.key)).
    let same : s.time ≡ r.time = omega (arith, l.0) in
    let apart : k ≡ r.key → ⊥ = λ f. both_ways (is_of t k r) other (and_from (r.time == t) (r.key == k) (eq-eqb r.time t (sym l.0)) (eq-eqb r.key k (sym f))) in
    let m : s.key < r.key = ⊎_elim (λ (f : k ≡ r.key). absurd (apart f)) (λ (f : k < r.key). omega arith) (split k r.key l.1) in
    or_right (nat_lt s.time r.time) then (and_from (s.time == r.time) _ (eq-eqb s.time r.time same) (or_left (nat_lt s.key r.key) last (lt-ltb s.key r.key m))))
    later))
  where
    split : (a b : ℕ) → a ≤ b → (a ≡ b) ⊎ (a < b)
    split zero zero l = inl refl
    split zero (suc b) l = inr (omega arith)
    split (suc a) zero l = absurd (omega arith)
    split (suc a) (suc b) l = ⊎_elim (λ (e : a ≡ b). inl (ap suc e)) (λ (m : a < b). inr (omega arith)) (split a b (omega arith))

-- where none passes nothing is kept
none_kept : {X : Type 0} (p : X → Bool) (xs : List X) → All (λ x. p x ≡ false) xs → filter p xs ≡ []
none_kept p [] h = refl
none_kept p (x ∷ xs) h = rw (All-head (λ (y : _). p y ≡ false) x xs h) (none_kept p xs (All-tail (λ (y : _). p y ≡ false) x xs h))

all_others : {X : Type 0} (p : X → Bool) (xs : List X) → All (λ x. p x ≡ false) xs → filter (λ x. not (p x)) xs ≡ xs
all_others p [] h = refl
all_others p (x ∷ xs) h = rw (All-head (λ (y : _). p y ≡ false) x xs h) (ap (λ (ys : List _). x ∷ ys) (all_others p xs (All-tail (λ (y : _). p y ≡ false) x xs h)))

module _ (t k : ℕ) where
  abbrev p : Rec → Bool
  p r = is_of t k r

  no_more : (r : Rec) (rs : List Rec) → IsInOrder group_rank (r ∷ rs) → All (λ s. ComesNoLater (t, k) (s.time, s.key)) (r ∷ rs) → p r ≡ false → All (λ s. p s ≡ false) rs
  no_more r rs order later e =
      All-weaker (λ (s : Rec). is_before (group_rank s) (group_rank r) ≡ false) (λ (s : Rec). p s ≡ false)
      (λ s behind. later_group t k r s (All-head (λ (s : Rec). ComesNoLater (t, k) (s.time, s.key)) r rs later) e behind)
      rs (pairs_head (λ (x y : Rec). is_before (group_rank y) (group_rank x) ≡ false) r rs order)

  -- the records of the group are those that stand first, and the others follow them
  pub standing : (rs : List Rec) → IsInOrder group_rank rs → All (λ r. ComesNoLater (t, k) (r.time, r.key)) rs → (take (prefix_len p rs) rs ≡ filter p rs) × (drop (prefix_len p rs) rs ≡ filter (λ r. not (p r)) rs)
  standing [] order later = (refl, refl)
  standing (r ∷ rs) order later = ⊎_elim (first (standing rs (pairs_tail (λ (x y : Rec). is_before (group_rank y) (group_rank x) ≡ false) r rs order) (All-tail (λ (s : Rec). ComesNoLater (t, k) (s.time, s.key)) r rs later))) other (cases_Bool (p r))
    where
      first : (take (prefix_len p rs) rs ≡ filter p rs) × (drop (prefix_len p rs) rs ≡ filter (λ r. not (p r)) rs) → p r ≡ true → (take (prefix_len p (r ∷ rs)) (r ∷ rs) ≡ filter p (r ∷ rs)) × (drop (prefix_len p (r ∷ rs)) (r ∷ rs) ≡ filter (λ r. not (p r)) (r ∷ rs))
      first rest e = let one : 1 + prefix_len p rs ≡ suc (prefix_len p rs) = omega arith in rw (e, one) (ap (λ (ys : List Rec). r ∷ ys) rest.0, rest.1)

      other : p r ≡ false → (take (prefix_len p (r ∷ rs)) (r ∷ rs) ≡ filter p (r ∷ rs)) × (drop (prefix_len p (r ∷ rs)) (r ∷ rs) ≡ filter (λ r. not (p r)) (r ∷ rs))
      other e =
          let none = no_more r rs order later e in
          rw e (sym (none_kept p rs none), ap (λ (ys : List Rec). r ∷ ys) (sym (all_others p rs none)))
