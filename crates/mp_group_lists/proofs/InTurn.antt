-- Names in rank order as entries: they are by moments, and a group gives those of its moment.
use Rattle.std.proofs.Common.{◌≡◌, ℕ, zero, suc, ◌<◌, ◌⊎◌, true, false, List, [], ◌∷◌, get_or, length, sym, ◌∙◌, subst, inl, inr, ⊎_elim, arith}
use Rattle.std.proofs.lemmas.Bool.{false≢true, eqb-true, false_from_ne_true}
use Rattle.std.proofs.lemmas.List.{length-map, get_or-map}
use Rattle.mp_names.specs.declared.names.Name.{Name}
use Rattle.mp_names.specs.declared.names.Name.TheVariants.{Rec, Group, Written}
use Rattle.mp_names.specs.Names.{In, IsAscending, Less, ascending, is_before, is_group, is_rec}
use Rattle.mp_names.specs.Outlines.{Outline, OutlineIsSound, due_groups, groups_of}
use Rattle.mp_names.specs.Logs.{is_owned, owned_groups}
use Rattle.mp_names.proofs.Listed.{due_group, due_groups_ascend, groups_are}
use Rattle.mp_names.proofs.Lists.{In_filter}
use Rattle.mp_names.proofs.Orders.{In_ascending, ascending_ascends, before_irreflexive, before_is, before_trans, filter_ascends, is_before-from}
use Rattle.mp_chart.specs.declared.entry.Entry.{Entry}
use Rattle.mp_chart.specs.Entries.{entries_of, entry_of}
use Rattle.mp_parted.proofs.Fitting.{In-get_or}
use Rattle.mp_group_lists.specs.declared.moments.Moment.{Moment}
use Rattle.mp_group_lists.specs.Moments.{AreByMoment, comes_before, moment_of, rank_of}
use Rattle.mp_group_lists.specs.Parts.{next_records}

-- Places in ascending lists

pub ascending_at : (xs : List Name) (i j : ℕ) (d : Name) → IsAscending xs → i < j → j < length xs → Less (get_or xs i d) (get_or xs j d)
ascending_at [] i j d up l m = absurd (omega arith)
ascending_at (x ∷ xs) zero zero d up l m = absurd (omega arith)
ascending_at (x ∷ xs) zero (suc j) d up l m = up.0 (get_or xs j d) (In-get_or xs j d (omega arith))
ascending_at (x ∷ xs) (suc i) zero d up l m = absurd (omega arith)
ascending_at (x ∷ xs) (suc i) (suc j) d up l m = ascending_at xs i j d up.1 (omega arith) (omega arith)

-- Ranks and moments

-- of records of one stage the moments don't fall, and of groups they rise
record_order : (i n s t a b : ℕ) (R : Type 0) → i ≡ n → (s < t) ⊎ ((s ≡ t) × ((i < n) ⊎ ((i ≡ n) × ((a < b) ⊎ ((a ≡ b) × R))))) → (t < s) ⊎ ((t ≡ s) × ((b < a) ⊎ ((b ≡ a) × ⊥))) → ⊥
record_order i n s t a b R e h k =
    ⊎_elim
    (λ (l : s < t). ⊎_elim (λ (m : t < s). omega arith) (λ (m : (t ≡ s) × ((b < a) ⊎ ((b ≡ a) × ⊥))). let f = m.0 in omega arith) k)
    (λ (l : (s ≡ t) × ((i < n) ⊎ ((i ≡ n) × ((a < b) ⊎ ((a ≡ b) × R))))).
    let f = l.0 in
    ⊎_elim
    (λ (m : i < n). omega arith)
    (λ (m : (i ≡ n) × ((a < b) ⊎ ((a ≡ b) × R))).
    ⊎_elim
    (λ (o : t < s). omega arith)
    (λ (o : (t ≡ s) × ((b < a) ⊎ ((b ≡ a) × ⊥))).
    ⊎_elim
    (λ (u : b < a). ⊎_elim (λ (v : a < b). omega arith) (λ (v : (a ≡ b) × R). let w = v.0 in omega arith) m.1)
    (λ (u : (b ≡ a) × ⊥). u.1)
    o.1)
    k)
    l.1)
    h

pub record_moments : (j : ℕ) (x y : Name) → is_rec j x ≡ true → is_rec j y ≡ true → Less x y → comes_before (moment_of y) (moment_of x) ≡ false
record_moments j (Rec i s k a) (Rec n t l b) p q h =
    false_from_ne_true (is_before (t ∷ b.0 ∷ []) (s ∷ a.0 ∷ [])) (λ e. record_order i n s t a.0 b.0 _ (eqb-true i j p ∙ sym (eqb-true n j q)) (⊎_elim (λ (l : 1 < 1). absurd (omega arith)) (λ g. g.1) h) (before_is (t ∷ b.0 ∷ []) (s ∷ a.0 ∷ []) e))
record_moments j (Rec i s k a) _ p q h = absurd (false≢true q)
record_moments j _ y p q h = absurd (false≢true p)

group_order : (i n s t k l : ℕ) → i ≡ n → (s < t) ⊎ ((s ≡ t) × ((i < n) ⊎ ((i ≡ n) × ((k < l) ⊎ ((k ≡ l) × ⊥))))) → (s < t) ⊎ ((s ≡ t) × ((k < l) ⊎ ((k ≡ l) × ⊥)))
group_order i n s t k l e h =
    ⊎_elim
    (λ (m : s < t). inl m)
    (λ (m : (s ≡ t) × ((i < n) ⊎ ((i ≡ n) × ((k < l) ⊎ ((k ≡ l) × ⊥))))).
    ⊎_elim (λ (o : i < n). absurd (omega arith)) (λ (o : (i ≡ n) × ((k < l) ⊎ ((k ≡ l) × ⊥))). inr (m.0, o.1)) m.1)
    h

pub group_moments : (j : ℕ) (x y : Name) → is_group j x ≡ true → is_group j y ≡ true → Less x y → comes_before (moment_of x) (moment_of y) ≡ true
group_moments j (Group i s k) (Group n t l) p q h =
    is_before-from (s ∷ k ∷ []) (t ∷ l ∷ []) (group_order i n s t k l (eqb-true i j p ∙ sym (eqb-true n j q)) (⊎_elim (λ (l : 4 < 4). absurd (omega arith)) (λ g. g.1) h))
group_moments j (Group i s k) _ p q h = absurd (false≢true q)
group_moments j _ y p q h = absurd (false≢true p)

module _ (o : Outline) where
  pub length-entries : (xs : List Name) → length (entries_of o xs) ≡ length xs
  length-entries xs = length-map xs (entry_of o)

  pub entry_at : (xs : List Name) (i : ℕ) (d : Entry) (e : Name) → i < length xs → get_or (entries_of o xs) i d ≡ entry_of o (get_or xs i e)
  entry_at xs i d e l = get_or-map (entry_of o) xs i e d l

  -- names in rank order whose moments don't fall then are by moments
  by_moment : (xs : List Name) → IsAscending xs → ((x y : Name) → In x xs → In y xs → Less x y → comes_before (moment_of y) (moment_of x) ≡ false) → AreByMoment (entries_of o xs)
  by_moment xs up h i j d lt l =
      let n = length-entries xs in
      let far : j < length xs = omega arith in
      let near : i < length xs = omega arith in
      let e = Written 0 in
      let P : Entry → Entry → Type 0 = λ a b. comes_before (moment_of b.name) (moment_of a.name) ≡ false in
      let held = h (get_or xs i e) (get_or xs j e) (In-get_or xs i e near) (In-get_or xs j e far) (ascending_at xs i j e up lt far) in
      subst (λ (a : Entry). P a (get_or (entries_of o xs) j d)) (sym (entry_at xs i d e near)) (subst (λ (b : Entry). P (entry_of o (get_or xs i e)) b) (sym (entry_at xs j d e far)) held)

  module _ (ok : OutlineIsSound o) where
    pub records_by_moment : (j : ℕ) → AreByMoment (next_records o j)
    records_by_moment j =
        by_moment (ascending (o.records (suc j))) (ascending_ascends (o.records (suc j))) (λ x y i k l. record_moments (suc j) x y (is x i) (is y k) l)
      where
        is : (x : Name) → In x (ascending (o.records (suc j))) → is_rec (suc j) x ≡ true
        is x i = (ok.records_are (suc j) x (In_ascending x (o.records (suc j)) i)).1

    pub owned_is : (w j : ℕ) (x : Name) → In x (owned_groups o w j) → In x (groups_of o j)
    owned_is w j x i = (due_group o j x (In_filter (is_owned o w) x (due_groups o j) i).0).0

    pub is_of_stage : (w j : ℕ) (x : Name) → In x (owned_groups o w j) → is_group j x ≡ true
    is_of_stage w j x i = (groups_are o ok j x (owned_is w j x i)).1

    pub owned_ascend : (w j : ℕ) → IsAscending (owned_groups o w j)
    owned_ascend w j = filter_ascends (is_owned o w) (due_groups o j) (due_groups_ascend o j)

    not_back : (m n : Moment) → comes_before m n ≡ true → comes_before n m ≡ false
    not_back m n h = false_from_ne_true (comes_before n m) (λ k. before_irreflexive (rank_of m) (before_trans (rank_of m) (rank_of n) (rank_of m) (before_is (rank_of m) (rank_of n) h) (before_is (rank_of n) (rank_of m) k)))

    pub groups_by_moment : (w j : ℕ) → AreByMoment (entries_of o (owned_groups o w j))
    groups_by_moment w j =
        by_moment (owned_groups o w j) (owned_ascend w j) (λ x y i k l. not_back (moment_of x) (moment_of y) (group_moments j x y (is_of_stage w j x i) (is_of_stage w j y k) l))
