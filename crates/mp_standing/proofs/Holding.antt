-- The records that are held, after some come.
use Rattle.std.proofs.Common.{◌≡◌, ◌↔◌, ◌⊎◌, ℕ, ◌<◌, ◌&&◌, ◌==◌, Bool, true, false, cond, List, [], ◌∷◌, length, filter, get_or, set, refl, sym, ap, ◌∙◌, subst, inl, inr, ⊎_elim, arith}
use Rattle.std.proofs.lemmas.Bool.{false≢true, both_ways, false_from_ne_true, and_parts, and_from, eqb-true, eq-eqb, cases_eq}
use Rattle.std.proofs.lemmas.List.{get_or-set_same, get_or-set_other, length-set}
use Rattle.mp_names.specs.declared.names.Name.{Name}
use Rattle.mp_names.specs.declared.names.Name.TheVariants.{Rec}
use Rattle.mp_names.specs.Names.{has, In, IsAscending, Less, rank_of, is_before, is_rec}
use Rattle.mp_names.specs.Outlines.{Outline, receiver}
use Rattle.mp_names.proofs.Lists.{In_here, In_later, In_cases, In_filter, filter_In}
use Rattle.mp_names.proofs.Orders.{before_is, less_connected, less_trans, is_before-from, ascending_unique, filter_ascends}
use Rattle.mp_ordered.specs.InOrder.{put_in_order}
use Rattle.mp_chart.specs.declared.entry.Entry.{Entry}
use Rattle.mp_chart.specs.Entries.{entry_of, entries_of}
use Rattle.mp_standing.specs.Held.{rank_of_record, rank_of_entry, with_entry}

-- filters that agree on the list
pub filter_alike : (p q : Name → Bool) (xs : List Name) → ((x : Name) → In x xs → p x ≡ q x) → filter p xs ≡ filter q xs
filter_alike p q [] h = refl
filter_alike p q (x ∷ xs) h =
    ap (λ (b : Bool). cond b (x ∷ filter p xs) (filter p xs)) (h x (In_here x xs)) ∙ ap (λ (l : List Name). cond (q x) (x ∷ l) l) (filter_alike p q xs (λ y i. h y (In_later y x xs i)))

-- two tests that are true together
pub alike : (a b : Bool) → (a ≡ true → b ≡ true) → (b ≡ true → a ≡ true) → a ≡ b
alike true true f g = refl
alike true false f g = sym (f refl)
alike false true f g = g refl
alike false false f g = refl

abbrev pub put_name : Name → List Name → List Name
put_name x xs = put_in_order rank_of_record x xs

-- entries go where their names go
put_entry : (o : Outline) (x : Name) (xs : List Name) → put_in_order rank_of_entry (entry_of o x) (entries_of o xs) ≡ entries_of o (put_name x xs)
put_entry o x [] = refl
put_entry o x (y ∷ ys) =
    ap (λ (l : List Entry). cond (is_before (rank_of_record y) (rank_of_record x)) (entry_of o y ∷ l) (entry_of o x ∷ entry_of o y ∷ entries_of o ys)) (put_entry o x ys) ∙ pick (is_before (rank_of_record y) (rank_of_record x))
  where
    pick : (b : Bool) → cond b (entry_of o y ∷ entries_of o (put_name x ys)) (entry_of o x ∷ entry_of o y ∷ entries_of o ys) ≡ entries_of o (cond b (y ∷ put_name x ys) (x ∷ y ∷ ys))
    pick true = refl
    pick false = refl

put_in : (x : Name) (xs : List Name) (y : Name) → In y (put_name x xs) → (x ≡ y) ⊎ In y xs
put_in x [] y h = In_cases y x [] h
put_in x (z ∷ zs) y h = pick (λ k. put_in x zs y k) (is_before (rank_of_record z) (rank_of_record x)) h
  where
    pick : (In y (put_name x zs) → (x ≡ y) ⊎ In y zs) → (b : Bool) → In y (cond b (z ∷ put_name x zs) (x ∷ z ∷ zs)) → (x ≡ y) ⊎ In y (z ∷ zs)
    pick rest true h =
        ⊎_elim
        (λ (e : z ≡ y). inr (subst (λ (u : Name). In u (z ∷ zs)) e (In_here z zs)))
        (λ (i : In y (put_name x zs)). ⊎_elim (λ (e : x ≡ y). inl e) (λ (k : In y zs). inr (In_later y z zs k)) (rest i))
        (In_cases y z (put_name x zs) h)
    pick rest false h = In_cases y x (z ∷ zs) h

in_put : (x : Name) (xs : List Name) (y : Name) → (x ≡ y) ⊎ In y xs → In y (put_name x xs)
in_put x [] y h = ⊎_elim (λ (e : x ≡ y). subst (λ (u : Name). In u (x ∷ [])) e (In_here x [])) (λ (i : In y []). absurd (false≢true i)) h
in_put x (z ∷ zs) y h = pick (λ k. in_put x zs y k) (is_before (rank_of_record z) (rank_of_record x)) h
  where
    pick : ((x ≡ y) ⊎ In y zs → In y (put_name x zs)) → (b : Bool) → (x ≡ y) ⊎ In y (z ∷ zs) → In y (cond b (z ∷ put_name x zs) (x ∷ z ∷ zs))
    pick rest true h =
        ⊎_elim
        (λ (e : x ≡ y). In_later y z (put_name x zs) (rest (inl e)))
        (λ (i : In y (z ∷ zs)).
        ⊎_elim
        (λ (e : z ≡ y). subst (λ (u : Name). In u (z ∷ put_name x zs)) e (In_here z (put_name x zs)))
        (λ (k : In y zs). In_later y z (put_name x zs) (rest (inr k)))
        (In_cases y z zs i))
        h
    pick rest false h = ⊎_elim (λ (e : x ≡ y). subst (λ (u : Name). In u (x ∷ z ∷ zs)) e (In_here x (z ∷ zs))) (λ (i : In y (z ∷ zs)). In_later y x (z ∷ zs) i) h

-- of records the ranks without what all have alike tell which comes first
less_from : (j : ℕ) (x y : Name) → is_rec j x ≡ true → is_rec j y ≡ true → is_before (rank_of_record x) (rank_of_record y) ≡ true → Less x y
less_from j (Rec i t k g) (Rec n u l h) a b e = inr (refl, before_is (rank_of_record (Rec i t k g)) (rank_of_record (Rec n u l h)) e)
less_from j (Rec i t k g) _ a b e = absurd (false≢true b)
less_from j _ y a b e = absurd (false≢true a)

pub before_from : (j : ℕ) (x y : Name) → is_rec j x ≡ true → is_rec j y ≡ true → Less x y → is_before (rank_of_record x) (rank_of_record y) ≡ true
before_from j (Rec i t k g) (Rec n u l h) a b e = is_before-from (rank_of (Rec i t k g)) (rank_of (Rec n u l h)) e
before_from j (Rec i t k g) _ a b e = absurd (false≢true b)
before_from j _ y a b e = absurd (false≢true a)

module _ (j : ℕ) where
  abbrev pub AreRecords : List Name → Type 0
  AreRecords xs = (y : Name) → In y xs → is_rec j y ≡ true

  put_ascends : (x : Name) (xs : List Name) → is_rec j x ≡ true → AreRecords xs → IsAscending xs → has xs x ≡ false → IsAscending (put_name x xs)
  put_ascends x [] r all a n = ((λ y i. absurd (false≢true i)), tt)
  put_ascends x (z ∷ zs) r all a n = pick (put_ascends x zs r (λ y i. all y (In_later y z zs i)) a.1 tail_new) (is_before (rank_of_record z) (rank_of_record x)) refl
    where
      tail_new : has zs x ≡ false
      tail_new = false_from_ne_true (has zs x) (λ i. both_ways (has (z ∷ zs) x) n (In_later x z zs i))

      pick : IsAscending (put_name x zs) → (b : Bool) → is_before (rank_of_record z) (rank_of_record x) ≡ b → IsAscending (cond b (z ∷ put_name x zs) (x ∷ z ∷ zs))
      pick rest true e = (
        (λ y i. ⊎_elim (λ (f : x ≡ y). subst (Less z) f (less_from j z x (all z (In_here z zs)) r e)) (λ (k : In y zs). a.0 y k) (put_in x zs y i)),
        rest,
      )
      pick rest false e =
          let first : Less x z =
          ⊎_elim
          (λ (f : x ≡ z). absurd (both_ways (has (z ∷ zs) x) n (subst (λ (u : Name). In x (u ∷ zs)) f (In_here x zs))))
          (λ (c : Less x z ⊎ Less z x). ⊎_elim (λ (l : Less x z). l) (λ (l : Less z x). absurd (both_ways (is_before (rank_of_record z) (rank_of_record x)) e (before_from j z x (all z (In_here z zs)) r l))) c)
          (less_connected x z) in (
            (λ y i. ⊎_elim (λ (f : z ≡ y). subst (Less x) f first) (λ (k : In y zs). less_trans x z y first (a.0 y k)) (In_cases y z zs i)),
            a,
          )

  module _ (o : Outline) (all : List Name) (up : IsAscending all) (are : AreRecords all) where
    abbrev pub to : (Name → Bool) → ℕ → Name → Bool
    to p v y = p y && receiver o y == v

    -- those of which p holds, by receiver
    pub record HoldsBy (p : Name → Bool) (held : List (List Entry)) : Type 0 where
      pub receivers : length held ≡ o.workers
      pub records : (v : ℕ) → v < o.workers → get_or held v [] ≡ entries_of o (filter (to p v) all)

    pub holds_alike : (p q : Name → Bool) (held : List (List Entry)) → ((y : Name) → In y all → p y ≡ q y) → HoldsBy p held → HoldsBy q held
    holds_alike p q held e h =
        record { receivers = h.receivers; records = λ v l. h.records v l ∙ ap (entries_of o) (filter_alike (to p v) (to q v) all (λ y i. ap (λ (b : Bool). b && receiver o y == v) (e y i))) }

    -- one more comes
    module _ (p q : Name → Bool) (x : Name) (i : In x all) (new : p x ≡ false) (more : (y : Name) → In y all → (q y ≡ true) ↔ ((p y ≡ true) ⊎ (x ≡ y))) where
      same_elsewhere : (v : ℕ) → (receiver o x ≡ v → ⊥) → filter (to p v) all ≡ filter (to q v) all
      same_elsewhere v n =
          filter_alike (to p v) (to q v) all (λ y k.
          alike (to p v y) (to q v y)
          (λ h. let r = and_parts (p y) (receiver o y == v) h in and_from (q y) (receiver o y == v) ((more y k).1 (inl r.0)) r.1)
          (λ h.
          let r = and_parts (q y) (receiver o y == v) h in
          ⊎_elim
          (λ (s : p y ≡ true). and_from (p y) (receiver o y == v) s r.1)
          (λ (e : x ≡ y). absurd (n (ap (receiver o) e ∙ eqb-true (receiver o y) v r.1)))
          ((more y k).0 r.0)))

      one_more_there : put_name x (filter (to p (receiver o x)) all) ≡ filter (to q (receiver o x)) all
      one_more_there =
          let v = receiver o x in
          let before = filter (to p v) all in
          ascending_unique (put_name x before) (filter (to q v) all)
          (put_ascends x before (are x i) (λ y k. are y (In_filter (to p v) y all k).0) (filter_ascends (to p v) all up)
          (false_from_ne_true (has before x) (λ k. both_ways (p x) new (and_parts (p x) (receiver o x == v) (In_filter (to p v) x all k).1).0)))
          (filter_ascends (to q v) all up)
          (λ y k.
          ⊎_elim
          (λ (e : x ≡ y). subst (λ (u : Name). In u (filter (to q v) all)) e (filter_In (to q v) x all i (and_from (q x) (receiver o x == v) ((more x i).1 (inr refl)) (eq-eqb (receiver o x) v refl))))
          (λ (b : In y before). let f = In_filter (to p v) y all b in let r = and_parts (p y) (receiver o y == v) f.1 in filter_In (to q v) y all f.0 (and_from (q y) (receiver o y == v) ((more y f.0).1 (inl r.0)) r.1))
          (put_in x before y k))
          (λ y k.
          let f = In_filter (to q v) y all k in
          let r = and_parts (q y) (receiver o y == v) f.1 in
          in_put x before y
          (⊎_elim (λ (s : p y ≡ true). inr (filter_In (to p v) y all f.0 (and_from (p y) (receiver o y == v) s r.1))) (λ (e : x ≡ y). inl e) ((more y f.0).0 r.0)))

      pub holds_more : (held : List (List Entry)) → receiver o x < o.workers → HoldsBy p held → HoldsBy q (with_entry held (entry_of o x))
      holds_more held low h =
          record {
            receivers = length-set held (receiver o x) _ ∙ h.receivers;
            records = λ v l. pick v l (cases_eq v (receiver o x));
          }
        where
          there : get_or (set held (receiver o x) (put_in_order rank_of_entry (entry_of o x) (get_or held (receiver o x) []))) (receiver o x) [] ≡ entries_of o (filter (to q (receiver o x)) all)
          there =
              let inside : receiver o x < length held = let e = h.receivers in omega arith in
              get_or-set_same held (receiver o x) (put_in_order rank_of_entry (entry_of o x) (get_or held (receiver o x) [])) [] inside
              ∙ ap (put_in_order rank_of_entry (entry_of o x)) (h.records (receiver o x) low)
              ∙ put_entry o x (filter (to p (receiver o x)) all)
              ∙ ap (entries_of o) one_more_there

          pick : (v : ℕ) → v < o.workers → (v ≡ receiver o x) ⊎ (v ≡ receiver o x → ⊥) → get_or (with_entry held (entry_of o x)) v [] ≡ entries_of o (filter (to q v) all)
          pick v l c =
              ⊎_elim
              (λ (e : v ≡ receiver o x). subst (λ (u : ℕ). get_or (set held (receiver o x) (put_in_order rank_of_entry (entry_of o x) (get_or held (receiver o x) []))) u [] ≡ entries_of o (filter (to q u) all)) (sym e) there)
              (λ (n : v ≡ receiver o x → ⊥). get_or-set_other held (receiver o x) v (put_in_order rank_of_entry (entry_of o x) (get_or held (receiver o x) [])) [] n ∙ h.records v l ∙ ap (entries_of o) (same_elsewhere v (λ e. n (sym e))))
              c
