-- The records that come to those that are held, with each kind of step.
use Rattle.std.proofs.Common.{◌≡◌, ◌↔◌, ◌⊎◌, ℕ, ◌<◌, ◌||◌, Bool, true, false, List, [], ◌∷◌, ◌++◌, refl, sym, ap, subst, inl, inr, ⊎_elim}
use Rattle.std.proofs.lemmas.Bool.{false≢true, both_ways, false_from_ne_true, eqb-true}
use Rattle.mp_names.specs.declared.names.Name.{Name}
use Rattle.mp_names.specs.declared.names.Name.TheVariants.{Rec}
use Rattle.mp_names.specs.Names.{has, In, same_name, Distinct, IsPrefix, is_rec, ascending}
use Rattle.mp_names.specs.Outlines.{Outline, OutlineIsSound, receiver, IsOwed}
use Rattle.mp_names.specs.Logs.{Log}
use Rattle.mp_names.specs.Frontiers.{is_held}
use Rattle.mp_names.proofs.Lists.{same_name-true, same_name-from, In_here, In_later, In_cases, In_left, In_right}
use Rattle.mp_names.proofs.Orders.{ascending_ascends, In_ascending}
use Rattle.mp_names.proofs.Listed.{edges}
use Rattle.mp_chart.specs.declared.entry.Entry.{Entry}
use Rattle.mp_chart.specs.Entries.{entry_of, entries_of}
use Rattle.mp_standing.specs.Held.{with_entry, with_all}
use Rattle.mp_standing.specs.Standings.{AreHeld}
use Rattle.mp_standing.proofs.Holding.{AreRecords, HoldsBy, holds_alike, holds_more}

-- of a list that begins with these and then x, each name once, x isn't one of them
pub fresh : (xs ys : List Name) (x : Name) → IsPrefix (xs ++ x ∷ []) ys → Distinct ys → has xs x ≡ false
fresh xs ys x p d = go xs (subst Distinct (sym p.1) d)
  where
    go : (zs : List Name) → Distinct ((zs ++ x ∷ []) ++ p.0) → has zs x ≡ false
    go [] d = refl
    go (z ∷ zs) d =
        false_from_ne_true (has (z ∷ zs) x) (λ i.
        ⊎_elim
        (λ (e : z ≡ x). both_ways (has ((zs ++ x ∷ []) ++ p.0) z) d.0 (In_left z (zs ++ x ∷ []) p.0 (subst (λ (u : Name). In u (zs ++ x ∷ [])) (sym e) (In_right x zs (x ∷ []) (In_here x [])))))
        (λ (k : In x zs). both_ways (has zs x) (go zs d.1) k)
        (In_cases x z zs i))

module _ (o : Outline) (ok : OutlineIsSound o) (j : ℕ) where
  abbrev pub all : List Name
  all = ascending (o.records j)

  pub all_records : AreRecords j all
  all_records y i = (ok.records_are j y (In_ascending y (o.records j) i)).1

  owed_record : (y : Name) → In y (o.records j) → is_rec j y ≡ true → IsOwed o y
  owed_record (Rec i t k g) h is = let e = eqb-true i j is in let here = subst (λ (n : ℕ). In (Rec i t k g) (o.records n)) (sym e) h in ((ok.records_are i (Rec i t k g) here).0, here)
  owed_record _ h is = absurd (false≢true is)

  pub to_worker : (y : Name) → In y all → receiver o y < o.workers
  to_worker y i = let h = In_ascending y (o.records j) i in (edges o ok y (owed_record y h (all_records y i))).1

  abbrev pub Holds : (Name → Bool) → List (List Entry) → Type 0
  Holds p held = HoldsBy j o all (ascending_ascends (o.records j)) all_records p held

  pub from_held : (w : ℕ) (log : Log) (held : List (List Entry)) → AreHeld o w log j held → Holds (is_held o w log) held
  from_held w log held h = record { receivers = h.receivers; records = h.records }

  pub to_held : (w : ℕ) (log : Log) (held : List (List Entry)) → Holds (is_held o w log) held → AreHeld o w log j held
  to_held w log held h = record { receivers = h.receivers; records = h.records }

  pub holds_same : (p q : Name → Bool) (held : List (List Entry)) → ((y : Name) → In y all → p y ≡ q y) → Holds p held → Holds q held
  holds_same p q held e h = holds_alike j o all (ascending_ascends (o.records j)) all_records p q held e h

  pub holds_one : (p q : Name → Bool) (x : Name) → In x all → p x ≡ false → ((y : Name) → In y all → (q y ≡ true) ↔ ((p y ≡ true) ⊎ (x ≡ y))) → (held : List (List Entry)) → Holds p held → Holds q (with_entry held (entry_of o x))
  holds_one p q x i new more held h = holds_more j o all (ascending_ascends (o.records j)) all_records p q x i new more held (to_worker x i) h

  with_one_name : (p : Name → Bool) (x y : Name) → ((p y || same_name x y) ≡ true) ↔ ((p y ≡ true) ⊎ (x ≡ y))
  with_one_name p x y = (
    (λ h. pick (p y) refl h),
    (λ c. ⊎_elim (λ (t : p y ≡ true). ap (λ (b : Bool). b || same_name x y) t) (λ (e : x ≡ y). both (p y) (same_name-from x y e)) c),
  )
    where
      both : (b : Bool) → same_name x y ≡ true → (b || same_name x y) ≡ true
      both true e = refl
      both false e = e

      pick : (b : Bool) → p y ≡ b → (b || same_name x y) ≡ true → (p y ≡ true) ⊎ (x ≡ y)
      pick true e h = inl e
      pick false e h = inr (same_name-true x y h)

  -- several, one after the other
  pub holds_all : (xs : List Name) (p : Name → Bool) (held : List (List Entry)) → Distinct xs → ((y : Name) → In y xs → In y all) → ((y : Name) → In y xs → p y ≡ false) → Holds p held → Holds (λ y. p y || has xs y) (with_all held (entries_of o xs))
  holds_all [] p held d i n h = holds_same p (λ y. p y || has [] y) held (λ y k. none (p y)) h
    where
      none : (b : Bool) → b ≡ (b || false)
      none true = refl
      none false = refl
  holds_all (x ∷ xs) p held d i n h =
      let q : Name → Bool = λ y. p y || same_name x y in
      let first = holds_one p q x (i x (In_here x xs)) (n x (In_here x xs)) (λ y k. with_one_name p x y) held h in
      let still = λ (y : Name) (k : In y xs). false_from_ne_true (q y) (λ t. ⊎_elim (λ (s : p y ≡ true). both_ways (p y) (n y (In_later y x xs k)) s) (λ (e : x ≡ y). both_ways (has xs x) d.0 (subst (λ (u : Name). In u xs) (sym e) k)) ((with_one_name p x y).0 t)) in
      holds_same (λ y. q y || has xs y) (λ y. p y || has (x ∷ xs) y) (with_all (with_entry held (entry_of o x)) (entries_of o xs)) (λ y k. assoc (p y) (same_name x y) (has xs y)) (holds_all xs q (with_entry held (entry_of o x)) d.1 (λ y k. i y (In_later y x xs k)) still first)
    where
      assoc : (a b c : Bool) → ((a || b) || c) ≡ (a || (b || c))
      assoc true b c = refl
      assoc false b c = refl
