-- One more name goes to its worker.
use Rattle.std.proofs.Common.{◌≡◌, ◌≢◌, ◌∙◌, ◌==◌, ℕ, ◌<◌, Bool, true, false, cond, List, [], ◌∷◌, ◌++◌, filter, get_or, length, map, replicate, set, refl, sym, ap, ⊎_elim, append-nil, zero-add, arith}
use Rattle.std.proofs.lemmas.Bool.{cases_eq, eq-eqb, ne_eqb}
use Rattle.std.proofs.lemmas.List.{ext_get_or, get_or-replicate, get_or-set_other, get_or-set_same, length-replicate, length-set, map-append}
use Rattle.std.proofs.lemmas.List.Elements.{filter-append}
use Rattle.std.proofs.lemmas.List.FromFn.{get_or-map-range_with_len, length-map-range_with_len}
use Rattle.mp_names.specs.declared.names.Name.{Name}
use Rattle.mp_names.specs.Outlines.{Outline}
use Rattle.mp_chart.specs.declared.entry.Entry.{Entry}
use Rattle.mp_chart.specs.Entries.{entries_of, entry_of}
use Rattle.mp_parted.specs.declared.parting.By.{By}
use Rattle.mp_parted.specs.Parted.{is_by, parted_by, with_entry}

module _ (o : Outline) (by : By) where
  abbrev of_worker : List Name → ℕ → List Entry
  of_worker xs w = entries_of o (filter (is_by o by w) xs)

  -- there is a list for each worker
  pub as_many : (xs : List Name) → length (parted_by o by xs) ≡ o.workers
  as_many xs = length-map-range_with_len (of_worker xs) 0 o.workers

  -- which stands at its number
  pub parted_at : (xs : List Name) (w : ℕ) (d : List Entry) → w < o.workers → get_or (parted_by o by xs) w d ≡ entries_of o (filter (is_by o by w) xs)
  parted_at xs w d l = get_or-map-range_with_len (of_worker xs) 0 o.workers w w d l (zero-add w)

  -- of no names there are no entries
  pub none_parted : replicate o.workers [] ≡ parted_by o by []
  none_parted =
      ext_get_or [] (replicate o.workers []) (parted_by o by []) (length-replicate o.workers [] ∙ sym (as_many []))
      (λ w l. let m : w < o.workers = omega (arith, l, length-replicate {A = List Entry} o.workers []) in get_or-replicate o.workers w [] [] m ∙ sym (parted_at [] w [] m))

  with_one : (w : ℕ) (xs : List Name) (x : Name) (b : Bool) → is_by o by w x ≡ b → of_worker (xs ++ x ∷ []) w ≡ of_worker xs w ++ cond b (entry_of o x ∷ []) []
  with_one w xs x b e =
      ap (entries_of o) (filter-append (is_by o by w) xs (x ∷ []) ∙ ap (λ (c : Bool). filter (is_by o by w) xs ++ cond c (x ∷ []) []) e)
      ∙ map-append (entry_of o) (filter (is_by o by w) xs) (cond b (x ∷ []) [])
      ∙ ap (λ (es : List Entry). of_worker xs w ++ es) (mapped b)
    where
      mapped : (b : Bool) → map (entry_of o) (cond b (x ∷ []) []) ≡ cond b (entry_of o x ∷ []) []
      mapped true = refl
      mapped false = refl

  pub one_more : (xs : List Name) (x : Name) (w : ℕ) → w < o.workers → ((v : ℕ) → is_by o by v x ≡ (w == v)) → with_entry (parted_by o by xs) w (entry_of o x) ≡ parted_by o by (xs ++ x ∷ [])
  one_more xs x w l whose =
      let parts = parted_by o by xs in
      let more = get_or parts w [] ++ entry_of o x ∷ [] in
      ext_get_or [] (set parts w more) (parted_by o by (xs ++ x ∷ [])) (length-set parts w more ∙ as_many xs ∙ sym (as_many (xs ++ x ∷ [])))
      (λ v k. let m : v < o.workers = omega (arith, k, length-set parts w more, as_many xs) in here v m)
    where
      here : (v : ℕ) → v < o.workers → get_or (with_entry (parted_by o by xs) w (entry_of o x)) v [] ≡ get_or (parted_by o by (xs ++ x ∷ [])) v []
      here v m =
          let parts = parted_by o by xs in
          let more = get_or parts w [] ++ entry_of o x ∷ [] in
          let inside : w < length parts = omega (arith, l, as_many xs) in
          ⊎_elim
          (λ (s : v ≡ w).
          ap (λ (i : ℕ). get_or (set parts w more) i []) s
          ∙ get_or-set_same parts w more [] inside
          ∙ ap (λ (es : List Entry). es ++ entry_of o x ∷ []) (parted_at xs w [] l)
          ∙ sym (with_one w xs x true (whose w ∙ eq-eqb w w refl))
          ∙ sym (parted_at (xs ++ x ∷ []) w [] l)
          ∙ ap (λ (i : ℕ). get_or (parted_by o by (xs ++ x ∷ [])) i []) (sym s))
          (λ (d : v ≢ w).
          get_or-set_other parts w v more [] d
          ∙ parted_at xs v [] m
          ∙ sym (append-nil (of_worker xs v))
          ∙ sym (with_one v xs x false (whose v ∙ ne_eqb w v (λ (e : w ≡ v). d (sym e))))
          ∙ sym (parted_at (xs ++ x ∷ []) v [] m))
          (cases_eq v w)
