-- Control records that are sorted by time stand in the order in which they are sent.
use Rattle.std.proofs.Common.{◌≡◌, ◌≢◌, ◌∙◌, ◌==◌, ℕ, ◌<◌, ◌≤◌, nat_lt, true, false, cond, List, [], ◌∷◌, All, filter, get_or, length, refl, sym, ap, ⊎_elim, arith}
use Rattle.std.specs.List.Sorted.{IsNonDecreasingBy}
use Rattle.std.proofs.lemmas.Bool.{cases_Bool, cases_eq, cond-false, cond-true, eq-eqb, le-ltb, ltb-false, ltb-true, ne_eqb}
use Rattle.std.proofs.lemmas.List.{get_or-map, length-map}
use Rattle.std.proofs.lemmas.List.Elements.{All-cons, All-tail}
use Rattle.mp_names.specs.declared.names.Name.{Name}
use Rattle.mp_names.specs.declared.names.Name.TheVariants.{Ctrl}
use Rattle.mp_names.specs.Names.{In}
use Rattle.mp_names.specs.Outlines.{Outline, ctrl_names, sender, time_of}
use Rattle.mp_names.proofs.Listed.{ctrl_is}
use Rattle.mp_player_laws.specs.Decisions.{by_time, controls_to_send, placed_by_time, turn_time}
use Rattle.mp_chart.specs.declared.entry.Entry.{Entry}
use Rattle.mp_chart.specs.Entries.{entries_of, entry_of}
use Rattle.mp_step_lists.proofs.Filters.{filter_agree, filter_all, filter_map, filter_none}
use Rattle.mp_step_lists.proofs.Stable.{Climbs, at_key, climbs_from, same}

module _ (o : Outline) where
  abbrev turn : Name → ℕ
  turn = turn_time o

  -- The order by turn: at each turn the names stand as they did

  module _ (t : ℕ) where
    abbrev at : List Name → List Name
    at = at_key turn t

    here : (x : Name) (xs : List Name) → turn x ≡ t → at (x ∷ xs) ≡ x ∷ at xs
    here x xs e = cond-true (turn x == t) (x ∷ at xs) (at xs) (eq-eqb (turn x) t e)

    not_here : (x : Name) (xs : List Name) → turn x ≢ t → at (x ∷ xs) ≡ at xs
    not_here x xs e = cond-false (turn x == t) (x ∷ at xs) (at xs) (ne_eqb (turn x) t e)

    -- names of two turns may change places
    swapped : (x y : Name) (ys : List Name) → turn y < turn x → at (y ∷ x ∷ ys) ≡ at (x ∷ y ∷ ys)
    swapped x y ys l =
        ⊎_elim
        (λ (e : turn y ≡ t).
        let other : turn x ≢ t = λ (f : turn x ≡ t). omega arith in
        here y (x ∷ ys) e ∙ ap (λ (zs : List Name). y ∷ zs) (not_here x ys other) ∙ sym (here y ys e) ∙ sym (not_here x (y ∷ ys) other))
        (λ (d : turn y ≢ t).
        not_here y (x ∷ ys) d ∙ ap (λ (zs : List Name). cond (turn x == t) (x ∷ zs) zs) (sym (not_here y ys d)))
        (cases_eq (turn y) t)

    placed_at : (x : Name) (ys : List Name) → at (placed_by_time o x ys) ≡ at (x ∷ ys)
    placed_at x [] = refl
    placed_at x (y ∷ ys) =
        ⊎_elim
        (λ (e : nat_lt (turn y) (turn x) ≡ true).
        ap at (cond-true (nat_lt (turn y) (turn x)) (y ∷ placed_by_time o x ys) (x ∷ y ∷ ys) e)
        ∙ ap (λ (zs : List Name). cond (turn y == t) (y ∷ zs) zs) (placed_at x ys)
        ∙ swapped x y ys (ltb-true (turn y) (turn x) e))
        (λ (e : nat_lt (turn y) (turn x) ≡ false). ap at (cond-false (nat_lt (turn y) (turn x)) (y ∷ placed_by_time o x ys) (x ∷ y ∷ ys) e))
        (cases_Bool (nat_lt (turn y) (turn x)))

    by_time_at : (xs : List Name) → at (by_time o xs) ≡ at xs
    by_time_at [] = refl
    by_time_at (x ∷ xs) = placed_at x (by_time o xs) ∙ ap (λ (zs : List Name). cond (turn x == t) (x ∷ zs) zs) (by_time_at xs)

  All_placed : (P : Name → Type 0) (x : Name) (ys : List Name) → P x → All P ys → All P (placed_by_time o x ys)
  All_placed P x [] p h = All-cons P x [] p h
  All_placed P x (y ∷ ys) p h =
      ⊎_elim
      (λ (e : nat_lt (turn y) (turn x) ≡ true). rw (cond-true (nat_lt (turn y) (turn x)) (y ∷ placed_by_time o x ys) (x ∷ y ∷ ys) e) (All-cons P y (placed_by_time o x ys) (h 0 y (omega arith)) (All_placed P x ys p (All-tail P y ys h))))
      (λ (e : nat_lt (turn y) (turn x) ≡ false). rw (cond-false (nat_lt (turn y) (turn x)) (y ∷ placed_by_time o x ys) (x ∷ y ∷ ys) e) (All-cons P x (y ∷ ys) p h))
      (cases_Bool (nat_lt (turn y) (turn x)))

  placed_climbs : (x : Name) (ys : List Name) → Climbs turn ys → Climbs turn (placed_by_time o x ys)
  placed_climbs x [] h = ((λ k d l. absurd (omega arith)), tt)
  placed_climbs x (y ∷ ys) h =
      ⊎_elim
      (λ (e : nat_lt (turn y) (turn x) ≡ true).
      let l = ltb-true (turn y) (turn x) e in
      rw (cond-true (nat_lt (turn y) (turn x)) (y ∷ placed_by_time o x ys) (x ∷ y ∷ ys) e) (All_placed (λ z. turn y ≤ turn z) x ys (omega arith) h.0, placed_climbs x ys h.1))
      (λ (e : nat_lt (turn y) (turn x) ≡ false).
      let l = ltb-false (turn y) (turn x) e in
      rw (cond-false (nat_lt (turn y) (turn x)) (y ∷ placed_by_time o x ys) (x ∷ y ∷ ys) e) (All-cons (λ z. turn x ≤ turn z) y ys l (λ k d m. let r = h.0 k d m in omega arith), h))
      (cases_Bool (nat_lt (turn y) (turn x)))

  by_time_climbs : (xs : List Name) → Climbs turn (by_time o xs)
  by_time_climbs [] = tt
  by_time_climbs (x ∷ xs) = placed_climbs x (by_time o xs) (by_time_climbs xs)

  -- The control records that are sent: all are worker 0's

  sent_by : (x : Name) → In x (ctrl_names o) → (w : ℕ) → (sender o x == w) ≡ (0 == w)
  sent_by x i w = let r = ctrl_is o x i in ap (λ (y : Name). sender o y == w) (sym r.4)

  all_sent : filter (λ x. sender o x == 0) (ctrl_names o) ≡ ctrl_names o
  all_sent = filter_all (λ x. sender o x == 0) (ctrl_names o) (λ x i. sent_by x i 0)

  pub none_to_send : (w : ℕ) → w ≢ 0 → controls_to_send o w ≡ []
  none_to_send w d = ap (by_time o) (filter_none (λ x. sender o x == w) (ctrl_names o) (λ x i. sent_by x i w ∙ ne_eqb 0 w (λ (e : 0 ≡ w). d (sym e))))

  -- In a job that isn't paced by index and receiver

  module _ (free : o.paced ≡ false) where
    one_turn : (x : Name) → turn x ≡ 0
    one_turn x = cond-false o.paced (time_of o x) 0 free

    placed_first : (x : Name) (ys : List Name) → placed_by_time o x ys ≡ x ∷ ys
    placed_first x [] = refl
    placed_first x (y ∷ ys) = cond-false (nat_lt (turn y) (turn x)) (y ∷ placed_by_time o x ys) (x ∷ y ∷ ys) (le-ltb (turn y) (turn x) (omega (arith, one_turn x, one_turn y)))

    as_listed : (xs : List Name) → by_time o xs ≡ xs
    as_listed [] = refl
    as_listed (x ∷ xs) = placed_first x (by_time o xs) ∙ ap (λ (ys : List Name). x ∷ ys) (as_listed xs)

    pub sent_by_index : (entries : List Entry) → entries ≡ entries_of o (ctrl_names o) → entries ≡ entries_of o (controls_to_send o 0)
    sent_by_index entries are = are ∙ ap (entries_of o) (sym (ap (by_time o) all_sent ∙ as_listed (ctrl_names o)))

  -- In a paced job by time before that

  module _ (paced : o.paced ≡ true) where
    own_turn : (x : Name) → turn x ≡ time_of o x
    own_turn x = cond-true o.paced (time_of o x) 0 paced

    entries_climb : (xs : List Name) → Climbs turn xs → Climbs (λ (e : Entry). e.time) (entries_of o xs)
    entries_climb [] h = tt
    entries_climb (x ∷ xs) h = (
      (λ k d l.
          let m : k < length xs = omega (arith, l, length-map xs (entry_of o)) in
          let e = ap (λ (e : Entry). e.time) (get_or-map (entry_of o) xs k (Ctrl 0 0) d m) in
          let r = h.0 k (Ctrl 0 0) m in
          omega (arith, e, r, own_turn x, own_turn (get_or xs k (Ctrl 0 0)))),
      entries_climb xs h.1,
    )

    entries_at : (t : ℕ) (xs : List Name) → at_key (λ (e : Entry). e.time) t (entries_of o xs) ≡ entries_of o (at_key turn t xs)
    entries_at t xs = filter_map (entry_of o) (λ (e : Entry). e.time == t) xs ∙ ap (entries_of o) (filter_agree (λ x. time_of o x == t) (λ x. turn x == t) (λ x. ap (λ (n : ℕ). n == t) (sym (own_turn x))) xs)

    pub sent_by_time : (entries sorted : List Entry) → entries ≡ entries_of o (ctrl_names o) → IsNonDecreasingBy (λ e. e.time) sorted → ((t : ℕ) → filter (λ e. e.time == t) sorted ≡ filter (λ e. e.time == t) entries) → sorted ≡ entries_of o (controls_to_send o 0)
    sent_by_time entries sorted are rising stable =
        let key : Entry → ℕ = λ e. e.time in
        same key sorted (entries_of o (by_time o (ctrl_names o))) (climbs_from key sorted rising) (entries_climb (by_time o (ctrl_names o)) (by_time_climbs (ctrl_names o))) (λ t.
        stable t
        ∙ ap (at_key key t) are
        ∙ entries_at t (ctrl_names o)
        ∙ ap (entries_of o) (sym (by_time_at t (ctrl_names o)))
        ∙ sym (entries_at t (by_time o (ctrl_names o))))
        ∙ ap (entries_of o) (ap (by_time o) (sym all_sent))
