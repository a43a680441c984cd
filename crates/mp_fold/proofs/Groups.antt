-- The groups of a key by its records and the times that they post, and the first of them.
use Rattle.std.proofs.Common.{◌≡◌, ◌<◌, ◌==◌, ◌||◌, ◌⊎◌, ◌++◌, ℕ, Bool, true, false, not, List, [], ◌∷◌, All, IsPermutation, filter, length, map, refl, sym, ap, ◌∙◌, subst, append_assoc, inl, inr, arith}
use Rattle.std.specs.List.{flat_map, take_while}
use Rattle.std.specs.List.Sorted.{IsNonDecreasing, IsNonDecreasingBy}
use Rattle.std.proofs.lemmas.Bool.{false≢true, ne_eqb}
use Rattle.std.proofs.lemmas.List.{append-nil, map-id}
use Rattle.std.proofs.lemmas.List.Elements.{All-append, All-map}
use Rattle.std.proofs.lemmas.List.Folds.{list_any-append}
use Rattle.std.proofs.lemmas.List.Sorted.{IsPermutation-append_right, list_any-IsPermutation}
use Rattle.mp_model.specs.declared.record.Output.{Output}
use Rattle.mp_model.specs.declared.record.Rec.{Rec}
use Rattle.mp_model.specs.declared.value.Value.{Value}
use Rattle.mp_model.specs.Ascending.{ascending}
use Rattle.mp_model.specs.Entry.{Entry}
use Rattle.mp_model.specs.Facts.{QueryFacts}
use Rattle.mp_model.specs.Folds.{FitsAlong, at_time, entries_of, entry_at, is_woken, outputs_along, outputs_at, times_in}
use Rattle.mp_model.specs.QueryLaws.{BeginsFresh}
use Rattle.mp_model.proofs.Lists.{All-ascending}
use Rattle.mp_fold.proofs.Ascending.{ascending_first, ascending_same, has}
use Rattle.mp_fold.proofs.Cuts.{IsCut, above_after, after_while, front_is, numbers_after, numbers_begin, others_after, rises_after, some_passes}
use Rattle.mp_fold.proofs.Fresh.{entries_are, opening_is, woken_is}
use Rattle.mp_fold.proofs.Numbers.{has-flat_map, has-pairs, maps_agree}
use Rattle.mp_fold.specs.Order.{BeginsAt, IsFirstTime}

abbrev time_of : Rec → ℕ
time_of r = r.time

abbrev itself : ℕ → ℕ
itself t = t

module _ (k : ℕ) where
  -- the group of the key at a time
  abbrev pub group_at : List Rec → List ℕ → ℕ → Entry
  group_at recs posted t = record { time = t; key = k; woken = has t posted; recs = at_time t recs }

  -- the groups of the key, by time
  abbrev pub groups_of : List Rec → List ℕ → List Entry
  groups_of recs posted = map (group_at recs posted) (ascending (map time_of recs ++ posted))

-- they are those of the definition
module _ {Cell : Type 0} (q : QueryFacts Cell) (fresh : BeginsFresh q) (j k : ℕ) (own : List Rec) (posted : List ℕ) (same : IsPermutation (flat_map (q.posts j) own) posted) where
  times_are : (u : ℕ) → has u (times_in q j own) ≡ has u (map time_of own ++ posted)
  times_are u =
      has-pairs u time_of (q.posts j) own
      ∙ list_any-IsPermutation (λ (v : ℕ). v == u) _ _ (IsPermutation-append_right (map time_of own) (flat_map (q.posts j) own) posted same)

  woken_where : (t : ℕ) → is_woken q j k own t ≡ has t posted
  woken_where t =
      woken_is q fresh j k own t ∙ sym (has-flat_map t (q.posts j) own) ∙ list_any-IsPermutation (λ (v : ℕ). v == t) (flat_map (q.posts j) own) posted same

  pub groups_are : entries_of q j k own ≡ groups_of k own posted
  groups_are =
      entries_are q fresh j k own
      ∙ ap (map (entry_at q j k own)) (ascending_same (times_in q j own) (map time_of own ++ posted) times_are)
      ∙ (λ i. map (λ t. record { time = t; key = k; woken = woken_where t i; recs = at_time t own }) (ascending (map time_of own ++ posted)))

-- the numbers of two lists, each without those of the first
joined : (b x y v w : Bool) → (x || b) ≡ (b || y) → (v || b) ≡ (b || w) → (x ≡ (x || b)) ⊎ (v ≡ (v || b)) → (x || v) ≡ (b || (y || w))
joined true true y v w e f some = refl
joined true false y v w e f (inl h) = absurd (false≢true h)
joined true false y true w e f (inr h) = refl
joined true false y false w e f (inr h) = absurd (false≢true h)
joined false true y v w e f some = λ i. e i || w
joined false false y true w e f some = λ i. e i || f i
joined false false y false w e f some = λ i. e i || f i

without_false : (b c v w : Bool) → c ≡ false → (v || c) ≡ (c || w) → v ≡ w
without_false b true v w e f = absurd (false≢true (sym e))
without_false b false true w e f = f
without_false b false false w e f = f

module _ (k : ℕ) (recs : List Rec) (posted : List ℕ) (t : ℕ) (first : IsFirstTime recs posted t) (by_time : IsNonDecreasingBy time_of recs) (up : IsNonDecreasing posted) where
  abbrev later : List Rec
  later = after_while (λ (r : Rec). r.time == t) recs

  abbrev more : List ℕ
  more = after_while (λ (u : ℕ). u == t) posted

  posts_after : (u : ℕ) → (has u posted || t == u) ≡ (t == u || has u more)
  posts_after u =
      sym (ap (λ (us : List ℕ). has u us || t == u) (map-id posted)) ∙ numbers_after itself t u posted ∙ ap (λ (us : List ℕ). t == u || has u us) (map-id more)

  posts_begin : (u : ℕ) → BeginsAt itself posted t → has u posted ≡ (has u posted || t == u)
  posts_begin u b = subst (λ (us : List ℕ). has u us ≡ (has u us || t == u)) (map-id posted) (numbers_begin itself t u posted b)

  times_after : (u : ℕ) → has u (map time_of recs ++ posted) ≡ (t == u || has u (map time_of later ++ more))
  times_after u =
      list_any-append (λ (v : ℕ). v == u) (map time_of recs) posted
      ∙ joined (t == u) (has u (map time_of recs)) (has u (map time_of later)) (has u posted) (has u more) (numbers_after time_of t u recs) (posts_after u) some
      ∙ ap (λ b. t == u || b) (sym (list_any-append (λ (v : ℕ). v == u) (map time_of later) more))
    where
      some : (has u (map time_of recs) ≡ (has u (map time_of recs) || t == u)) ⊎ (has u posted ≡ (has u posted || t == u))
      some = elim first.first [ inl b ↦ inl (numbers_begin time_of t u recs b) | inr b ↦ inr (posts_begin u b) ]

  times_above : All (λ u. t < u) (map time_of later ++ more)
  times_above =
      All-append (λ (u : ℕ). t < u) (map time_of later) more (All-map (λ (u : ℕ). t < u) time_of later (above_after time_of t recs first.of_records by_time)) (above_after itself t posted first.of_posts up)

  others_same : (u : ℕ) → t < u → group_at k recs posted u ≡ group_at k later more u
  others_same u low =
      let woken : has u posted ≡ has u more = without_false true (t == u) (has u posted) (has u more) (ne_eqb t u (λ e. omega arith)) (posts_after u) in
      let now : at_time u recs ≡ at_time u later = sym (others_after time_of t u (λ e. omega arith) recs) in
      λ i. record { time = u; key = k; woken = woken i; recs = now i }

  first_group : groups_of k recs posted ≡ group_at k recs posted t ∷ groups_of k later more
  first_group =
      ap (map (group_at k recs posted)) (ascending_first t (map time_of recs ++ posted) (map time_of later ++ more) times_above times_after)
      ∙ ap (λ (es : List Entry). group_at k recs posted t ∷ es)
      (maps_agree (λ (u : ℕ). t < u) (group_at k recs posted) (group_at k later more) others_same (ascending (map time_of later ++ more)) (All-ascending (λ (u : ℕ). t < u) (map time_of later ++ more) times_above))

  -- the group with the records and posted times in front is the one of the first time
  group_is : (woken : Bool) (wakes : List ℕ) (now : List Rec) (e : Entry) → e ≡ record { time = t; key = k; woken = woken; recs = now } → woken ≡ not (length wakes == 0)
      → wakes ≡ take_while (λ (u : ℕ). u == t) posted → now ≡ take_while (λ (r : Rec). r.time == t) recs → e ≡ group_at k recs posted t
  group_is woken wakes now e is w f n =
      let posts : wakes ≡ filter (λ (u : ℕ). u == t) posted = f ∙ front_is itself t posted first.of_posts up in
      let wakened : woken ≡ has t posted = w ∙ ap (λ (us : List ℕ). not (length us == 0)) posts ∙ some_passes (λ (u : ℕ). u == t) posted in
      let present : now ≡ at_time t recs = n ∙ front_is time_of t recs first.of_records by_time in
      is ∙ (λ i. record { time = t; key = k; woken = wakened i; recs = present i })

  module _ {Cell : Type 0} (q : QueryFacts Cell) (j : ℕ) (cell : Cell) (e : Entry) (is : e ≡ group_at k recs posted t) where
    begin : groups_of k recs posted ≡ e ∷ groups_of k later more
    begin = first_group ∙ ap (λ (f : Entry). f ∷ groups_of k later more) (sym is)

    -- what it gives stands behind what was given
    outputs_more : (old new all : List Output) (values : List Value) (next : Cell) → values ≡ q.gives j cell e → next ≡ q.step j cell e
        → new ≡ old ++ outputs_at t k values → old ++ outputs_along q j cell (groups_of k recs posted) ≡ all
        → new ++ outputs_along q j next (groups_of k later more) ≡ all
    outputs_more old new all values next gives step added before =
        let same : outputs_at e.time e.key values ≡ outputs_at t k values = ap (λ (f : Entry). outputs_at f.time f.key values) is in
        let here : new ≡ old ++ outputs_at e.time e.key values = added ∙ ap (λ (os : List Output). old ++ os) (sym same) in
        rw (here, gives, step) (append_assoc old (outputs_at e.time e.key (q.gives j cell e)) _ ∙ sym (ap (λ (es : List Entry). old ++ outputs_along q j cell es) begin) ∙ before)

-- The outputs so far, with those of the groups that are left from the cell of now, are all; the sums of the rest fit
pub record IsFolded {Cell : Type 0} (q : QueryFacts Cell) (j k : ℕ) (all outputs : List Output) (cell : Cell) (recs : List Rec) (posted : List ℕ) : Type 0 where
  pub so_far : outputs ++ outputs_along q j cell (groups_of k recs posted) ≡ all
  pub fits : FitsAlong q j cell (groups_of k recs posted)
  pub by_time : IsNonDecreasingBy (λ (r : Rec). r.time) recs
  pub up : IsNonDecreasing posted

-- it begins with a fresh cell and all groups
pub begin_fold : {Cell : Type 0} (q : QueryFacts Cell) → BeginsFresh q → (j k : ℕ) (outputs : List Output) (own : List Rec) (posted : List ℕ) → IsNonDecreasingBy (λ (r : Rec). r.time) own
    → IsNonDecreasing posted → IsPermutation (flat_map (q.posts j) own) posted → FitsAlong q j (q.opening j k) (entries_of q j k own)
    → IsFolded q j k (outputs ++ outputs_along q j (q.opening j k) (entries_of q j k own)) outputs (q.fresh j) own posted
begin_fold {Cell} q fresh j k outputs own posted by_time up same fits =
    let opening = opening_is q fresh j k in
    let groups = groups_are q fresh j k own posted same in record {
      so_far = λ i. outputs ++ outputs_along q j (sym opening i) (sym groups i);
      fits = subst (λ (cell : Cell). FitsAlong q j cell (groups_of k own posted)) opening (subst (λ (es : List Entry). FitsAlong q j (q.opening j k) es) groups fits);
      by_time = by_time;
      up = up;
    }

module _ {Cell : Type 0} {q : QueryFacts Cell} {j k : ℕ} {all outputs : List Output} {cell : Cell} {recs : List Rec} {posted : List ℕ} (so_far : IsFolded q j k all outputs cell recs posted) where
  -- at the end no group is left
  pub end_fold : recs ≡ [] → posted ≡ [] → outputs ≡ all
  end_fold r p = sym (append-nil outputs) ∙ sym (ap (λ (es : List Entry). outputs ++ outputs_along q j cell es) (λ i. groups_of k (r i) (p i))) ∙ so_far.so_far

  module _ (t : ℕ) (first : IsFirstTime recs posted t) (now rest : List Rec) (wakes posts : List ℕ) (c : IsCut time_of t recs now rest) (d : IsCut itself t posted wakes posts) (e : Entry) (woken : Bool) (is : e ≡ record { time = t; key = k; woken = woken; recs = now }) (w : woken ≡ not (length wakes == 0)) where
    the_group : e ≡ group_at k recs posted t
    the_group = group_is k recs posted t first so_far.by_time so_far.up woken wakes now e is w d.in_front c.in_front

    starts : groups_of k recs posted ≡ e ∷ groups_of k (later k recs posted t first so_far.by_time so_far.up) (more k recs posted t first so_far.by_time so_far.up)
    starts = begin k recs posted t first so_far.by_time so_far.up q j cell e the_group

    -- the sums of the group fit
    pub fits_here : q.fits j cell e ≡ true
    fits_here = (subst (λ (es : List Entry). FitsAlong q j cell es) starts so_far.fits).0

    -- one more group
    pub fold_more : (values : List Value) (next : Cell) (new : List Output) → values ≡ q.gives j cell e → next ≡ q.step j cell e → new ≡ outputs ++ outputs_at t k values → IsFolded q j k all new next rest posts
    fold_more values next new gives step added =
        rw (c.behind, d.behind)
        (record {
          so_far = outputs_more k recs posted t first so_far.by_time so_far.up q j cell e the_group outputs new all values next gives step added so_far.so_far;
          fits = rw step ((subst (λ (es : List Entry). FitsAlong q j cell es) starts so_far.fits).1);
          by_time = rises_after time_of t recs so_far.by_time;
          up = rises_after itself t posted so_far.up;
        })
