-- What is below a time rests on the records below it.
use Rattle.std.proofs.Common.{◌≡◌, ◌==◌, ℕ, ◌<◌, ◌≤◌, true, false, nat_lt, List, [], ◌∷◌, ◌++◌, filter, map, take_while, Contains, refl, sym, ap, ◌∙◌, ⊎_elim, arith}
use Rattle.std.specs.List.{enumerate_from, filter_map, flat_map}
use Rattle.std.proofs.lemmas.Bool.{cases_lt, eqb-true, le-ltb, lt-ltb, ltb-true}
use Rattle.std.proofs.lemmas.List.Elements.{filter-append}
use Rattle.std.proofs.lemmas.List.Sums.{take_while-cons}
use Rattle.mp_model.specs.declared.record.Output.{Output}
use Rattle.mp_model.specs.declared.record.Rec.{Rec}
use Rattle.mp_model.specs.declared.value.Value.{Value}
use Rattle.mp_model.specs.Ascending.{ascending}
use Rattle.mp_model.specs.Entry.{Entry}
use Rattle.mp_model.specs.Facts.{QueryFacts}
use Rattle.mp_model.specs.Folds.{at_time, cell_before, entries_of, entry_at, fold_of, is_woken, keys_in, of_key, outputs_along, outputs_at, outputs_of, stage_outputs, timeline, times_in}
use Rattle.mp_model.specs.Stages.{record_of_output}
use Rattle.mp_job.proofs.Ascents.{Contains-ascending, Rises-ascending, ascending-Contains, same_rising}
use Rattle.mp_job.proofs.Members.{Contains-cases, Contains-filter, Contains-map, filter-Contains, map-Contains}
use Rattle.mp_outline.proofs.Found.{found, found_there}
use Rattle.mp_outline.proofs.Pairs.{Pairs}
use Rattle.mp_restart_laws.specs.Times.{outputs_below, records_below}
use Rattle.mp_restart_laws.proofs.Lists.{Rises-filter, fewer_numbers, filter-filter_map, filter-flat_map, filter-map, filter_all, filter_implied, filter_none, filter_swap, map_within, nothing_there, passes, passing, same_answer}
use Rattle.mp_restart_laws.proofs.Resuming.{output_time}
use Rattle.mp_restart_laws.proofs.Split.{output_of}
use Rattle.mp_restart_laws.proofs.Tables.{from_nothing}
use Rattle.mp_restart_laws.proofs.Timelines.{PostsFollow, in_times, of_times, posts_it, posts_told, timeline_rises}

pub early_group : (t u k : ℕ) (values : List Value) → u < t → outputs_below t (outputs_at u k values) ≡ outputs_at u k values
early_group t u k values l =
    filter-map (λ (o : Output). nat_lt o.time t) (output_of u k) (enumerate_from 0 values)
    ∙ ap (map (output_of u k)) (filter_all (λ (p : ℕ × Value). nat_lt u t) (enumerate_from 0 values) (λ p i. lt-ltb u t l))

pub late_group : (t u k : ℕ) (values : List Value) → t ≤ u → outputs_below t (outputs_at u k values) ≡ []
late_group t u k values l =
    filter-map (λ (o : Output). nat_lt o.time t) (output_of u k) (enumerate_from 0 values)
    ∙ ap (map (output_of u k)) (filter_none (λ (p : ℕ × Value). nat_lt u t) (enumerate_from 0 values) (λ p i. le-ltb u t l))

abbrev entries_below : ℕ → List Entry → List Entry
entries_below t es = filter (λ e. nat_lt e.time t) es

-- of groups by time, those below a time stand in front
front_is : (t : ℕ) (es : List Entry) → Pairs (λ e f. e.time < f.time) es → take_while (λ e. nat_lt e.time t) es ≡ entries_below t es
front_is t [] h = refl
front_is t (e ∷ es) h =
    ⊎_elim
    (λ (l : e.time < t). let a : nat_lt e.time t ≡ true = lt-ltb e.time t l in rw (take_while-cons (λ f. nat_lt f.time t) e es, a) (ap (λ (fs : List Entry). e ∷ fs) (front_is t es h.1)))
    (λ (l : t ≤ e.time).
    let a : nat_lt e.time t ≡ false = le-ltb e.time t l in
    rw (take_while-cons (λ f. nat_lt f.time t) e es, a) (sym (filter_none (λ (f : Entry). nat_lt f.time t) es (λ f i. let m : e.time < f.time = h.0 f i in le-ltb f.time t (omega arith)))))
    (cases_lt e.time t)

module _ {Cell : Type 0} (query : QueryFacts Cell) (j t : ℕ) where
  abbrev q : QueryFacts Cell
  q = from_nothing query

  -- what groups give below a time is what those below it give
  along_below : (cell : Cell) (es : List Entry) → Pairs (λ e f. e.time < f.time) es → outputs_below t (outputs_along q j cell es) ≡ outputs_along q j cell (entries_below t es)
  along_below cell [] h = refl
  along_below cell (e ∷ es) h =
      let parts = filter-append (λ (o : Output). nat_lt o.time t) (outputs_at e.time e.key (q.gives j cell e)) (outputs_along q j (q.step j cell e) es) in
      ⊎_elim
      (λ (l : e.time < t).
      let a : nat_lt e.time t ≡ true = lt-ltb e.time t l in
      let first = early_group t e.time e.key (q.gives j cell e) l in
      let rest = along_below (q.step j cell e) es h.1 in
      parts ∙ rw a (λ i. first i ++ rest i))
      (λ (l : t ≤ e.time).
      let a : nat_lt e.time t ≡ false = le-ltb e.time t l in
      let first = late_group t e.time e.key (q.gives j cell e) l in
      let later : (f : Entry) → Contains es f → nat_lt f.time t ≡ false = λ f i. (let m : e.time < f.time = h.0 f i in le-ltb f.time t (omega arith)) in
      let none = filter_none (λ (f : Entry). nat_lt f.time t) es later in
      let rest = along_below (q.step j cell e) es h.1 ∙ ap (outputs_along q j (q.step j cell e)) none in
      parts ∙ (λ i. first i ++ rest i) ∙ rw a (sym (ap (outputs_along q j cell) none)))
      (cases_lt e.time t)

  module _ (rs : List Rec) (follow : PostsFollow query j rs) (k : ℕ) where
    abbrev own : List Rec
    own = of_key k rs

    abbrev early : List Rec
    early = of_key k (records_below t rs)

    own_is : (r : Rec) → Contains own r → Contains rs r × (r.key ≡ k)
    own_is r i = let a = Contains-filter (λ (s : Rec). s.key == k) rs r i in (a.0, eqb-true r.key k a.1)

    early_is : (r : Rec) → Contains early r → Contains own r
    early_is r i =
        let a = Contains-filter (λ (s : Rec). s.key == k) (records_below t rs) r i in
        filter-Contains (λ (s : Rec). s.key == k) rs r (Contains-filter (λ (s : Rec). nat_lt s.time t) rs r a.0).0 a.1

    is_early : (r : Rec) → Contains own r → r.time < t → Contains early r
    is_early r i l =
        let a = Contains-filter (λ (s : Rec). s.key == k) rs r i in
        filter-Contains (λ (s : Rec). s.key == k) (records_below t rs) r (filter-Contains (λ (s : Rec). nat_lt s.time t) rs r a.0 (lt-ltb r.time t l)) a.1

    -- a record isn't later than a time that it has or posts
    not_later : (r : Rec) (u : ℕ) → Contains own r → Contains (r.time ∷ q.posts j r) u → r.time ≤ u
    not_later r u i m = ⊎_elim (λ (e : r.time ≡ u). omega arith) (λ (n : Contains (q.posts j r) u). follow r u (own_is r i).0 n) (Contains-cases r.time u (q.posts j r) m)

    same_times : filter (λ u. nat_lt u t) (ascending (times_in q j own)) ≡ filter (λ u. nat_lt u t) (ascending (times_in q j early))
    same_times =
        same_rising
        (filter (λ u. nat_lt u t) (ascending (times_in q j own)))
        (filter (λ u. nat_lt u t) (ascending (times_in q j early)))
        (Rises-filter (λ u. nat_lt u t) (ascending (times_in q j own)) (Rises-ascending (times_in q j own)))
        (Rises-filter (λ u. nat_lt u t) (ascending (times_in q j early)) (Rises-ascending (times_in q j early)))
        (λ u i.
        let a = Contains-filter (λ u. nat_lt u t) (ascending (times_in q j own)) u i in
        let b = of_times q j own u (Contains-ascending (times_in q j own) u a.0) in
        let l : u < t = ltb-true u t a.1 in
        let m : (b.0).time ≤ u = not_later b.0 u b.1 b.2 in
        filter-Contains (λ u. nat_lt u t) (ascending (times_in q j early)) u (ascending-Contains (times_in q j early) u (in_times q j early b.0 u (is_early b.0 b.1 (omega arith)) b.2)) a.1)
        (λ u i.
        let a = Contains-filter (λ u. nat_lt u t) (ascending (times_in q j early)) u i in
        let b = of_times q j early u (Contains-ascending (times_in q j early) u a.0) in
        filter-Contains (λ u. nat_lt u t) (ascending (times_in q j own)) u (ascending-Contains (times_in q j own) u (in_times q j own b.0 u (early_is b.0 b.1) b.2)) a.1)

    same_woken : (u : ℕ) → u < t → is_woken q j k own u ≡ is_woken q j k early u
    same_woken u l = same_answer (is_woken q j k own u) (is_woken q j k early u)
        (λ e.
        let a = passing (posts_it q j u) own e in
        let r = a.0 in
        let m : r.time ≤ u = follow r u (own_is r a.1).0 (posts_told q j u r a.2) in
        passes (posts_it q j u) early r (is_early r a.1 (omega arith)) a.2)
        (λ e. let a = passing (posts_it q j u) early e in passes (posts_it q j u) own a.0 (early_is a.0 a.1) a.2)

    same_recs : (u : ℕ) → u < t → at_time u own ≡ at_time u early
    same_recs u l =
        sym (filter_implied (λ (r : Rec). r.time == u) (λ (r : Rec). nat_lt r.time t) own (λ r i e. let m : r.time ≡ u = eqb-true r.time u e in lt-ltb r.time t (omega arith)))
        ∙ ap (at_time u) (filter_swap (λ (r : Rec). nat_lt r.time t) (λ (r : Rec). r.key == k) rs)

    same_entries : entries_below t (timeline q j k rs) ≡ entries_below t (timeline q j k (records_below t rs))
    same_entries =
        filter-map (λ (e : Entry). nat_lt e.time t) (entry_at q j k own) (ascending (times_in q j own))
        ∙ map_within (entry_at q j k own) (entry_at q j k early) (filter (λ u. nat_lt u t) (ascending (times_in q j own))) (λ u i.
        let l : u < t = ltb-true u t (Contains-filter (λ u. nat_lt u t) (ascending (times_in q j own)) u i).1 in
        let a = same_woken u l in
        let b = same_recs u l in
        λ n. record { time = u; key = k; woken = a n; recs = b n })
        ∙ ap (map (entry_at q j k early)) same_times
        ∙ sym (filter-map (λ (e : Entry). nat_lt e.time t) (entry_at q j k early) (ascending (times_in q j early)))

    pub cell_below : cell_before q j (records_below t rs) k t ≡ cell_before q j rs k t
    cell_below =
        ap (fold_of q j (q.fresh j)) (front_is t (timeline q j k (records_below t rs)) (timeline_rises q j k (records_below t rs)) ∙ sym same_entries ∙ sym (front_is t (timeline q j k rs) (timeline_rises q j k rs)))

    key_below : outputs_below t (outputs_of q j rs k) ≡ outputs_below t (outputs_of q j (records_below t rs) k)
    key_below =
        along_below (q.fresh j) (timeline q j k rs) (timeline_rises q j k rs)
        ∙ ap (outputs_along q j (q.fresh j)) same_entries
        ∙ sym (along_below (q.fresh j) (timeline q j k (records_below t rs)) (timeline_rises q j k (records_below t rs)))

  -- what a stage gives below a time
  pub stage_below : (rs : List Rec) → PostsFollow query j rs → outputs_below t (stage_outputs q j rs) ≡ outputs_below t (stage_outputs q j (records_below t rs))
  stage_below rs follow =
      filter-flat_map (λ (o : Output). nat_lt o.time t) (outputs_of q j rs) (keys_in q j rs)
      ∙ (λ i. flat_map (λ k. key_below rs follow k i) (keys_in q j rs))
      ∙ fewer_numbers (λ k. outputs_below t (outputs_of q j (records_below t rs) k)) (keys_in q j rs) (keys_in q j (records_below t rs)) (Rises-ascending (map (λ (r : Rec). r.key) rs)) (Rises-ascending (map (λ (r : Rec). r.key) (records_below t rs))) within (λ k i none. nothing k none)
      ∙ sym (filter-flat_map (λ (o : Output). nat_lt o.time t) (outputs_of q j (records_below t rs)) (keys_in q j (records_below t rs)))
    where
      within : (k : ℕ) → Contains (keys_in q j (records_below t rs)) k → Contains (keys_in q j rs) k
      within k i =
          let a = found (λ (r : Rec). r.key ≡ k) (records_below t rs) (Contains-map (λ (r : Rec). r.key) (records_below t rs) k (Contains-ascending (map (λ (r : Rec). r.key) (records_below t rs)) k i)) in
          let there = (Contains-filter (λ (s : Rec). nat_lt s.time t) rs a.0 a.1).0 in
          ascending-Contains (map (λ (s : Rec). s.key) rs) k (map-Contains (λ (s : Rec). s.key) rs k (found_there (λ (s : Rec). s.key ≡ k) rs a.0 there a.2))

      nothing : (k : ℕ) → (Contains (keys_in q j (records_below t rs)) k → ⊥) → outputs_below t (outputs_of q j (records_below t rs) k) ≡ []
      nothing k none =
          let no_record : of_key k (records_below t rs) ≡ [] = nothing_there (of_key k (records_below t rs)) (λ r i.
          let a = Contains-filter (λ (s : Rec). s.key == k) (records_below t rs) r i in
          none (ascending-Contains (map (λ (s : Rec). s.key) (records_below t rs)) k (map-Contains (λ (s : Rec). s.key) (records_below t rs) k (found_there (λ (s : Rec). s.key ≡ k) (records_below t rs) r a.0 (eqb-true r.key k a.1))))) in
          λ i. outputs_below t (outputs_along q j (q.fresh j) (entries_of q j k (no_record i)))

pub records_of_outputs : {Cell : Type 0} (q : QueryFacts Cell) (j t : ℕ) (outputs : List Output) → records_below t (filter_map (record_of_output q j) outputs) ≡ filter_map (record_of_output q j) (outputs_below t outputs)
records_of_outputs q j t outputs =
    filter-filter_map (λ (r : Rec). nat_lt r.time t) (λ (o : Output). nat_lt o.time t) (record_of_output q j) (λ o r e. ap (λ (u : ℕ). nat_lt u t) (output_time (q.key j o.time o.value) o r e)) outputs
