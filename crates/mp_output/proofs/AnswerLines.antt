-- The rows of a time that worker 0 has taken, all of them, are the one-thread answer's lines of that time.
use Rattle.std.proofs.Common.{◌≡◌, ◌⊎◌, ℕ, ◌<◌, ◌≤◌, ◌==◌, Bool, true, false, cond, List, [], ◌∷◌, ◌++◌, filter, flat_map, fold, map, Contains, refl, sym, ap, ◌∙◌, subst, ⊎_elim, append-nil, append_assoc, arith}
use Rattle.std.specs.BTreeMap.{insert_entry}
use Rattle.std.specs.Ordering.{match_ordering}
use Rattle.std.specs.declared.cmp.Ordering.{Ordering}
use Rattle.std.specs.declared.cmp.Ordering.TheVariants.{Less, Equal, Greater}
use Rattle.std.proofs.lemmas.Bool.{cases_order, eq-eqb, eqb-true, false_from_ne_true}
use Rattle.mp_model.specs.declared.record.Output.{Output}
use Rattle.mp_model.specs.declared.record.Place.{Place}
use Rattle.mp_model.specs.declared.value.Value.{Value}
use Rattle.mp_model.specs.Answers.{in_order, line_of, place_cmp, with_row}
use Rattle.mp_msg.specs.Below.{nothing_in_nil, Contains-cases, Contains-here, Contains-later}
use Rattle.mp_msg.specs.Below.{OutputsInOrder, TagIsBefore}
use Rattle.mp_msg.specs.Below.{Pairs}
use Rattle.mp_output.specs.Unwritten.{lines_of, place_of, rows_at}
use Rattle.mp_output.proofs.ByTime.{IsByTime, Rows, TimesTold, earlier_place, later_place, later_tag, put_by_time, put_places, times_told}

-- the rows of a time
abbrev pub entries_at : ℕ → Rows → Rows
entries_at t rows = filter (λ e. e.0.time == t) rows

-- a row of another time changes nothing of this one
put_beside : (t : ℕ) (p : Place) (v : Value) (es : Rows) → (p.time ≡ t → ⊥) → entries_at t (insert_entry place_cmp es p v) ≡ entries_at t es
put_beside t p v [] other = let e : (p.time == t) ≡ false = false_from_ne_true (p.time == t) (λ k. other (eqb-true p.time t k)) in rw e refl
put_beside t p v (d ∷ es) other = pick (put_beside t p v es other) (place_cmp p d.0) (times_told p d.0)
  where
    not_p : (p.time == t) ≡ false
    not_p = false_from_ne_true (p.time == t) (λ k. other (eqb-true p.time t k))

    pick : entries_at t (insert_entry place_cmp es p v) ≡ entries_at t es → (c : Ordering) → TimesTold c p.time d.0.time → entries_at t (match_ordering c ((p, v) ∷ d ∷ es) ((d.0, v) ∷ es) (d ∷ insert_entry place_cmp es p v)) ≡ entries_at t (d ∷ es)
    pick rest Less l = rw not_p refl
    pick rest Equal l = let not_d : (d.0.time == t) ≡ false = ap (λ (s : ℕ). s == t) (sym l) ∙ not_p in rw not_d refl
    pick rest Greater l = ap (λ (fs : Rows). cond (d.0.time == t) (d ∷ fs) fs) rest

-- where all rows are of later times none is of this one
none_at : (t : ℕ) (es : Rows) → ((e : Place × Value) → Contains es e → t < e.0.time) → entries_at t es ≡ []
none_at t [] h = refl
none_at t (d ∷ es) h =
    let l : t < d.0.time = h d (Contains-here d es) in
    let e : (d.0.time == t) ≡ false = false_from_ne_true (d.0.time == t) (λ k. let same : d.0.time ≡ t = eqb-true d.0.time t k in omega arith) in
    rw e (none_at t es (λ f i. h f (Contains-later d f es i)))

-- a row of this time comes behind those of lesser tags
put_last : (p : Place) (v : Value) (es : Rows) → IsByTime es → ((e : Place × Value) → Contains es e → e.0.time ≡ p.time → TagIsBefore e.0.tag p.tag) → entries_at p.time (insert_entry place_cmp es p v) ≡ entries_at p.time es ++ (p, v) ∷ []
put_last p v [] h less = let e : (p.time == p.time) ≡ true = eq-eqb p.time p.time refl in rw e refl
put_last p v (d ∷ es) h less =
    ⊎_elim
    (λ (e : d.0.time ≡ p.time). behind (put_last p v es h.1 (λ f i. less f (Contains-later d f es i))) (later_tag p d.0 e (less d (Contains-here d es) e)))
    (λ (e : (d.0.time < p.time) ⊎ (p.time < d.0.time)).
    ⊎_elim
    (λ (l : d.0.time < p.time). behind (put_last p v es h.1 (λ f i. less f (Contains-later d f es i))) (later_place p d.0 l))
    (λ (l : p.time < d.0.time). in_front l)
    e)
    (cases_order d.0.time p.time)
  where
    behind : entries_at p.time (insert_entry place_cmp es p v) ≡ entries_at p.time es ++ (p, v) ∷ [] → place_cmp p d.0 ≡ Greater → entries_at p.time (insert_entry place_cmp (d ∷ es) p v) ≡ entries_at p.time (d ∷ es) ++ (p, v) ∷ []
    behind rest e = ap (λ (c : Ordering). entries_at p.time (match_ordering c ((p, v) ∷ d ∷ es) ((d.0, v) ∷ es) (d ∷ insert_entry place_cmp es p v))) e ∙ kept (d.0.time == p.time) rest
      where
        kept : (b : Bool) → entries_at p.time (insert_entry place_cmp es p v) ≡ entries_at p.time es ++ (p, v) ∷ [] → cond b (d ∷ entries_at p.time (insert_entry place_cmp es p v)) (entries_at p.time (insert_entry place_cmp es p v)) ≡ cond b (d ∷ entries_at p.time es) (entries_at p.time es) ++ (p, v) ∷ []
        kept true k = ap (λ (fs : Rows). d ∷ fs) k
        kept false k = k

    in_front : p.time < d.0.time → entries_at p.time (insert_entry place_cmp (d ∷ es) p v) ≡ entries_at p.time (d ∷ es) ++ (p, v) ∷ []
    in_front l =
        let none = none_at p.time (d ∷ es) (λ e i. ⊎_elim (λ (same : d ≡ e). subst (λ (f : Place × Value). p.time < f.0.time) same l) (λ (j : Contains es e). let m : d.0.time ≤ e.0.time = h.0 e j in omega arith) (Contains-cases d e es i)) in
        let here : (p.time == p.time) ≡ true = eq-eqb p.time p.time refl in
        ap (λ (c : Ordering). entries_at p.time (match_ordering c ((p, v) ∷ d ∷ es) ((d.0, v) ∷ es) (d ∷ insert_entry place_cmp es p v))) (earlier_place p d.0 l)
        ∙ ap (λ (b : Bool). cond b ((p, v) ∷ entries_at p.time (d ∷ es)) (entries_at p.time (d ∷ es))) here
        ∙ ap (λ (fs : Rows). (p, v) ∷ fs) none
        ∙ ap (λ (fs : Rows). fs ++ (p, v) ∷ []) (sym none)

-- a row with its place
abbrev pub entry_of : Output → Place × Value
entry_of o = (place_of o, o.value)

-- Outputs of one time that stand in the order of their tags are the answer's rows of that time, in its order
along : (t : ℕ) (os : List Output) (es : Rows) → IsByTime es → Pairs OutputsInOrder os → ((e : Place × Value) (o : Output) → Contains es e → Contains os o → e.0.time ≡ o.time → TagIsBefore e.0.tag o.tag) → entries_at t (fold with_row es os) ≡ entries_at t es ++ map entry_of (rows_at t os)
along t [] es h k less = sym (append-nil (entries_at t es))
along t (o ∷ os) es h k less =
    along t os (with_row es o) (put_by_time (place_of o) o.value es h) k.1 later ∙ step
  where
    later : (e : Place × Value) (p : Output) → Contains (with_row es o) e → Contains os p → e.0.time ≡ p.time → TagIsBefore e.0.tag p.tag
    later e p i j = put_places (λ q. q.time ≡ p.time → TagIsBefore q.tag p.tag) (place_of o) o.value es (k.0 p j) (λ f l. less f p l (Contains-later o p os j)) e i

    here : o.time ≡ t → entries_at t (with_row es o) ≡ entries_at t es ++ entry_of o ∷ []
    here e = subst (λ (s : ℕ). entries_at s (with_row es o) ≡ entries_at s es ++ entry_of o ∷ []) e (put_last (place_of o) o.value es h (λ f l. less f o l (Contains-here o os)))

    step : entries_at t (with_row es o) ++ map entry_of (rows_at t os) ≡ entries_at t es ++ map entry_of (rows_at t (o ∷ os))
    step =
        ⊎_elim
        (λ (e : o.time ≡ t). let b : (o.time == t) ≡ true = eq-eqb o.time t e in rw (here e, b) (append_assoc (entries_at t es) (entry_of o ∷ []) (map entry_of (rows_at t os))))
        (λ (e : (o.time < t) ⊎ (t < o.time)).
        let other : o.time ≡ t → ⊥ = λ same. ⊎_elim (λ (l : o.time < t). omega arith) (λ (l : t < o.time). omega arith) e in
        let b : (o.time == t) ≡ false = false_from_ne_true (o.time == t) (λ l. other (eqb-true o.time t l)) in
        rw (put_beside t (place_of o) o.value es other, b) refl)
        (cases_order o.time t)

lines_mapped : (os : List Output) → flat_map line_of (map entry_of os) ≡ lines_of os
lines_mapped [] = refl
lines_mapped (o ∷ os) = ap (λ (more : List ℕ). line_of (entry_of o) ++ more) (lines_mapped os)

pub lines_at : (t : ℕ) (os : List Output) → Pairs OutputsInOrder os → flat_map line_of (entries_at t (in_order os)) ≡ lines_of (rows_at t os)
lines_at t os h = ap (flat_map line_of) (along t os [] tt h (λ e o i j same. absurd (nothing_in_nil e i))) ∙ lines_mapped (rows_at t os)
