-- The names of the rows that are held, as rows come and as those of a time go.
use Rattle.std.proofs.Common.{◌≡◌, ◌⊎◌, ◌↔◌, ℕ, ◌==◌, Bool, true, false, cond, not, List, [], ◌∷◌, ◌++◌, filter, map, All, Result, Ok, Err, OnErr, OnOk, sym, ap, ◌∙◌, subst, inl, inr, ⊎_elim}
use Rattle.std.proofs.lemmas.Bool.{both_ways, eq-eqb, eqb-true, false≢true, false_from_ne_true}
use Rattle.std.specs.declared.alloc.AllocError.{AllocError}
use Rattle.mp_names.specs.declared.names.Name.{Name}
use Rattle.mp_names.specs.declared.names.Name.TheVariants.{Row, Written}
use Rattle.mp_names.specs.declared.names.Tag.{Tag}
use Rattle.mp_names.specs.Logs.{Log, empty_log, with_settled, with_took}
use Rattle.mp_names.specs.Names.{Distinct, In, has, is_before}
use Rattle.mp_names.proofs.Lists.{In_here, In_later, In_cases, In_left, In_push, In_right}
use Rattle.mp_names.proofs.NameParts.{same_row, same_written}
use Rattle.mp_model.specs.declared.record.Output.{Output}
use Rattle.mp_msg.specs.Below.{Contains-filter, filter-Contains}
use Rattle.mp_msg.specs.Below.{name_of_row}
use Rattle.mp_msg.specs.Below.{In_named, named_In}
use Rattle.mp_ordered.specs.InOrder.{put_in_order}
use Rattle.mp_ordered.proofs.Placing.{put_all}
use Rattle.mp_output.specs.Holding.{HoldsUnwritten}
use Rattle.mp_output.specs.Unwritten.{place_rank, rows_beside}

-- the name of a row tells its time and tag
pub same_time : (x : Output) (t : ℕ) (g : Tag) → name_of_row x ≡ Row t g → x.time ≡ t
same_time x t g e = (same_row x.time t x.tag g e).0

pub same_row_tag : (x : Output) (t : ℕ) (g : Tag) → name_of_row x ≡ Row t g → x.tag ≡ g
same_row_tag x t g e = (same_row x.time t x.tag g e).1

-- Rows that come

-- a name is there once the row is put exactly where it is the row's or was there
put_In : (n : Name) (x : Output) (ys : List Output) → In n (map name_of_row (put_in_order place_rank x ys)) → (name_of_row x ≡ n) ⊎ In n (map name_of_row ys)
put_In n x [] h = In_cases n (name_of_row x) [] h
put_In n x (y ∷ ys) h = pick (put_In n x ys) (is_before (place_rank y) (place_rank x)) h
  where
    behind : (In n (map name_of_row (put_in_order place_rank x ys)) → (name_of_row x ≡ n) ⊎ In n (map name_of_row ys)) → In n (name_of_row y ∷ map name_of_row (put_in_order place_rank x ys)) → (name_of_row x ≡ n) ⊎ In n (name_of_row y ∷ map name_of_row ys)
    behind rest i =
        ⊎_elim
        (λ (e : name_of_row y ≡ n). inr (subst (λ (m : Name). In m (name_of_row y ∷ map name_of_row ys)) e (In_here (name_of_row y) (map name_of_row ys))))
        (λ (k : In n (map name_of_row (put_in_order place_rank x ys))).
        ⊎_elim
        (λ (e : name_of_row x ≡ n). inl e)
        (λ (l : In n (map name_of_row ys)). inr (In_later n (name_of_row y) (map name_of_row ys) l))
        (rest k))
        (In_cases n (name_of_row y) (map name_of_row (put_in_order place_rank x ys)) i)

    pick : (In n (map name_of_row (put_in_order place_rank x ys)) → (name_of_row x ≡ n) ⊎ In n (map name_of_row ys)) → (b : Bool) → In n (map name_of_row (cond b (y ∷ put_in_order place_rank x ys) (x ∷ y ∷ ys))) → (name_of_row x ≡ n) ⊎ In n (name_of_row y ∷ map name_of_row ys)
    pick rest true i = behind rest i
    pick rest false i = In_cases n (name_of_row x) (name_of_row y ∷ map name_of_row ys) i

In_put : (n : Name) (x : Output) (ys : List Output) → (name_of_row x ≡ n) ⊎ In n (map name_of_row ys) → In n (map name_of_row (put_in_order place_rank x ys))
In_put n x [] h = ⊎_elim (λ (e : name_of_row x ≡ n). subst (λ (m : Name). In m (name_of_row x ∷ [])) e (In_here (name_of_row x) [])) (λ (i : In n []). absurd (false≢true i)) h
In_put n x (y ∷ ys) h = pick (In_put n x ys) (is_before (place_rank y) (place_rank x))
  where
    in_front : In n (name_of_row x ∷ name_of_row y ∷ map name_of_row ys)
    in_front = ⊎_elim (λ (e : name_of_row x ≡ n). subst (λ (m : Name). In m (name_of_row x ∷ name_of_row y ∷ map name_of_row ys)) e (In_here (name_of_row x) (name_of_row y ∷ map name_of_row ys))) (λ (i : In n (name_of_row y ∷ map name_of_row ys)). In_later n (name_of_row x) (name_of_row y ∷ map name_of_row ys) i) h

    behind : ((name_of_row x ≡ n) ⊎ In n (map name_of_row ys) → In n (map name_of_row (put_in_order place_rank x ys))) → In n (name_of_row y ∷ map name_of_row (put_in_order place_rank x ys))
    behind rest =
        ⊎_elim
        (λ (e : name_of_row x ≡ n). In_later n (name_of_row y) (map name_of_row (put_in_order place_rank x ys)) (rest (inl e)))
        (λ (i : In n (name_of_row y ∷ map name_of_row ys)).
        ⊎_elim
        (λ (e : name_of_row y ≡ n). subst (λ (m : Name). In m (name_of_row y ∷ map name_of_row (put_in_order place_rank x ys))) e (In_here (name_of_row y) (map name_of_row (put_in_order place_rank x ys))))
        (λ (k : In n (map name_of_row ys)). In_later n (name_of_row y) (map name_of_row (put_in_order place_rank x ys)) (rest (inr k)))
        (In_cases n (name_of_row y) (map name_of_row ys) i))
        h

    pick : ((name_of_row x ≡ n) ⊎ In n (map name_of_row ys) → In n (map name_of_row (put_in_order place_rank x ys))) → (b : Bool) → In n (map name_of_row (cond b (y ∷ put_in_order place_rank x ys) (x ∷ y ∷ ys)))
    pick rest true = behind rest
    pick rest false = in_front

-- a row that isn't there is put once
put_once : (x : Output) (ys : List Output) → has (map name_of_row ys) (name_of_row x) ≡ false → Distinct (map name_of_row ys) → Distinct (map name_of_row (put_in_order place_rank x ys))
put_once x [] h d = (h, d)
put_once x (y ∷ ys) h d = pick (λ absent. put_once x ys absent d.1) (is_before (place_rank y) (place_rank x))
  where
    other : name_of_row x ≡ name_of_row y → ⊥
    other e = both_ways (has (map name_of_row (y ∷ ys)) (name_of_row x)) h (subst (λ (n : Name). In n (map name_of_row (y ∷ ys))) (sym e) (In_here (name_of_row y) (map name_of_row ys)))

    absent : has (map name_of_row ys) (name_of_row x) ≡ false
    absent = false_from_ne_true (has (map name_of_row ys) (name_of_row x)) (λ i. both_ways (has (map name_of_row (y ∷ ys)) (name_of_row x)) h (In_later (name_of_row x) (name_of_row y) (map name_of_row ys) i))

    y_once : has (map name_of_row (put_in_order place_rank x ys)) (name_of_row y) ≡ false
    y_once = false_from_ne_true (has (map name_of_row (put_in_order place_rank x ys)) (name_of_row y)) (λ i. ⊎_elim (λ (e : name_of_row x ≡ name_of_row y). other e) (λ (k : In (name_of_row y) (map name_of_row ys)). both_ways (has (map name_of_row ys) (name_of_row y)) d.0 k) (put_In (name_of_row y) x ys i))

    pick : (has (map name_of_row ys) (name_of_row x) ≡ false → Distinct (map name_of_row (put_in_order place_rank x ys))) → (b : Bool) → Distinct (map name_of_row (cond b (y ∷ put_in_order place_rank x ys) (x ∷ y ∷ ys)))
    pick rest true = (y_once, rest absent)
    pick rest false = (h, d)

-- nothing is held of an empty log
pub none_held : (rows : List Output) → rows ≡ [] → HoldsUnwritten empty_log rows
none_held rows e = record {
  held = λ t g. ((λ i. absurd (false≢true (subst (λ (ys : List Output). In (Row t g) (map name_of_row ys)) e i))), (λ k. absurd (false≢true k.0)));
  once = subst (λ (ys : List Output). Distinct (map name_of_row ys)) (sym e) tt;
}

-- a row that is taken for the first time, of a time that isn't written, is held
received_held : (log : Log) (x : Output) (ys new : List Output) → new ≡ put_in_order place_rank x ys → HoldsUnwritten log ys → has log.took (name_of_row x) ≡ false → has log.settled (Written x.time) ≡ false → HoldsUnwritten (with_took log (name_of_row x)) new
received_held log x ys new same h fresh unwritten = subst (λ (rows : List Output). HoldsUnwritten (with_took log (name_of_row x)) rows) (sym same) (record {
  held = λ t g. (there t g, back t g);
  once = put_once x ys (false_from_ne_true (has (map name_of_row ys) (name_of_row x)) (λ i. both_ways (has log.took (name_of_row x)) fresh ((h.held x.time x.tag).0 i).0)) h.once;
})
  where
    there : (t : ℕ) (g : Tag) → In (Row t g) (map name_of_row (put_in_order place_rank x ys)) → In (Row t g) (log.took ++ name_of_row x ∷ []) × (has log.settled (Written t) ≡ false)
    there t g i =
        ⊎_elim
        (λ (e : name_of_row x ≡ Row t g). (
          subst (λ (n : Name). In n (log.took ++ name_of_row x ∷ [])) e (In_right (name_of_row x) log.took (name_of_row x ∷ []) (In_here (name_of_row x) [])),
          subst (λ (s : ℕ). has log.settled (Written s) ≡ false) (same_time x t g e) unwritten,
        ))
        (λ (k : In (Row t g) (map name_of_row ys)). let a = (h.held t g).0 k in (In_left (Row t g) log.took (name_of_row x ∷ []) a.0, a.1))
        (put_In (Row t g) x ys i)

    back : (t : ℕ) (g : Tag) → In (Row t g) (log.took ++ name_of_row x ∷ []) × (has log.settled (Written t) ≡ false) → In (Row t g) (map name_of_row (put_in_order place_rank x ys))
    back t g i =
        In_put
        (Row t g)
        x
        ys
        (⊎_elim
        (λ (k : In (Row t g) log.took). inr ((h.held t g).1 (k, i.1)))
        (λ (e : name_of_row x ≡ Row t g). inl e)
        (In_push (Row t g) (name_of_row x) log.took i.0))

pub held_once_received : (x : Output) (ys new : List Output) (r : Result (Unit {0}) AllocError) → OnOk r (new ≡ put_in_order place_rank x ys) → OnOk r ((log : Log) → HoldsUnwritten log ys → has log.took (name_of_row x) ≡ false → has log.settled (Written x.time) ≡ false → HoldsUnwritten (with_took log (name_of_row x)) new)
held_once_received x ys new (Ok u) put = λ log h fresh unwritten. received_held log x ys new put h fresh unwritten
held_once_received x ys new (Err e) put = tt

-- all rows are the answer's, before and after a row came
pub all_received : (P : Output → Type 0) (x : Output) (ys new : List Output) (r : Result (Unit {0}) AllocError) → OnOk r (new ≡ put_in_order place_rank x ys) → OnErr r (new ≡ ys) → P x → All P ys → All P new
all_received P x ys new (Ok u) put kept h k = subst (All P) (sym put) (put_all place_rank P x ys h k)
all_received P x ys new (Err e) put kept h k = subst (All P) (sym kept) k

-- Rows that go

-- a row of another time is held as before
beside_held : (log : Log) (t : ℕ) (rows : List Output) → HoldsUnwritten log rows → (s : ℕ) (g : Tag) → In (Row s g) (map name_of_row (rows_beside t rows)) ↔ (In (Row s g) log.took × (has (log.settled ++ Written t ∷ []) (Written s) ≡ false))
beside_held log t rows h s g = (there, back)
  where
    there : In (Row s g) (map name_of_row (rows_beside t rows)) → In (Row s g) log.took × (has (log.settled ++ Written t ∷ []) (Written s) ≡ false)
    there i =
        let a = In_named name_of_row (rows_beside t rows) (Row s g) i in
        let b = Contains-filter (λ (row : Output). not (row.time == t)) rows a.0 a.1 in
        let c = (h.held s g).0 (subst (λ (n : Name). In n (map name_of_row rows)) a.2 (named_In name_of_row rows a.0 b.0)) in
        let other : s ≡ t → ⊥ = λ e. false≢true (sym (ap not (eq-eqb a.0.time t (same_time a.0 s g a.2 ∙ e))) ∙ b.1) in (
          c.0,
          false_from_ne_true (has (log.settled ++ Written t ∷ []) (Written s)) (λ k. ⊎_elim (λ (l : In (Written s) log.settled). both_ways (has log.settled (Written s)) c.1 l) (λ (e : Written t ≡ Written s). other (sym (same_written t s e))) (In_push (Written s) (Written t) log.settled k)),
        )

    back : In (Row s g) log.took × (has (log.settled ++ Written t ∷ []) (Written s) ≡ false) → In (Row s g) (map name_of_row (rows_beside t rows))
    back i =
        let unwritten = false_from_ne_true (has log.settled (Written s)) (λ k. both_ways (has (log.settled ++ Written t ∷ []) (Written s)) i.1 (In_left (Written s) log.settled (Written t ∷ []) k)) in
        let a = In_named name_of_row rows (Row s g) ((h.held s g).1 (i.0, unwritten)) in
        let time : a.0.time ≡ s = same_time a.0 s g a.2 in
        let other = false_from_ne_true (a.0.time == t) (λ e. both_ways (has (log.settled ++ Written t ∷ []) (Written s)) i.1 (subst (λ (u : ℕ). In (Written u) (log.settled ++ Written t ∷ [])) (sym (eqb-true a.0.time t e) ∙ time) (In_right (Written t) log.settled (Written t ∷ []) (In_here (Written t) [])))) in
        subst (λ (n : Name). In n (map name_of_row (rows_beside t rows))) a.2 (named_In name_of_row (rows_beside t rows) a.0 (filter-Contains (λ (row : Output). not (row.time == t)) rows a.0 a.1 (ap not other)))

-- those that a test keeps stand once
filter_once : (p : Output → Bool) (rows : List Output) → Distinct (map name_of_row rows) → Distinct (map name_of_row (filter p rows))
filter_once p [] h = tt
filter_once p (x ∷ xs) h = pick (filter_once p xs h.1) (p x)
  where
    absent : has (map name_of_row (filter p xs)) (name_of_row x) ≡ false
    absent = false_from_ne_true (has (map name_of_row (filter p xs)) (name_of_row x)) (λ i. let a = In_named name_of_row (filter p xs) (name_of_row x) i in both_ways (has (map name_of_row xs) (name_of_row x)) h.0 (subst (λ (n : Name). In n (map name_of_row xs)) a.2 (named_In name_of_row xs a.0 (Contains-filter p xs a.0 a.1).0)))

    pick : Distinct (map name_of_row (filter p xs)) → (b : Bool) → Distinct (map name_of_row (cond b (x ∷ filter p xs) (filter p xs)))
    pick rest true = (absent, rest)
    pick rest false = rest

-- once a time is written the rows of the others are held
pub written_held : (log : Log) (t : ℕ) (rows new : List Output) → new ≡ rows_beside t rows → HoldsUnwritten log rows → HoldsUnwritten (with_settled log (Written t)) new
written_held log t rows new same h = subst (λ (ys : List Output). HoldsUnwritten (with_settled log (Written t)) ys) (sym same) (record {
  held = λ s g. beside_held log t rows h s g;
  once = filter_once (λ (row : Output). not (row.time == t)) rows h.once;
})
