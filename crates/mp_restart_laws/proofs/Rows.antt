-- The rows of the answer in order: those below a time stand in front, and those from it on are the rows that later outputs make.
use Rattle.std.proofs.Common.{◌≡◌, ℕ, ◌<◌, ◌≤◌, Bool, true, false, cond, nat_lt, List, [], ◌∷◌, ◌++◌, filter, flat_map, fold, Contains, refl, sym, ap, ◌∙◌, ⊎_elim, arith}
use Rattle.std.specs.BTreeMap.{insert_entry}
use Rattle.std.specs.Ordering.{match_ordering}
use Rattle.std.specs.declared.cmp.Ordering.{Ordering}
use Rattle.std.specs.declared.cmp.Ordering.TheVariants.{Less, Equal, Greater}
use Rattle.std.proofs.lemmas.Bool.{both_ways, cases_lt, le-ltb, lt-ltb, ltb-false, ltb-true}
use Rattle.std.proofs.lemmas.Grind.{flat_map-append}
use Rattle.mp_model.specs.declared.record.Output.{Output}
use Rattle.mp_model.specs.declared.record.Place.{Place}
use Rattle.mp_model.specs.declared.value.Value.{Value}
use Rattle.mp_model.specs.Answers.{in_order, line_of, place_cmp, with_row}
use Rattle.mp_restart_laws.specs.Times.{is_from, outputs_below, outputs_from}
use Rattle.mp_output.proofs.ByTime.{IsByTime, Rows, TimesTold, put_by_time, times_told}
use Rattle.mp_restart_laws.proofs.Lists.{filter_all, filter_none}
use Rattle.mp_job.proofs.Members.{Contains-cases}
use Rattle.mp_restart_laws.proofs.Split.{from_above, from_told}

abbrev pub rows_below : ℕ → Rows → Rows
rows_below t es = filter (λ e. nat_lt e.0.time t) es

abbrev pub rows_from : ℕ → Rows → Rows
rows_from t es = filter (λ e. is_from t e.0.time) es

-- the outputs' rows stand by their times
pub in_order_by_time : (outputs : List Output) (es : Rows) → IsByTime es → IsByTime (fold with_row es outputs)
in_order_by_time [] es h = h
in_order_by_time (o ∷ os) es h = in_order_by_time os (with_row es o) (put_by_time (record { time = o.time; tag = o.tag }) o.value es h)

-- rows that stand by their times are those below a time, and then those from it on
pub rows_in_parts : (t : ℕ) (es : Rows) → IsByTime es → rows_below t es ++ rows_from t es ≡ es
rows_in_parts t [] h = refl
rows_in_parts t (d ∷ es) h =
    ⊎_elim
    (λ (l : d.0.time < t).
    let a : nat_lt d.0.time t ≡ true = lt-ltb d.0.time t l in
    rw a (ap (λ (fs : Rows). d ∷ fs) (rows_in_parts t es h.1)))
    (λ (l : t ≤ d.0.time).
    let none = filter_none (λ (e : Place × Value). nat_lt e.0.time t) (d ∷ es) (λ e i. le-ltb e.0.time t (later l e i)) in
    let all = filter_all (λ (e : Place × Value). is_from t e.0.time) (d ∷ es) (λ e i. from_above t e.0.time (later l e i)) in
    (λ i. none i ++ all i))
    (cases_lt d.0.time t)
  where
    later : t ≤ d.0.time → (e : Place × Value) → Contains (d ∷ es) e → t ≤ e.0.time
    later l e i = ⊎_elim (λ (s : d ≡ e). let m : d.0.time ≡ e.0.time = ap (λ (f : Place × Value). f.0.time) s in omega arith) (λ (k : Contains es e). let m : d.0.time ≤ e.0.time = h.0 e k in omega arith) (Contains-cases d e es i)

-- one more row: where it is of an earlier time the later rows stay as they are
put_from : (t : ℕ) (p : Place) (v : Value) (es : Rows) → rows_from t (insert_entry place_cmp es p v) ≡ cond (is_from t p.time) (insert_entry place_cmp (rows_from t es) p v) (rows_from t es)
put_from t p v [] = refl
put_from t p v (d ∷ es) = pick (place_cmp p d.0) refl (times_told p d.0) (is_from t p.time) (is_from t d.0.time) refl refl (put_from t p v es)
  where
    rest : Rows
    rest = rows_from t es

    apart : {A : Type 0} (m n : ℕ) → m ≤ n → is_from t m ≡ true → is_from t n ≡ false → A
    apart m n l a b = let k : t ≤ m = from_told t m a in absurd (both_ways (is_from t n) b (from_above t n (omega arith)))

    pick : (c : Ordering) → place_cmp p d.0 ≡ c → TimesTold c p.time d.0.time → (a b : Bool) → is_from t p.time ≡ a → is_from t d.0.time ≡ b
        → rows_from t (insert_entry place_cmp es p v) ≡ cond (is_from t p.time) (insert_entry place_cmp (rows_from t es) p v) (rows_from t es)
        → rows_from t (match_ordering c ((p, v) ∷ d ∷ es) ((d.0, v) ∷ es) (d ∷ insert_entry place_cmp es p v)) ≡ cond (is_from t p.time) (insert_entry place_cmp (rows_from t (d ∷ es)) p v) (rows_from t (d ∷ es))
    pick Less k l true true e f r = rw (e, f, k) refl
    pick Less k l true false e f r = apart p.time d.0.time l e f
    pick Less k l false b e f r = rw e refl
    pick Equal k l true true e f r = rw (e, f, k) refl
    pick Equal k l true false e f r = let same : p.time ≡ d.0.time = l in apart p.time d.0.time (omega arith) e f
    pick Equal k l false true e f r = let same : p.time ≡ d.0.time = l in apart d.0.time p.time (omega arith) f e
    pick Equal k l false false e f r = rw (e, f) refl
    pick Greater k l true true e f r = rw (e, f, k) (ap (λ (fs : Rows). d ∷ fs) (rw e at r))
    pick Greater k l true false e f r = rw (e, f) (rw e at r)
    pick Greater k l false true e f r = rw (e, f) (ap (λ (fs : Rows). d ∷ fs) (rw e at r))
    pick Greater k l false false e f r = rw (e, f) (rw e at r)

-- the rows from a time on are those that the outputs from it on make
pub rows_from_outputs : (t : ℕ) (outputs : List Output) (es : Rows) → rows_from t (fold with_row es outputs) ≡ fold with_row (rows_from t es) (outputs_from t outputs)
rows_from_outputs t [] es = refl
rows_from_outputs t (o ∷ os) es =
    rows_from_outputs t os (with_row es o)
    ∙ ap (λ (fs : Rows). fold with_row fs (outputs_from t os)) (put_from t (record { time = o.time; tag = o.tag }) o.value es)
    ∙ taken (is_from t o.time)
  where
    taken : (b : Bool) → fold with_row (cond b (with_row (rows_from t es) o) (rows_from t es)) (outputs_from t os) ≡ fold with_row (rows_from t es) (cond b (o ∷ outputs_from t os) (outputs_from t os))
    taken true = refl
    taken false = refl

-- the lines of the rows below a time, and then those of the later outputs, are the lines of all
pub lines_in_parts : (t : ℕ) (outputs : List Output) → flat_map line_of (rows_below t (in_order outputs)) ++ flat_map line_of (in_order (outputs_from t outputs)) ≡ flat_map line_of (in_order outputs)
lines_in_parts t outputs =
    ap (λ (es : Rows). flat_map line_of (rows_below t (in_order outputs)) ++ flat_map line_of es) (sym (rows_from_outputs t outputs []))
    ∙ sym (flat_map-append line_of (rows_below t (in_order outputs)) (rows_from t (in_order outputs)))
    ∙ ap (flat_map line_of) (rows_in_parts t (in_order outputs) (in_order_by_time outputs [] tt))

-- the same of the rows below a time, where they stand by their times
put_below : (t : ℕ) (p : Place) (v : Value) (es : Rows) → IsByTime es → rows_below t (insert_entry place_cmp es p v) ≡ cond (nat_lt p.time t) (insert_entry place_cmp (rows_below t es) p v) (rows_below t es)
put_below t p v [] h = refl
put_below t p v (d ∷ es) h = pick (place_cmp p d.0) refl (times_told p d.0) (nat_lt p.time t) (nat_lt d.0.time t) refl refl (put_below t p v es h.1)
  where
    apart : {A : Type 0} (m n : ℕ) → m ≤ n → nat_lt n t ≡ true → nat_lt m t ≡ false → A
    apart m n l a b = let j : n < t = ltb-true n t a in let k : t ≤ m = ltb-false m t b in absurd (omega arith)

    none : nat_lt d.0.time t ≡ false → rows_below t es ≡ []
    none f = filter_none (λ (e : Place × Value). nat_lt e.0.time t) es (λ e i. let k : t ≤ d.0.time = ltb-false d.0.time t f in let l : d.0.time ≤ e.0.time = h.0 e i in le-ltb e.0.time t (omega arith))

    pick : (c : Ordering) → place_cmp p d.0 ≡ c → TimesTold c p.time d.0.time → (a b : Bool) → nat_lt p.time t ≡ a → nat_lt d.0.time t ≡ b
        → rows_below t (insert_entry place_cmp es p v) ≡ cond (nat_lt p.time t) (insert_entry place_cmp (rows_below t es) p v) (rows_below t es)
        → rows_below t (match_ordering c ((p, v) ∷ d ∷ es) ((d.0, v) ∷ es) (d ∷ insert_entry place_cmp es p v)) ≡ cond (nat_lt p.time t) (insert_entry place_cmp (rows_below t (d ∷ es)) p v) (rows_below t (d ∷ es))
    pick Less k l true true e f r = rw (e, f, k) refl
    pick Less k l true false e f r = rw (e, f, none f) refl
    pick Less k l false true e f r = apart p.time d.0.time l f e
    pick Less k l false false e f r = rw (e, f) refl
    pick Equal k l true true e f r = rw (e, f, k) refl
    pick Equal k l true false e f r = let same : p.time ≡ d.0.time = l in apart d.0.time p.time (omega arith) e f
    pick Equal k l false true e f r = let same : p.time ≡ d.0.time = l in apart p.time d.0.time (omega arith) f e
    pick Equal k l false false e f r = rw (e, f) refl
    pick Greater k l true true e f r = rw (e, f, k) (ap (λ (fs : Rows). d ∷ fs) (rw e at r))
    pick Greater k l true false e f r = apart d.0.time p.time l e f
    pick Greater k l false true e f r = rw (e, f) (ap (λ (fs : Rows). d ∷ fs) (rw e at r))
    pick Greater k l false false e f r = rw (e, f) (rw e at r)

rows_below_outputs : (t : ℕ) (outputs : List Output) (es : Rows) → IsByTime es → rows_below t (fold with_row es outputs) ≡ fold with_row (rows_below t es) (outputs_below t outputs)
rows_below_outputs t [] es h = refl
rows_below_outputs t (o ∷ os) es h =
    let p : Place = record { time = o.time; tag = o.tag } in
    rows_below_outputs t os (with_row es o) (put_by_time p o.value es h)
    ∙ ap (λ (fs : Rows). fold with_row fs (outputs_below t os)) (put_below t p o.value es h)
    ∙ taken (nat_lt o.time t)
  where
    taken : (b : Bool) → fold with_row (cond b (with_row (rows_below t es) o) (rows_below t es)) (outputs_below t os) ≡ fold with_row (rows_below t es) (cond b (o ∷ outputs_below t os) (outputs_below t os))
    taken true = refl
    taken false = refl

-- the outputs below a time make the rows below it
pub rows_of_outputs_below : (t : ℕ) (outputs : List Output) → in_order (outputs_below t outputs) ≡ rows_below t (in_order outputs)
rows_of_outputs_below t outputs = sym (rows_below_outputs t outputs [] tt)
