-- Which time is written next, by the rows and by the log.
use Rattle.std.proofs.Common.{◌≡◌, ◌⊎◌, ◌↔◌, ℕ, ◌<◌, ◌≤◌, false, List, [], ◌∷◌, All, Contains, IfSome, None, Option, Some, Result, Ok, Err, OnErr, refl, subst, inl, inr, ⊎_elim, arith}
use Rattle.std.proofs.lemmas.Bool.{both_ways, cases_Bool, false≢true}
use Rattle.mp_names.specs.declared.locations.Frontier.{Frontier}
use Rattle.mp_names.specs.declared.names.Name.{Name}
use Rattle.mp_names.specs.declared.names.Name.TheVariants.{Row, Written}
use Rattle.mp_names.specs.declared.names.Tag.{Tag}
use Rattle.mp_names.specs.Frontiers.{HasPassed}
use Rattle.mp_names.specs.Keeping.{IsUnwritten}
use Rattle.mp_names.specs.Logs.{Log}
use Rattle.mp_names.specs.Names.{In, IsLeast, Less, has}
use Rattle.mp_model.specs.declared.record.Output.{Output}
use Rattle.mp_msg.specs.Below.{Contains-here, nothing_in_nil}
use Rattle.mp_msg.specs.Below.{name_of_row}
use Rattle.mp_msg.specs.Below.{In_named, named_In}
use Rattle.mp_ordered.specs.InOrder.{IsInOrder}
use Rattle.mp_output.specs.Holding.{HoldsUnwritten}
use Rattle.mp_output.specs.Unwritten.{IsDue, place_rank}
use Rattle.mp_output.proofs.Held.{same_time}
use Rattle.mp_output.proofs.Times.{first_is_least, none_is_earlier, rows_by_time}

-- only times are written
only_written : (log : Log) (y : Name) → IsUnwritten log y → (s : ℕ) × (y ≡ Written s)
only_written log (Written s) h = (s, refl)
only_written log _ h = absurd h

less_written : (s t : ℕ) → Less (Written s) (Written t) → s < t
less_written s t h =
    ⊎_elim
    (λ (l : 6 < 6). absurd (omega arith))
    (λ (k : (6 ≡ 6) × ((s < t) ⊎ ((s ≡ t) × ⊥))). ⊎_elim (λ (l : s < t). l) (λ (e : (s ≡ t) × ⊥). absurd e.1) k.1)
    h

written_less : (s t : ℕ) → s < t → Less (Written s) (Written t)
written_less s t l = inr (refl, inl l)

-- a row of a time that isn't written is held
held_at : (log : Log) (rows : List Output) (t : ℕ) → HoldsUnwritten log rows → IsUnwritten log (Written t) → (x : Output) × Contains rows x × (x.time ≡ t)
held_at log rows t h u =
    let a = In_named name_of_row rows (Row t u.0.0) ((h.held t u.0.0).1 (u.0.1, u.1)) in
    (a.0, a.1, same_time a.0 t u.0.0 a.2)

-- the time of a row that is held isn't written
pub unwritten_at : (log : Log) (rows : List Output) → HoldsUnwritten log rows → (x : Output) → Contains rows x → IsUnwritten log (Written x.time)
unwritten_at log rows h x i = let a = (h.held x.time x.tag).0 (named_In name_of_row rows x i) in ((x.tag, a.0), a.1)

-- the time of the first row is the least that isn't written
first_unwritten : (log : Log) (x : Output) (xs : List Output) → IsInOrder place_rank (x ∷ xs) → HoldsUnwritten log (x ∷ xs) → IsLeast (IsUnwritten log) (Written x.time)
first_unwritten log x xs o h = (unwritten_at log (x ∷ xs) h x (Contains-here x xs), least)
  where
    least : (y : Name) → IsUnwritten log y → Less y (Written x.time) → ⊥
    least y u l =
        let w = only_written log y u in
        let a = held_at log (x ∷ xs) w.0 h (subst (λ (z : Name). IsUnwritten log z) w.1 u) in
        let less : w.0 < x.time = less_written w.0 x.time (subst (λ (z : Name). Less z (Written x.time)) w.1 l) in
        let low : x.time ≤ a.0.time = first_is_least x xs (rows_by_time (x ∷ xs) o) a.0 a.1 in
        let same : a.0.time ≡ w.0 = a.2 in
        omega arith

pub due_is_least : (log : Log) (f : Frontier) (rows : List Output) (t : ℕ) → IsInOrder place_rank rows → IsDue f rows t → HoldsUnwritten log rows → IsLeast (IsUnwritten log) (Written t)
due_is_least log f [] t o d h = absurd d
due_is_least log f (x ∷ xs) t o d h = subst (λ (s : ℕ). IsLeast (IsUnwritten log) (Written s)) d.0 (first_unwritten log x xs o h)

-- where no row is due the frontier hasn't passed the least time that isn't written
pub none_is_passed : (log : Log) (f : Frontier) (rows : List Output) (t : ℕ) → IsInOrder place_rank rows → ((u : ℕ) → IsDue f rows u → ⊥) → HoldsUnwritten log rows → IsLeast (IsUnwritten log) (Written t) → HasPassed f t → ⊥
none_is_passed log f [] t o none h l p = let a = held_at log [] t h l.0 in nothing_in_nil a.0 a.1
none_is_passed log f (x ∷ xs) t o none h l p =
    let a = held_at log (x ∷ xs) t h l.0 in
    let low : x.time ≤ a.0.time = first_is_least x xs (rows_by_time (x ∷ xs) o) a.0 a.1 in
    let same : a.0.time ≡ t = a.2 in
    let not_less : x.time < t → ⊥ = λ less. l.1 (Written x.time) (unwritten_at log (x ∷ xs) h x (Contains-here x xs)) (written_less x.time t less) in
    let first : x.time ≡ t = omega arith in
    none t (first, p)

-- no row is held exactly where each time of a row that was taken is written
pub all_written : (log : Log) (rows : List Output) → HoldsUnwritten log rows → (rows ≡ []) ↔ ((t : ℕ) (g : Tag) → In (Row t g) log.took → In (Written t) log.settled)
all_written log [] h = (λ e t g i. ⊎_elim (λ (k : In (Written t) log.settled). k) (λ (k : has log.settled (Written t) ≡ false). absurd (false≢true ((h.held t g).1 (i, k)))) (cases_Bool (has log.settled (Written t))), λ k. refl)
all_written log (x ∷ xs) h = (
  (λ e. absurd (nothing_in_nil x (subst (λ (ys : List Output). Contains ys x) e (Contains-here x xs)))),
  (λ k. let a = unwritten_at log (x ∷ xs) h x (Contains-here x xs) in absurd (both_ways (has log.settled (Written x.time)) a.1 (k x.time a.0.0 a.0.1))),
)

-- the time that is due is the least of all rows
pub due_is_first : (f : Frontier) (rows : List Output) (due : Option ℕ) → IsInOrder place_rank rows → IfSome due (IsDue f rows) → IfSome due (λ t. All (λ row. t ≤ row.time) rows)
due_is_first f rows None o h = tt
due_is_first f [] (Some t) o h = absurd h
due_is_first f (x ∷ xs) (Some t) o h = subst (λ (s : ℕ). All (λ row. s ≤ row.time) (x ∷ xs)) h.0 (none_is_earlier x xs o)

-- and isn't written
pub due_unwritten : (log : Log) (f : Frontier) (rows : List Output) (t : ℕ) → IsDue f rows t → HoldsUnwritten log rows → has log.settled (Written t) ≡ false
due_unwritten log f [] t d h = absurd d
due_unwritten log f (x ∷ xs) t d h = subst (λ (s : ℕ). has log.settled (Written s) ≡ false) d.0 (unwritten_at log (x ∷ xs) h x (Contains-here x xs)).1

-- what holds, holds at an error
pub on_err : {T E A : Type 0} (r : Result T E) → A → OnErr r A
on_err (Ok x) a = tt
on_err (Err e) a = a
