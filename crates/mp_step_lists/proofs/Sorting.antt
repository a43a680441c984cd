-- What a stable sort by time leaves, and what a search by halving finds.
use Rattle.std.proofs.Common.{◌≡◌, ◌∙◌, ◌==◌, ◌&&◌, ◌-◌, ◌≤◌, ℕ, ◌<◌, nat_lt, not, Bool, true, false, List, Some, None, filter, get_or, length, sym, ap, ⊎_elim, arith}
use Rattle.std.specs.List.Sorted.{IsNonDecreasingBy, IsPartitionPoint, IsStableByKey}
use Rattle.std.specs.Ordering.{is_lt, nat_cmp}
use Rattle.std.proofs.lemmas.Bool.{cases_lt, ltb-false, ltb-true}
use Rattle.std.proofs.lemmas.Bool.Decides.{nat_tests}
use Rattle.std.proofs.lemmas.List.{get_or_default}
use Rattle.mp_names.specs.declared.names.Name.TheVariants.{Ctrl}
use Rattle.mp_chart.specs.declared.entry.Entry.{Entry}
use Rattle.mp_step_lists.specs.Controls.{IsLatestBelow}
use Rattle.mp_step_lists.proofs.Filters.{filter_agree}

abbrev pub time_of_entry : Entry → ℕ
time_of_entry e = e.time

tie_is : (t u : ℕ) → (not (is_lt (nat_cmp t u)) && not (is_lt (nat_cmp u t))) ≡ (u == t)
tie_is t u = grind (arith, nat_tests)

-- those of one time stand as they did
pub stays_at : (old new : List Entry) → IsStableByKey time_of_entry nat_cmp old new → (t : ℕ) → filter (λ e. e.time == t) new ≡ filter (λ e. e.time == t) old
stays_at old new stable t =
    let like : Entry = record { name = Ctrl 0 0; time = t; receiver = 0 } in
    let tie : Entry → Bool = λ (e : Entry). not (is_lt (nat_cmp t e.time)) && not (is_lt (nat_cmp e.time t)) in
    let is : (e : Entry) → tie e ≡ (e.time == t) = λ (e : Entry). tie_is t e.time in
    sym (filter_agree tie (λ (e : Entry). e.time == t) is new) ∙ stable like ∙ filter_agree tie (λ (e : Entry). e.time == t) is old

module _ (es : List Entry) (t n : ℕ) (rising : IsNonDecreasingBy (λ e. e.time) es) (inside : n ≤ length es) (point : IsPartitionPoint (λ (e : Entry). nat_lt e.time t ≡ true) (λ (e : Entry). nat_lt e.time t ≡ false) es n) where
  -- all are at or after the time
  pub none_before : (1 ≤ n → ⊥) → IsLatestBelow es t None
  none_before none = λ k d l. ltb-false (get_or es k d).time t (point.1 k d (let m : n ≤ k = ⊎_elim (λ (h : n < 1). omega arith) (λ (h : 1 ≤ n). absurd (none h)) (cases_lt n 1) in m) l)

  -- the last of those before it has the greatest time
  pub last_before : (last : ℕ) (x : Entry) → 1 ≤ n → last ≡ n - 1 → IsLatestBelow es t (Some (get_or es last x).time)
  last_before last x some is = (
    ltb-true (get_or es last x).time t (point.0 last x (omega arith) (omega arith)),
    (last, (omega arith), (λ d. ap time_of_entry (get_or_default es last d x (omega arith)))),
    (λ k d l less.
        ⊎_elim
        (λ (h : k < n).
        let e = ap time_of_entry (get_or_default es last d x (omega arith)) in
        let r = rising k last d (omega arith) (omega arith) in
        omega arith)
        (λ (h : n ≤ k). let late = ltb-false (get_or es k d).time t (point.1 k d h l) in absurd (omega arith))
        (cases_lt k n)),
  )
