-- A query begins with fresh cells and nothing to be woken, so its groups are those of records and of their posts, and its sums fit.
use Rattle.std.proofs.Common.{◌≡◌, ◌≤◌, ◌==◌, ◌||◌, ◌++◌, ℕ, false, List, None, [], All, map, filter, sym, ap, subst, rules}
use Rattle.std.specs.List.{list_any}
use Rattle.std.proofs.lemmas.List.Elements.{All-nil}
use Rattle.mp_names.specs.Limits.{last_time}
use Rattle.mp_model.specs.declared.record.Event.{Event}
use Rattle.mp_model.specs.declared.record.Rec.{Rec}
use Rattle.mp_model.specs.Ascending.{ascending}
use Rattle.mp_model.specs.Facts.{JobFacts, QueryFacts}
use Rattle.mp_model.specs.Folds.{entries_of, entry_at, is_woken, keys_in, keys_of, times_in}
use Rattle.mp_model.specs.Legal.{EventsAreLegal}
use Rattle.mp_model.specs.QueryLaws.{BeginsFresh, SumsFit, WakesAreInTime}
use Rattle.mp_model.specs.Stages.{FoldsFit}
use Rattle.mp_model.specs.Tables.{table_of}

module _ {Cell : Type 0} (q : QueryFacts Cell) (fresh : BeginsFresh q) where
  pub opening_is : (j k : ℕ) → q.opening j k ≡ q.fresh j
  opening_is j k = ap (λ (opening : ℕ → ℕ → Cell). opening j k) fresh.0

  nothing_waits : (j : ℕ) → q.waking j ≡ []
  nothing_waits j = ap (λ (waking : ℕ → List (ℕ × ℕ)). waking j) fresh.1

  pub wakes_in_time : (j : ℕ) → WakesAreInTime q j
  wakes_in_time j = subst (λ (ws : List (ℕ × ℕ)). All (λ w. w.0 ≤ last_time) ws) (sym (nothing_waits j)) (All-nil (λ (w : ℕ × ℕ). w.0 ≤ last_time))

  -- the keys are those of records
  pub keys_are : (j : ℕ) (rs : List Rec) → keys_in q j rs ≡ keys_of rs
  keys_are j rs = ap (λ (ws : List (ℕ × ℕ)). ascending (map (λ (w : ℕ × ℕ). w.1) ws ++ map (λ (r : Rec). r.key) rs)) (nothing_waits j)

  -- the times of a key are those of its records and of their posts
  pub entries_are : (j k : ℕ) (own : List Rec) → entries_of q j k own ≡ map (entry_at q j k own) (ascending (times_in q j own))
  entries_are j k own =
      ap (λ (ws : List (ℕ × ℕ)). map (entry_at q j k own) (ascending (map (λ (w : ℕ × ℕ). w.0) (filter (λ (w : ℕ × ℕ). w.1 == k) ws) ++ times_in q j own))) (nothing_waits j)

  -- a time is woken where a record posts it
  pub woken_is : (j k : ℕ) (rs : List Rec) (t : ℕ) → is_woken q j k rs t ≡ list_any (λ r. list_any (λ u. u == t) (q.posts j r)) rs
  woken_is j k rs t =
      ap (λ (ws : List (ℕ × ℕ)). list_any (λ u. u == t) (map (λ (w : ℕ × ℕ). w.0) (filter (λ (w : ℕ × ℕ). w.1 == k) ws)) || list_any (λ r. list_any (λ u. u == t) (q.posts j r)) rs) (nothing_waits j)

-- a job of these numbers and events that neither stops early nor goes on
whole_job : List ℕ → List Event → JobFacts
whole_job vs events = record {
  values = vs;
  events = events;
  controls = [];
  shape = record { workers = 1; bins = 1; stages = 1 };
  firsts = [];
  paced = false;
  until = None;
  from = None;
}

module _ {Cell : Type 0} (facts : List ℕ → QueryFacts Cell) (vs : List ℕ) where
  whole_table : (events : List Event) → BeginsFresh (facts vs) → table_of facts (whole_job vs events) ≡ facts vs
  unfolding whole_job
  whole_table events fresh = search rules

  -- the sums of each stage of the query itself fit
  pub its_sums_fit : (events : List Event) → SumsFit facts → BeginsFresh (facts vs) → EventsAreLegal events → FoldsFit (facts vs) events
  unfolding whole_job
  its_sums_fit events fits fresh legal = subst (λ (q : QueryFacts Cell). FoldsFit q events) (whole_table events fresh) (fits (whole_job vs events) legal tt)
