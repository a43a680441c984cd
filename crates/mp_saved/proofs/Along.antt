-- What holds of the cells of a key, of any query: along its groups, one after the other, with how many records they have.
use Rattle.std.proofs.Common.{ℕ, ◌≡◌, ◌+◌, ◌<◌, ◌≤◌, ◌==◌, ◌++◌, Bool, true, false, cond, nat_lt, List, [], ◌∷◌, All, length, map, take_while, arith, slice_index_or, refl}
use Rattle.std.specs.List.{flat_map}
use Rattle.std.proofs.lemmas.Bool.{eqb-true, ltb-true}
use Rattle.std.proofs.lemmas.List.{length-append}
use Rattle.std.proofs.lemmas.List.Folds.{flat_map-map}
use Rattle.std.proofs.lemmas.List.Elements.{All-head, All-map, All-tail, All-weaker, filter_passes}
use Rattle.std.proofs.lemmas.List.Sums.{take_while-cons}
use Rattle.mp_model.specs.declared.record.Rec.{Rec}
use Rattle.mp_model.specs.Ascending.{ascending}
use Rattle.mp_model.specs.Entry.{Entry}
use Rattle.mp_model.specs.Facts.{QueryFacts}
use Rattle.mp_model.specs.Folds.{at_time, cell_before, entry_at, fold_of, of_key, timeline, times_in, waking_of}
use Rattle.mp_model.proofs.GroupRecords.{group_records}
use Rattle.mp_saved.proofs.Counting.{Rises, Rises-ascending, length-filter, length_by_number}

-- groups come one after the other, none before a time
abbrev pub TimesRise : ℕ → List Entry → Type 0
TimesRise low [] = Unit {0}
TimesRise low (e ∷ es) = (low ≤ e.time) × TimesRise (e.time + 1) es

-- the records of a group have its time
abbrev pub HasItsTime : Entry → Type 0
HasItsTime e = All (λ r. r.time ≡ e.time) e.recs

module _ {Cell : Type 0} (q : QueryFacts Cell) (j : ℕ) where
  -- the groups of a key have no more records than there are
  pub few_group_records : (k : ℕ) (rs : List Rec) → length (flat_map (λ e. e.recs) (timeline q j k rs)) ≤ length rs
  few_group_records k rs =
      let own = of_key k rs in
      let times = waking_of q j k ++ times_in q j own in
      rw (flat_map-map (λ (e : Entry). e.recs) (entry_at q j k own) (ascending times))
      (omega (arith, length_by_number (λ (r : Rec). r.time) times own, length-filter (λ (r : Rec). r.key == k) rs))

  entries_rise : (k : ℕ) (own : List Rec) (low : ℕ) (times : List ℕ) → Rises low times → TimesRise low (map (entry_at q j k own) times)
  entries_rise k own low [] rises = tt
  entries_rise k own low (t ∷ ts) rises = (rises.0, entries_rise k own (t + 1) ts rises.1)

  -- the groups of a key come one after the other
  pub timeline_rises : (k : ℕ) (rs : List Rec) → TimesRise 0 (timeline q j k rs)
  timeline_rises k rs =
      let own = of_key k rs in
      let times = waking_of q j k ++ times_in q j own in
      entries_rise k own 0 (ascending times) (Rises-ascending times)

  -- their records have their times
  pub timeline_times : (k : ℕ) (rs : List Rec) → All HasItsTime (timeline q j k rs)
  timeline_times k rs =
      let own = of_key k rs in
      let times = ascending (waking_of q j k ++ times_in q j own) in
      All-map HasItsTime (entry_at q j k own) times
      (λ i d low.
      let t = slice_index_or times i d in
      All-weaker (λ (r : Rec). (r.time == t) ≡ true) (λ (r : Rec). r.time ≡ t) (λ r e. eqb-true r.time t e) (at_time t own) (filter_passes (λ (r : Rec). r.time == t) own))

  -- a fact of a cell, of a time that its groups don't reach and of how many records they have, that each group keeps
  module _ (OfCell : ℕ → ℕ → Cell → Type 0) (OfRecord : Rec → Type 0)
      (steps : (low n : ℕ) (cell : Cell) (e : Entry) → OfCell low n cell → low ≤ e.time → All OfRecord e.recs → HasItsTime e → OfCell (e.time + 1) (n + length e.recs) (q.step j cell e)) (t : ℕ) where
    -- it holds up to t, of so many records at most
    abbrev pub Reaches : ℕ → Cell → Type 0
    Reaches most cell = (low : ℕ) × (low ≤ t) × (n : ℕ) × (n ≤ most) × OfCell low n cell

    along : (low n : ℕ) (cell : Cell) (es : List Entry) → low ≤ t → OfCell low n cell → TimesRise low es → All (λ e. All OfRecord e.recs) es → All HasItsTime es
        → Reaches (n + length (flat_map (λ e. e.recs) es)) (fold_of q j cell (take_while (λ e. nat_lt e.time t) es))
    along low n cell [] l h rise recs times = (low, l, n, omega arith, h)
    along low n cell (e ∷ es) l h rise recs times =
        let OfGroup = λ (f : Entry). All OfRecord f.recs in
        let more = steps low n cell e h rise.0 (All-head OfGroup e es recs) (All-head HasItsTime e es times) in
        let next : e.time < t → Reaches (n + length e.recs + length (flat_map (λ f. f.recs) es)) (fold_of q j (q.step j cell e) (take_while (λ f. nat_lt f.time t) es)) =
        λ less. along (e.time + 1) (n + length e.recs) (q.step j cell e) es (omega arith) more rise.1 (All-tail OfGroup e es recs) (All-tail HasItsTime e es times) in
        rw (take_while-cons (λ (f : Entry). nat_lt f.time t) e es) (by_test (nat_lt e.time t) refl next)
      where
        by_test : (b : Bool) → nat_lt e.time t ≡ b → (e.time < t → Reaches (n + length e.recs + length (flat_map (λ f. f.recs) es)) (fold_of q j (q.step j cell e) (take_while (λ f. nat_lt f.time t) es)))
            → Reaches (n + length (flat_map (λ f. f.recs) (e ∷ es))) (fold_of q j cell (cond b (e ∷ take_while (λ f. nat_lt f.time t) es) []))
        by_test true is next =
            let rest = next (ltb-true e.time t is) in
            (rest.0, rest.1, rest.2, omega (arith, rest.3, length-append e.recs (flat_map (λ (f : Entry). f.recs) es)), rest.4)
        by_test false is next = (low, l, n, omega arith, h)

    -- it holds of the cell of a key just before t
    pub cell_reaches : (k : ℕ) → OfCell 0 0 (q.opening j k) → (rs : List Rec) → All OfRecord rs → Reaches (length rs) (cell_before q j rs k t)
    cell_reaches k opens rs h =
        let all = along 0 0 (q.opening j k) (timeline q j k rs) (omega arith) opens (timeline_rises k rs) (group_records q j OfRecord k rs h) (timeline_times k rs) in
        (all.0, all.1, all.2, omega (arith, all.3, few_group_records k rs), all.4)
