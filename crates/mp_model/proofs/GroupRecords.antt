-- What holds of the records of groups.
use Rattle.std.specs.Prelude.{ℕ, ◌==◌, ◌++◌, List, All}
use Rattle.std.proofs.Common.{slice_index_or}
use Rattle.std.proofs.lemmas.List.Elements.{All-filter, All-map}
use Rattle.mp_model.specs.declared.record.Rec.{Rec}
use Rattle.mp_model.specs.Ascending.{ascending}
use Rattle.mp_model.specs.Entry.{Entry}
use Rattle.mp_model.specs.Facts.{QueryFacts}
use Rattle.mp_model.specs.Folds.{entry_at, of_key, timeline, times_in, waking_of}

-- what holds of each record holds of those of each group of a key
pub group_records : {Cell : Type 0} (q : QueryFacts Cell) (j : ℕ) (P : Rec → Type 0) (k : ℕ) (rs : List Rec) → All P rs → All (λ e. All P e.recs) (timeline q j k rs)
group_records q j P k rs h =
    let own = of_key k rs in
    let times = ascending (waking_of q j k ++ times_in q j own) in
    All-map (λ (e : Entry). All P e.recs) (entry_at q j k own) times
    (λ i d low. All-filter (λ (r : Rec). r.time == slice_index_or times i d) P own (All-filter (λ (r : Rec). r.key == k) P rs h))
