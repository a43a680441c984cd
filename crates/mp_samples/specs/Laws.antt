-- The tests' query keeps the laws of queries.
use Rattle.std.specs.Prelude.{ℕ, ◌≤◌, Bool, true, false, cond, List, [], ◌∷◌, length}
use Rattle.std.proofs.Common.{refl, arith, ap}
use Rattle.std.proofs.lemmas.Bool.{false≢true}
use Rattle.mp_names.specs.Limits.{greatest_time}
use Rattle.mp_model.specs.declared.record.Rec.{Rec}
use Rattle.mp_model.specs.Entry.{Entry}
use Rattle.mp_model.specs.Facts.{JobFacts}
use Rattle.mp_model.specs.Folds.{FitsAlong, timeline}
use Rattle.mp_model.specs.QueryLaws.{BeginsFresh, FreshStaysFresh, HasStages, LaterStagesPostNothing, MostIsEnough, PostsAreLater, SumsFit, TextsTellCells}
use Rattle.mp_model.specs.Stages.{stage_records}
use Rattle.mp_model.specs.Tables.{table_of}
use Rattle.mp_samples.specs.Bids.{mark_of, row_of, sample_bids, text_of}

-- it has one stage
pub has_stages : (answers : Bool) → HasStages (sample_bids answers)
has_stages answers = (omega arith, omega arith)

-- ten later is later, and not too late
pub posts_are_later : (answers : Bool) → PostsAreLater (sample_bids answers)
posts_are_later answers r h = let early : r.time ≤ greatest_time = h.in_time in (omega arith, omega arith, tt)

-- later stages post nothing
pub later_stages_post_nothing : (answers : Bool) → LaterStagesPostNothing (sample_bids answers)
later_stages_post_nothing answers j r = refl

one_row : (key : ℕ) (rs : List Rec) → length (row_of key rs) ≤ 1
one_row key [] = omega arith
one_row key (r ∷ rs) = omega arith

-- no group gives more than one row
pub most_is_enough : (answers : Bool) → MostIsEnough (sample_bids answers)
most_is_enough true j cell e = one_row e.key e.recs
most_is_enough false j cell e = omega arith

-- a group without records gives nothing and marks nothing
pub fresh_stays_fresh : (answers : Bool) → FreshStaysFresh (sample_bids answers)
fresh_stays_fresh true j e h = (ap (mark_of 0) h, ap (row_of e.key) h)
fresh_stays_fresh false j e h = (refl, refl)

-- each key begins with a fresh cell
pub begins_fresh : (answers : Bool) → BeginsFresh (sample_bids answers)
begins_fresh answers = (refl, refl)

-- no cell may be saved
pub texts_tell_cells : (answers : Bool) → TextsTellCells text_of (sample_bids answers)
texts_tell_cells answers j k t cell allowed = absurd (false≢true allowed)

always_fits : (answers : Bool) (job : JobFacts) (j cell : ℕ) (es : List Entry) → FitsAlong (table_of (λ vs. sample_bids answers) job) j cell es
always_fits answers job j cell [] = tt
always_fits answers job j cell (e ∷ es) = (refl, always_fits answers job j (cond answers (mark_of cell e.recs) cell) es)

-- no sum grows
pub sums_fit : (answers : Bool) → SumsFit (λ vs. sample_bids answers)
sums_fit answers job legal saved j k below =
    let q = table_of (λ vs. sample_bids answers) job in
    always_fits answers job j (q.opening j k) (timeline q j k (stage_records q job.events j))
