-- A query whose sums and counts fit their types whatever a group holds.
use Rattle.std.specs.Prelude.{ℕ, ◌≡◌, true, List, [], ◌∷◌}
use Rattle.mp_model.specs.Entry.{Entry}
use Rattle.mp_model.specs.Facts.{QueryFacts}
use Rattle.mp_model.specs.Folds.{FitsAlong, timeline}
use Rattle.mp_model.specs.QueryLaws.{SumsFit}
use Rattle.mp_model.specs.Stages.{stage_records}
use Rattle.mp_model.specs.Tables.{table_of}

module _ {Cell : Type 0} where
  -- they fit at every cell and group
  abbrev pub AlwaysFits : QueryFacts Cell → Type 0
  AlwaysFits q = (j : ℕ) (cell : Cell) (e : Entry) → q.fits j cell e ≡ true

  -- so they fit along any groups
  pub fits_along : (q : QueryFacts Cell) → AlwaysFits q → (j : ℕ) (cell : Cell) (entries : List Entry) → FitsAlong q j cell entries
  fits_along q always j cell [] = tt
  fits_along q always j cell (e ∷ es) = (always j cell e, fits_along q always j (q.step j cell e) es)

  -- and whatever events a file says, and whatever state a job goes on from
  pub always_fits : (facts : List ℕ → QueryFacts Cell) → ((vs : List ℕ) → AlwaysFits (facts vs)) → SumsFit facts
  always_fits facts always job legal saved j k below =
      let q = table_of facts job in
      fits_along q (always job.values) j (q.opening j k) (timeline q j k (stage_records q job.events j))
