-- The sample query whose groups give nothing gives rows alone, in every job.
use Rattle.std.specs.Prelude.{Bool, true, false, [], All, cond}
use Rattle.std.proofs.lemmas.List.Elements.{All-nil}
use Rattle.mp_names.specs.Outlines.{is_before_stop}
use Rattle.mp_model.specs.Facts.{JobFacts}
use Rattle.mp_output.specs.Rows.{GivesRows, IsRow}
use Rattle.mp_samples.specs.Bids.{waking_in}

nothing_is_rows : (b : Bool) → All IsRow (cond b [] [])
nothing_is_rows true = All-nil IsRow
nothing_is_rows false = All-nil IsRow

pub waking_gives_rows : (job : JobFacts) → GivesRows (waking_in job)
waking_gives_rows job cell e = nothing_is_rows (is_before_stop job.until e.time)
