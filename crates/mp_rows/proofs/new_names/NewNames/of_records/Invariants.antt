-- The records so far have these names.
use Rattle.std.proofs.Common.{◌≡◌, ◌++◌, ◌∷◌, [], map, take}
use Rattle.mp_outline.specs.JobOutline.{name_of_record}
use Rattle.mp_rows.proofs.new_names.NewNames.of_records.Given as goal

abbrev pub invariant-loop-place : goal.invariant-loop-place
invariant-loop-place l = l.before.value ++ l.last ∷ [] ≡ map (name_of_record l.stage) (take l.place l.recs)
