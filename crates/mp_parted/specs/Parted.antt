-- Names by workers.
use Rattle.std.specs.Prelude.{ℕ, ◌==◌, ◌++◌, ◌∷◌, [], Bool, List, filter, get_or, map, slice_set}
use Rattle.std.specs.List.{range_with_len}
use Rattle.mp_names.specs.declared.names.Name.{Name}
use Rattle.mp_names.specs.Outlines.{Outline, sender}
use Rattle.mp_names.specs.Logs.{is_owned}
use Rattle.mp_chart.specs.declared.entry.Entry.{Entry}
use Rattle.mp_chart.specs.Entries.{entries_of}
use Rattle.mp_parted.specs.declared.parting.By.{By}
use Rattle.mp_parted.specs.declared.parting.By.TheVariants.{Owner, Sender}

-- the name is the worker's
abbrev pub is_by : Outline → By → ℕ → Name → Bool
is_by o Sender w x = sender o x == w
is_by o Owner w x = is_owned o w x

-- by worker the entries of its names, in their order
abbrev pub parted_by : Outline → By → List Name → List (List Entry)
parted_by o by xs = map (λ w. entries_of o (filter (is_by o by w) xs)) (range_with_len 0 o.workers)

-- the lists with one more entry, behind those of its worker
abbrev pub with_entry : List (List Entry) → ℕ → Entry → List (List Entry)
with_entry parts w e = slice_set parts w (get_or parts w [] ++ e ∷ [])
