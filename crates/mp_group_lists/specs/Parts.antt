-- What the lists hold, as lists of lists.
use Rattle.std.specs.Prelude.{ℕ, suc, List}
use Rattle.mp_names.specs.Names.{ascending}
use Rattle.mp_names.specs.Outlines.{Outline, due_groups}
use Rattle.mp_chart.specs.declared.entry.Entry.{Entry}
use Rattle.mp_chart.specs.Entries.{entries_of}
use Rattle.mp_parted.specs.Parted.{parted_by}
use Rattle.mp_parted.specs.declared.parting.By.TheVariants.{Owner, Sender}

-- of a stage by worker the groups that it is to apply
abbrev pub groups_in : Outline → ℕ → List (List Entry)
groups_in o j = parted_by o Owner (due_groups o j)

-- by worker the answer rows that it sends
abbrev pub rows_in : Outline → List (List Entry)
rows_in o = parted_by o Sender (ascending o.rows)

-- of the next stage the records, in rank order
abbrev pub next_records : Outline → ℕ → List Entry
next_records o j = entries_of o (ascending (o.records (suc j)))
