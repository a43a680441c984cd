-- Names with what a player asks of them.
use Rattle.std.specs.Prelude.{suc, ◌&&◌, ◌==◌, Bool, false, List, [], filter, map}
use Rattle.mp_names.specs.declared.names.Name.{Name}
use Rattle.mp_names.specs.declared.names.Name.TheVariants.{Rec, Group}
use Rattle.mp_names.specs.Names.{ascending}
use Rattle.mp_names.specs.Outlines.{Outline, time_of, receiver}
use Rattle.mp_chart.specs.declared.entry.Entry.{Entry}

-- the name with its time and its receiver
abbrev pub entry_of : Outline → Name → Entry
entry_of o x = record { name = x; time = time_of o x; receiver = receiver o x }

abbrev pub entries_of : Outline → List Name → List Entry
entries_of o xs = map (entry_of o) xs

-- the group gives the record
abbrev pub is_given_by : Name → Name → Bool
is_given_by (Group j t k) (Rec (suc i) u l g) = i == j && (u == t && g.0 == k)
is_given_by x y = false

-- the records of the next stage that a group gives, in rank order
abbrev pub records_given : Outline → Name → List Name
records_given o (Group j t k) = filter (is_given_by (Group j t k)) (ascending (o.records (suc j)))
records_given o _ = []
