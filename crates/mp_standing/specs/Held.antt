-- Entries by receiver, in the order of their records.
use Rattle.std.specs.Prelude.{◌≡◌, ℕ, cond, false, Option, None, List, [], ◌∷◌, get_or, slice_set, Some}
use Rattle.std.specs.List.{slice_get}
use Rattle.mp_names.specs.declared.names.Name.{Name}
use Rattle.mp_names.specs.declared.names.Name.TheVariants.{Rec}
use Rattle.mp_names.specs.Names.{is_before}
use Rattle.mp_ordered.specs.InOrder.{put_in_order}
use Rattle.mp_chart.specs.declared.entry.Entry.{Entry}

-- the rank of a record, but for what all records have alike; other names come first
abbrev pub rank_of_record : Name → List ℕ
rank_of_record (Rec j t k g) = t ∷ j ∷ g.0 ∷ g.1 ∷ k ∷ []
rank_of_record _ = []

abbrev pub rank_of_entry : Entry → List ℕ
rank_of_entry e = rank_of_record e.name

-- the lists with one more record, at its place among those of its receiver
abbrev pub with_entry : List (List Entry) → Entry → List (List Entry)
with_entry held e = slice_set held e.receiver (put_in_order rank_of_entry e (get_or held e.receiver []))

-- and with all of these
abbrev pub with_all : List (List Entry) → List Entry → List (List Entry)
with_all held [] = held
with_all held (e ∷ es) = with_all (with_entry held e) es

-- it stands first in one of the lists, and no list begins with one of a lower rank
abbrev pub IsLeastFirst : List (List Entry) → Entry → Type 0
IsLeastFirst held x =
    ((v : ℕ) × (slice_get (get_or held v []) 0 ≡ Some x)) × ((v : ℕ) (y : Entry) → slice_get (get_or held v []) 0 ≡ Some y → is_before (rank_of_entry y) (rank_of_entry x) ≡ false)

-- the lesser of two, of which either may be missing
abbrev pub lesser_of : Option Entry → Option Entry → Option Entry
lesser_of None b = b
lesser_of (Some x) None = Some x
lesser_of (Some x) (Some y) = Some (cond (is_before (rank_of_entry y) (rank_of_entry x)) y x)
