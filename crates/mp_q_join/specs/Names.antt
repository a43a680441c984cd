-- Names and flags in the texts of cells.
use Rattle.std.specs.Prelude.{ℕ, ◌==◌, ◌&&◌, Bool, List, codes, length, nat_le, nat_lt, not}
use Rattle.std.specs.List.{list_all}
use Rattle.std.specs.Str.{bytes_eq}
use Rattle.mp_names.specs.Limits.{longest_name}

-- the byte is no bar and no line feed
abbrev pub is_plain : ℕ → Bool
is_plain b = not (b == 124) && not (b == 10)

abbrev pub are_plain : List ℕ → Bool
are_plain name = list_all is_plain name

-- a name that a line can hold, within the limits of a name in an event
abbrev pub name_is_legal : List ℕ → Bool
name_is_legal name = nat_lt 0 (length name) && nat_le (length name) longest_name && are_plain name

-- a word says yes
abbrev pub is_yes : List ℕ → Bool
is_yes word = bytes_eq word (codes "1")
