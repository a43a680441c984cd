-- Whether a group changes wakes.
use Rattle.std.specs.Prelude.{◌==◌, ◌||◌, ℕ, Bool, List, length, not}
use Rattle.mp_model.specs.Entry.{Entry}

-- a group may change wakes: its own is used up, or its records post
abbrev pub changes_wakes : Entry → List ℕ → Bool
changes_wakes group posts = group.woken || not (length posts == 0)
