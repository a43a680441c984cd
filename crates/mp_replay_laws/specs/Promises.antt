-- What holds of kept replays: for each sound outline, each depth of the mailboxes and each seed.
use Rattle.std.specs.Prelude.{ℕ, List}
use Rattle.mp_names.specs.Outlines.{Outline, OutlineIsSound}
use Rattle.mp_names.specs.declared.kinds.Kept.{Kept}
use Rattle.mp_audit.specs.Going.{HasLegalMerge}
use Rattle.mp_audit.specs.Lists.{list_of}
use Rattle.mp_drive.specs.Below.{IsKeptBySchedule}

-- what is kept of a whole schedule has a legal merge
abbrev pub KeptReplaysAreLegal : Type 0
KeptReplaysAreLegal =
    (o : Outline) (depth seed : ℕ) (journals : List (List Kept)) → OutlineIsSound o → IsKeptBySchedule o depth seed journals → (n : ℕ) × HasLegalMerge o depth (list_of journals) n
