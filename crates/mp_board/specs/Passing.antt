-- Counts that are given back once frontiers have passed them.
use Rattle.std.specs.Prelude.{◌≡◌, ◌<◌, ◌≤◌, ◌-◌, ◌^◌, ℕ, max}
use Rattle.mp_names.specs.declared.locations.Frontier.{Frontier}
use Rattle.mp_names.specs.declared.locations.Frontier.TheVariants.{At, Done}
use Rattle.mp_names.specs.declared.locations.Loc.{Loc}
use Rattle.mp_stamps.specs.Counts.{CountTable, IsCounted, count_in, low_of, piece_start}
use Rattle.mp_stamps.specs.Places.{place_of}
use Rattle.mp_stamps.specs.Seen.{seen_at}
use Rattle.mp_stamps.specs.declared.seen.Seen.{Seen}

-- the first time that a frontier hasn't passed; where it is done, the last that there may be
abbrev pub end_of : Frontier → ℕ
end_of (At t) = t
end_of Done = 2 ^ 64 - 1

-- of the locations at the first so many places the counts before the frontiers that were seen are given back, in whole pieces, and no count is another
pub record IsGivenBack (seen : Seen) (places : ℕ) (old new : CountTable) : Type 0 where
  pub stages : new.stages ≡ old.stages
  pub times : new.times ≡ old.times
  pub counts : (loc : Loc) (t : ℕ) → count_in new loc t ≡ count_in old loc t
  pub low : (loc : Loc) → place_of loc < places → low_of new loc ≡ max (low_of old loc) (piece_start old.times (end_of (seen_at seen loc)))
  pub others : (loc : Loc) → places ≤ place_of loc → low_of new loc ≡ low_of old loc
  pub kept : (loc : Loc) (t : ℕ) → end_of (seen_at seen loc) ≤ t → IsCounted old loc t → IsCounted new loc t
