-- Which of the records that are held go along with another.
use Rattle.std.specs.Prelude.{◌≡◌, ◌⊎◌, ℕ, ◌+◌, ◌≤◌, ◌==◌, Bool, true, false, not, List, [], ◌∷◌, ◌++◌, All, drop, filter, length, take}
use Rattle.mp_bins.specs.Bins.{bin_of_key}
use Rattle.mp_bins.specs.Notes.{Notes, owner_at}
use Rattle.mp_model.specs.declared.record.Rec.{Rec}
use Rattle.mp_ordered.specs.InOrder.{InOrder, begins}
use Rattle.mp_route.specs.declared.along.Along.{Along}

-- what goes along with a record of a stage, by what is noted
abbrev pub along_with : Notes → ℕ → ℕ → Rec → Along
along_with notes j bins r = record { stage = j; bins = bins; time = r.time; owner = owner_at notes j (bin_of_key r.key bins) r.time }

-- the record is of the time
abbrev pub is_at : Along → Rec → Bool
is_at a r = r.time == a.time

-- its bin has the owner at that time, by what is noted
abbrev pub goes_to : Notes → Along → Rec → Bool
goes_to notes a r = owner_at notes a.stage (bin_of_key r.key a.bins) a.time == a.owner

-- the first of these records, if there is one, does
abbrev pub FirstGoes : Notes → Along → List Rec → Type 0
FirstGoes notes a [] = Unit {0}
FirstGoes notes a (r ∷ rs) = goes_to notes a r ≡ true

-- So many of the first records are of the time, and so many of these go to the owner; no more may go, or the next record is of another time
pub record IsCount (notes : Notes) (a : Along) (most : ℕ) (held : List Rec) (looked chosen : ℕ) : Type 0 where
  pub inside : looked ≤ length held
  pub time : All (λ r. is_at a r ≡ true) (take looked held)
  pub chosen_is : chosen ≡ length (filter (goes_to notes a) (take looked held))
  pub few : chosen ≤ most
  pub ends : (chosen ≡ most) ⊎ (begins (is_at a) (drop looked held) ≡ false)

-- of the first so many records those that go to the owner
abbrev pub going : Notes → Along → ℕ → List Rec → List Rec
going notes a looked held = filter (goes_to notes a) (take looked held)

-- the others of them
abbrev pub staying : Notes → Along → ℕ → List Rec → List Rec
staying notes a looked held = filter (λ r. not (goes_to notes a r)) (take looked held)

-- Of the records those were taken out that go, as far as they were counted; the others are left, and there is room for those that are gone
pub record TakesAlong (notes : Notes) (a : Along) (most : ℕ) (old : InOrder Rec) (gone : List Rec) (new : InOrder Rec) : Type 0 where
  pub looked : ℕ
  pub count : IsCount notes a most old.items looked (length gone)
  pub gone_is : gone ≡ going notes a looked old.items
  pub left : new.items ≡ staying notes a looked old.items ++ drop looked old.items
  pub room : old.room + length gone ≤ new.room
