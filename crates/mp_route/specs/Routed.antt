-- What contracts see of a router, and which of its records is free to go.
use Rattle.std.specs.Prelude.{◌≡◌, ℕ, ◌==◌, false, List, [], ◌∷◌, All, IsSomeAnd, count_by, slice_get}
use Rattle.mp_names.specs.declared.locations.Loc.TheVariants.{CtlMail}
use Rattle.mp_names.specs.declared.names.Name.{Name}
use Rattle.mp_names.specs.Frontiers.{HasPassed}
use Rattle.mp_names.specs.Names.{is_before}
use Rattle.mp_stamps.specs.declared.seen.Seen.{Seen}
use Rattle.mp_stamps.specs.Seen.{seen_at}
use Rattle.mp_model.specs.declared.record.Rec.{Rec}
use Rattle.mp_outline.specs.JobOutline.{name_of_record}

-- the stage; the records held, by time and tag; and how many more there is room for
pub record Routed : Type 0 where
  pub stage : ℕ
  pub held : List Rec
  pub room : ℕ

-- records stand by time, then by tag
abbrev pub tag_rank : Rec → List ℕ
tag_rank r = r.time ∷ r.tag.0 ∷ r.tag.1 ∷ []

-- the name is that of a record to which P applies, which is the first one held
abbrev pub IsFirstAnd : Routed → Name → (Rec → Type 0) → Type 0
IsFirstAnd h x P = IsSomeAnd (slice_get h.held 0) (λ r. (name_of_record h.stage r ≡ x) × P r)

-- the first record held has this name, and the frontier of control records on their way that was seen has passed its time
abbrev pub IsFree : Routed → Seen → Name → Type 0
IsFree h seen x = IsFirstAnd h x (λ r. HasPassed (seen_at seen CtlMail) r.time)

-- the first record held has this name, and no record held has a lesser time and tag
abbrev pub IsLeastHeld : Routed → Name → Type 0
IsLeastHeld h x = IsFirstAnd h x (λ r. All (λ s. is_before (tag_rank s) (tag_rank r) ≡ false) h.held)

-- how many records of a time are held
abbrev pub held_at : Routed → ℕ → ℕ
held_at h t = count_by (λ r. r.time == t) h.held
