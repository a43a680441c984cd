-- The parts of a name, and that names that are the same have the same parts.
use Rattle.std.proofs.Common.{◌≡◌, ℕ, ap}
use Rattle.mp_names.specs.declared.names.Name.{Name}
use Rattle.mp_names.specs.declared.names.Name.TheVariants.{Rec, Packet, Row, Group, Settled, Written}
use Rattle.mp_names.specs.declared.names.Tag.{Tag}

-- the stage of a name that has one
abbrev pub stage_in : Name → ℕ
stage_in (Rec j t k g) = j
stage_in (Packet j b t) = j
stage_in (Group j t k) = j
stage_in (Settled j t) = j
stage_in _ = 0

-- its time
abbrev pub time_in : Name → ℕ
time_in (Rec j t k g) = t
time_in (Packet j b t) = t
time_in (Row t g) = t
time_in (Group j t k) = t
time_in (Settled j t) = t
time_in (Written t) = t
time_in _ = 0

-- its key
abbrev pub key_in : Name → ℕ
key_in (Rec j t k g) = k
key_in (Group j t k) = k
key_in _ = 0

-- its tag
abbrev pub tag_in : Name → Tag
tag_in (Rec j t k g) = g
tag_in (Row t g) = g
tag_in _ = record { 0 = 0; 1 = 0 }

pub same_stage : (i j s t k l : ℕ) (a b : Tag) → Rec i s k a ≡ Rec j t l b → i ≡ j
same_stage i j s t k l a b e = ap stage_in e

pub same_parts : (i j s t k l : ℕ) (a b : Tag) → Rec i s k a ≡ Rec j t l b → (s ≡ t) × (k ≡ l) × (a ≡ b)
same_parts i j s t k l a b e = (ap time_in e, ap key_in e, ap tag_in e)

pub same_row : (s t : ℕ) (a b : Tag) → Row s a ≡ Row t b → (s ≡ t) × (a ≡ b)
same_row s t a b e = (ap time_in e, ap tag_in e)

pub same_group : (j t k u l : ℕ) → Group j t k ≡ Group j u l → (t ≡ u) × (k ≡ l)
same_group j t k u l e = (ap time_in e, ap key_in e)

pub same_written : (s t : ℕ) → Written s ≡ Written t → s ≡ t
same_written s t e = ap time_in e
