-- What a line of a configuration is about.
use Rattle.std.specs.Prelude.{ℕ, ◌==◌, ◌&&◌, Bool, not, List, [], ◌∷◌, codes, if◌then◌else◌}
use Rattle.std.specs.Str.{bytes_eq}
use Rattle.mp_control.specs.declared.setting_kinds.SettingKind.{SettingKind}
use Rattle.mp_control.specs.declared.setting_kinds.SettingKind.TheVariants.{Version, First, Rule, Drain, Control}
use Rattle.mp_lines.specs.declared.limits.NumberLimit.{NumberLimit}
use Rattle.mp_lines.specs.declared.limits.NumberLimit.TheVariants.{Between}

-- a line whose first field is this says the file's version
abbrev pub is_version : List ℕ → Bool
is_version field = bytes_eq field (codes "V")

-- what a line is about, by its first field: the version where no line stands before it, first owners, rules and drains where the version is 2;
-- all other lines are read as control lines
abbrev pub setting_kind_of : Bool → ℕ → List ℕ → SettingKind
setting_kind_of begun version field =
    if not begun && is_version field then Version
    else if version == 2 && bytes_eq field (codes "first") then First
    else if version == 2 && bytes_eq field (codes "rule") then Rule
    else if version == 2 && bytes_eq field (codes "drain") then Drain
    else Control

-- the limit of the field after the kind of a version's line
abbrev pub limits_of_version : List NumberLimit
limits_of_version = Between 1 2 ∷ []
