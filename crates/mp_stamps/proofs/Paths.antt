-- The table of what could result in what is the paths.
use Rattle.std.proofs.Common.{◌≡◌, ◌↔◌, rules, IsTrue, Bool, true, false, sym, ◌∙◌}
use Rattle.std.proofs.lemmas.Bool.{false≢true}
use Rattle.mp_names.specs.declared.locations.Loc.{Loc}
use Rattle.mp_names.specs.Locations.{Reaches, reaches}
use Rattle.mp_names.proofs.Reach.{table_from_path, path_from_table}

pub table_is_paths : (r : Bool) (a b : Loc) → r ≡ reaches a b → IsTrue r ↔ Reaches a b
table_is_paths true a b e = (λ h. path_from_table a b (sym e), λ p. search rules)
table_is_paths false a b e = (λ h. absurd (search rules), λ p. absurd (false≢true (e ∙ table_from_path a b p)))
