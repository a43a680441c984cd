-- Names in order, as they follow from those before.
use Rattle.std.specs.Prelude.{List, [], ◌∷◌, ◌++◌}
use Rattle.mp_names.specs.declared.names.Name.{Name}
use Rattle.mp_rows.specs.declared.name_list.NameLink.{NameLink}
use Rattle.mp_rows.specs.declared.name_list.NameLink.TheVariants.{Nothing, After}

-- there are none, or one more
abbrev pub listed : NameLink → List Name
listed Nothing = []
listed (After before x) = before.value ++ x ∷ []
