-- The names before are fewer.
use Rattle.std.specs.Prelude.{◌≤◌, ◌∷◌, [], length, max}
use Rattle.std.proofs.Common.{arith, length-append}
use Rattle.mp_rows.specs.declared.name_list.NameLink.{NameLink}
use Rattle.mp_rows.specs.declared.name_list.NameLink.TheVariants.{Nothing, After}
use Rattle.mp_rows.specs.declared.name_list.NameList.TheDeep.{deep-NameLink}
use Rattle.mp_rows.specs.NameLinks.{listed}

pub falls : (k : NameLink) → max (deep-NameLink k) 0 ≤ length (listed k)
falls Nothing = omega arith
falls (After before x) = let h = length-append before.value (x ∷ []) in omega (arith, h)
