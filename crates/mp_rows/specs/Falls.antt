-- The names before are fewer.
use Rattle.std.specs.Prelude.{◌≤◌, ◌++◌, ◌∷◌, [], max}
use Rattle.std.proofs.Common.{arith, length-append}
use Rattle.mp_names.specs.Laws.{log_size}
use Rattle.mp_rows.specs.declared.names.Link.{Link}
use Rattle.mp_rows.specs.declared.names.Link.TheVariants.{Start, More, Several}
use Rattle.mp_rows.specs.declared.names.LogNames.TheDeep.{deep-Link}
use Rattle.mp_rows.specs.Links.{names_of, one_larger, so_much_larger}

pub falls : (k : Link) → max (deep-Link k) 0 ≤ log_size (names_of k)
falls Start = omega arith
falls (More before list x) = let h = one_larger list x before.value in omega (arith, h)
falls (Several before list xs x) =
    let h = so_much_larger list (xs.value ++ x ∷ []) before.value in
    let l = length-append xs.value (x ∷ []) in
    omega (arith, h, l)
