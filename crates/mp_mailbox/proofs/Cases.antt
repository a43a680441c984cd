-- What follows from what a clause says of a `None`.
use Rattle.std.proofs.Common.{Option, Some, None, IfNone}

pub IfNone_then : {X P Q : Type 0} (r : Option X) → IfNone r P → (P → Q) → IfNone r Q
IfNone_then (Some x) says then = tt
IfNone_then None says then = then says
