-- What holds of a call that failed.
use Rattle.std.specs.Result.{OnErr}
use Rattle.std.specs.declared.result.Result.{Result}
use Rattle.std.specs.declared.result.Result.TheVariants.{Ok, Err}

-- what holds anyway holds on `Err`
pub even_on_err : {A E : Type 0} (r : Result A E) (P : Type 0) → P → OnErr r P
even_on_err (Ok a) P p = tt
even_on_err (Err e) P p = p
