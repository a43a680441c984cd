use Rattle.std.proofs.Common.{nat_eq, sym, ◌∙◌}
use Rattle.std.proofs.lemmas.Map.Steps.{set_value_same}
use Rattle.mp_host_states.proofs.Failures.{even_on_err}
use Rattle.mp_host_states.proofs.cells.step_in.Goals as goal

pub returns-in_err-outputs-in-Some-clause-unchanged : goal.returns-in_err-outputs-in-Some-clause-unchanged
returns-in_err-outputs-in-Some-clause-unchanged g c =
    even_on_err c.from_residual.result _
    (rw c.in_err-outputs-in-Some.ensures.unchanged ((c.get_mut.follows.holds c.in-Some.cell.now).0 ∙ set_value_same (nat_eq c.key-key.result) c.args.cells.now.entries c.in-Some.cell.now (sym c.in-Some.ensures.value)))
