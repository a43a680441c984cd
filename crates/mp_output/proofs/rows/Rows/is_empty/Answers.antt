use Rattle.std.proofs.Common.{arith, ◌≡◌, ◌↔◌, [], IsTrue}
use Rattle.std.proofs.lemmas.Grind.{common_steps}
use Rattle.mp_output.proofs.Writing.{all_written}
use Rattle.mp_output.proofs.rows.Rows.is_empty.Goals as goal

pub returns-clause-written : goal.returns-clause-written
returns-clause-written g c = λ log h.
    let empty : IsTrue c.is_empty.result ↔ (c.args.self.now.rows ≡ []) = grind (arith, common_steps) in
    let written = all_written log c.args.self.now.rows h in
    (λ r. written.0 (empty.0 r), λ k. empty.1 (written.1 k))
