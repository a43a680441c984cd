use Rattle.std.proofs.Common.{rules, ◌≡◌, ◌+◌}
use Rattle.mp_outside.specs.Calls.{fails_at}
use Rattle.mp_outside.proofs.CallLemmas.{faults-failed, faults-served}
use Rattle.mp_outside.proofs.calls.Calls.count.Goals as goal

pub returns-clause-fails : goal.returns-clause-fails
returns-clause-fails c = λ yes.
    let planned : c.contains.result ≡ fails_at c.self.inside.failing.items (c.self.inside.made + 1) = search rules in
    rw (← c.self.view_is) (faults-failed _ _ _ planned yes)

pub returns-clause-serves : goal.returns-clause-serves
returns-clause-serves c = λ no.
    let planned : c.contains.result ≡ fails_at c.self.inside.failing.items (c.self.inside.made + 1) = search rules in
    rw (← c.self.view_is) (faults-served _ _ _ planned no)
