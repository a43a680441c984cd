use Rattle.std.proofs.Common.{IfOk, Result, Ok, Err}
use Rattle.mp_worker_apply.proofs.Applied.{applying}
use Rattle.mp_worker_apply.proofs.applying.apply_group.Goals as goal

-- what holds of a value by two clauses, and what follows of it
both : {A E : Type 0} (r : Result A E) (P Q : A → Type 0) → IfOk r P → IfOk r Q → IfOk r (λ a. P a × Q a)
both (Ok a) P Q p q = (p, q)
both (Err e) P Q p q = tt

follows : {A E : Type 0} (r : Result A E) (P Q : A → Type 0) → IfOk r P → ((a : A) → P a → Q a) → IfOk r Q
follows (Ok a) P Q p f = f a p
follows (Err e) P Q p f = tt

pub returns-clause-told : goal.returns-clause-told
returns-clause-told g c =
    let done = c.apply_ready.ensures in
    let r = c.apply_ready.result in
    follows r _ _ (both r _ _ (both r _ _ done.group done.outputs) (both r _ _ (both r _ _ done.woke done.held) done.applied))
    (λ a all its p kept is ready.
    rw (all.0.0.0, all.0.0.1)
    (applying kept.sound kept.parts c.args.stage c.requires.stage c.args.host.now is kept.hands_on kept.legal c.args.group.time c.args.group.key a.outputs.items a.woke.items c.apply_ready.new.self
    ready all.0.1 all.1.0.0 (λ log. all.1.0.1 log p.seen p.notes ready) all.1.1))
