use Rattle.std.proofs.Common.{Option, None, Some, IfSome}
use Rattle.mp_names.specs.declared.kinds.Kind.TheVariants.{Extract}
use Rattle.mp_worker_parts.specs.Below.{movers_at}
use Rattle.mp_worker_sends.proofs.Extracting.{due_now, none_to_extract}
use Rattle.mp_worker_parts.proofs.Keeping.{can_do, on_none}
use Rattle.mp_worker_sends.proofs.bins.due.Goals as goal

if_some : {A : Type 0} (P Q R : A → Type 0) (r : Option A) → ((a : A) → P a → Q a → R a) → IfSome r P → IfSome r Q → IfSome r R
if_some P Q R None told p q = tt
if_some P Q R (Some a) told p q = told a p q

pub returns : goal.returns
returns g c =
    let kept = c.parts.invariant in
    let at = movers_at kept.parts c.args.stage c.requires.stage c.index.result.now c.index.ensures in
    let e = c.due.ensures in
    rw (← c.parts.view_is)
    (record {
      none = on_none c.due.result e.none_may (λ none x can. none_to_extract kept.sound kept.parts c.args.stage c.requires.stage _ at none x (can_do kept (Extract c.args.stage) x can));
      due = if_some _ _ _ c.due.result (λ mv may away. due_now kept.sound kept.parts c.args.stage c.requires.stage _ at mv may away) e.may_leave e.away;
    })
