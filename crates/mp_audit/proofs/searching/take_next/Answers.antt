use Rattle.std.proofs.Common.{◌≡◌, ◌<◌, ℕ, Ok, Some, refl, ap, sym, ◌∙◌}
use Rattle.std.proofs.lemmas.Bool.{both_ways}
use Rattle.mp_names.specs.declared.kinds.Kind.TheVariants.{Exchange}
use Rattle.mp_machine.specs.Runs.{step_of_machine}
use Rattle.mp_journal_laws.specs.Journals.{is_exchange, next_version}
use Rattle.mp_audit.specs.Lists.{list_of}
use Rattle.mp_audit.proofs.Going.{leads_by_one, next_is, one_further, some_there}
use Rattle.mp_audit.proofs.searching.take_next.Goals as goal
use Rattle.mp_audit.proofs.searching.take_next.Goals.{else-is_exchange-via-then-is_exchange+else-not-is_free, else-is_exchange-via-else-is_exchange}

pub take-requires-clause-some : goal.take-requires-clause-some
take-requires-clause-some g c = some_there (list_of c.args.left.now c.args.worker) c.in-Some.step (sym c.in-Some.ensures)

pub returns-clause-some : goal.returns-clause-some
returns-clause-some g c = λ done. some_there (list_of c.args.left.now c.args.worker) c.in-Some.step (sym c.in-Some.ensures)

pub returns-clause-taken : goal.returns-clause-taken
returns-clause-taken g c = λ done world shows.
    let o = g.P.Play.outline c.args.player.now in
    let depth = g.P.Play.depth c.args.player.now in
    let w = c.args.worker in
    let lists = c.args.left.now in
    let left = list_of lists in
    let step = c.in-Some.step in
    let next = next_is (left w) step (sym c.in-Some.ensures) in
    let made = ap Ok c.if-not-branch.false in
    let alone : step.kind ≡ Exchange → ((world.worker w).log ≡ (world.worker w).posted → ⊥) → (v version : ℕ) → (v ≡ w → ⊥) → next_version (left v) ≡ Some version → world.version < version =
    λ x changed v version n e.
    elim c.else-is_exchange.branch [
      | else-is_exchange-via-then-is_exchange+else-not-is_free r ↦ (r.is_free.ensures world shows).0 r.if-not-is_free.false changed v n version e
      | else-is_exchange-via-else-is_exchange r ↦ absurd (both_ways (is_exchange step.kind) (sym c.is_exchange.ensures ∙ r.if-is_exchange.false) (ap is_exchange x))
    ] in
    let done = c.in_ok-make.ensures.made made world shows in
    let after = step_of_machine o depth world w step.kind in
    let still = ap list_of c.take.ensures ∙ one_further lists w c.requires.worker in
    (after, leads_by_one o depth world after left _ w step (record { next = next; made = done.0; alone = alone }) refl still, done.1)
