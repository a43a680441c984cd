-- The first that comes after the moment ends the run.
use Rattle.std.proofs.Common.{◌≡◌, ◌∙◌, true, ap, subst, sym}
use Rattle.std.proofs.lemmas.List.{get_or_default}
use Rattle.mp_chart.specs.declared.entry.Entry.{Entry}
use Rattle.mp_group_lists.specs.declared.moments.Moment.{Moment}
use Rattle.mp_group_lists.specs.Moments.{comes_before, moment_of}
use Rattle.mp_group_lists.proofs.Runs.{upto_at}
use Rattle.mp_group_lists.proofs.moments.run_upto.Goals as goal

pub returns-then-comes_before-clause-point : goal.returns-then-comes_before-clause-point
returns-then-comes_before-clause-point c = λ by.
    let es = c.args.entries.now in
    let m = c.args.moment in
    let n = c.loop-count.count in
    upto_at m es n by c.loop-count.invariant (λ d l.
    subst (λ (x : Entry). comes_before m (moment_of x.name) ≡ true) (get_or_default es n _ d l)
    (ap (λ (at : Moment). comes_before m at) (sym c.moment_of.ensures) ∙ sym c.comes_before.ensures ∙ c.if-comes_before.true))
