use Rattle.std.proofs.Common.{◌++◌, map, subst, sym}
use Rattle.std.proofs.lemmas.Result.{on_ok_weaker}
use Rattle.mp_shares.specs.Times.{HoldSame}
use Rattle.mp_job.specs.Times.{opening_times}
use Rattle.mp_shares.proofs.Same.{same_after, same_list, same_then}
use Rattle.mp_job.proofs.times.add_wake_times.Goals as goal

pub returns-in-Some : goal.returns-in-Some
returns-in-Some g c =
    let old = c.args.times.now.items in
    let wakes = c.wakes.result.now in
    on_ok_weaker
    c.add_first_of.result
    (λ added. subst
    (λ o. HoldSame c.add_first_of.new.times.items (old ++ opening_times o))
    (sym c.in-Some.is)
    (same_then c.add_first_of.new.times.items (old ++ map (λ w. w.0) wakes) _ (same_list _ _ added) (same_after old _ _ c.wakes.ensures)))
    c.add_first_of.ensures
