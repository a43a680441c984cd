use Rattle.std.proofs.Common.{◌≡◌, ◌<◌, ◌≤◌, ℕ, get_or, length, rules, subst, sym}
use Rattle.mp_names.specs.declared.locations.Frontier.TheVariants.{At}
use Rattle.mp_stamps.specs.Counts.{count_of}
use Rattle.mp_stamps.specs.Flow.{IsFirstTime}
use Rattle.mp_stamps.proofs.LeastTimes.{first_time_at, no_first_time}
use Rattle.mp_stamps.proofs.least.first_in.Goals as goal

pub returns-in-Some : goal.returns-in-Some
returns-in-Some c =
    let times = c.args.times.now in
    let row = c.args.row.now.counts in
    let inside : c.first.result < length times = search rules in
    let e : c.in-Some.time.now ≡ get_or times c.first.result 0 = search rules in
    subst (λ (u : ℕ). IsFirstTime (count_of times row) (At u)) (sym e) (first_time_at times row c.first.result c.requires.rising c.requires.long c.first.ensures inside)

pub returns-in-None : goal.returns-in-None
returns-in-None c =
    let times = c.args.times.now in
    let row = c.args.row.now.counts in
    let past : length times ≤ c.first.result = search rules in
    no_first_time times row c.first.result c.requires.rising c.requires.long c.first.ensures past
