use Rattle.std.proofs.Common.{◌≡◌, ◌<◌, ◌≤◌, ℕ, get_or, length, rules, subst, sym}
use Rattle.mp_names.specs.declared.locations.Frontier.TheVariants.{At}
use Rattle.mp_names.specs.Frontiers.{IsFrontierOf}
use Rattle.mp_stamps.specs.Counts.{IsTable, count_in}
use Rattle.mp_stamps.proofs.Tables.{frontier_at, frontier_done}
use Rattle.mp_stamps.proofs.counts.Counts.frontier.Goals as goal

pub returns-in-Some : goal.returns-in-Some
returns-in-Some c =
    let table = c.args.self.now in
    let first = c.first_open.result in
    let h : IsTable table = subst IsTable c.self.view_is c.self.invariant.0 in
    let inside : first < length table.times = search rules in
    let e : c.in-Some.time.now ≡ get_or table.times first 0 = search rules in
    subst (λ (u : ℕ). IsFrontierOf (count_in table) c.args.loc (At u)) (sym e) (frontier_at table c.args.loc first h c.first_open.ensures inside)

pub returns-in-None : goal.returns-in-None
returns-in-None c =
    let table = c.args.self.now in
    let first = c.first_open.result in
    let h : IsTable table = subst IsTable c.self.view_is c.self.invariant.0 in
    let past : length table.times ≤ first = search rules in
    frontier_done table c.args.loc first h c.first_open.ensures past
