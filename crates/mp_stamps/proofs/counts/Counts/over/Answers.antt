use Rattle.std.proofs.Common.{◌≡◌, ◌+◌, ◌*◌, ℕ, ℤ, All, List, ap, length, map, pos, replicate, rules, subst}
use Rattle.std.specs.List.Sorted.{IsStrictlyIncreasing}
use Rattle.mp_stamps.specs.Counts.{table_of_rows}
use Rattle.mp_stamps.specs.Places.{place_of}
use Rattle.mp_stamps.specs.Rows.{RowState, pieces_of}
use Rattle.mp_stamps.proofs.LeastTimes.{no_first_times}
use Rattle.mp_stamps.proofs.Tabled.{fresh_low, fresh_rows, lows_in}
use Rattle.mp_stamps.proofs.Tables.{no_counts, zero_table}
use Rattle.mp_stamps.proofs.counts.Counts.over.Goals as goal

pub invariant_of-result : goal.invariant_of-result
invariant_of-result c =
    let times = c.extend_from_slice.new.self.items in
    let rows : List RowState = c.in_ok-rows.rows.items in
    let are : c.args.times.now ≡ times = search rules in
    let long : length c.args.times.now ≡ length times = ap (λ (ts : List ℕ). length ts) are in
    let zeros = fresh_rows c.args.stages times (5 * c.args.stages + 5) (length c.args.times.now) rows c.in_ok-rows.ensures in
    let same = subst (λ (n : ℕ). All (λ (row : List ℤ). row ≡ replicate (1024 * pieces_of n) (pos 0)) (map (λ (r : RowState). r.counts) rows)) long zeros.1 in (
      zero_table c.args.stages times _ _ c.requires.stages (subst IsStrictlyIncreasing are c.requires.rising) zeros.0 (lows_in c.args.stages times rows) same,
      no_first_times (table_of_rows c.args.stages times rows) (1024 * pieces_of (length c.args.times.now)) 25 zeros.1,
    )

pub returns-clause-none : goal.returns-clause-none
returns-clause-none c =
    let times = c.extend_from_slice.new.self.items in
    let rows : List RowState = c.in_ok-rows.rows.items in
    let zeros = fresh_rows c.args.stages times (5 * c.args.stages + 5) (length c.args.times.now) rows c.in_ok-rows.ensures in
    no_counts (table_of_rows c.args.stages times rows) (1024 * pieces_of (length c.args.times.now)) zeros.1

pub returns-clause-kept : goal.returns-clause-kept
returns-clause-kept c = λ at. fresh_low c.args.stages c.extend_from_slice.new.self.items (5 * c.args.stages + 5) (length c.args.times.now) c.in_ok-rows.rows.items c.in_ok-rows.ensures (place_of at)
