use Rattle.std.proofs.Common.{ℕ, Ok, Err, arith, subst}
use Rattle.std.specs.List.Sorted.{IsBinarySearchResult}
use Rattle.std.specs.Ordering.{nat_cmp}
use Rattle.std.specs.declared.result.Result.{Result}
use Rattle.std.proofs.lemmas.List.Sorted.{searched}
use Rattle.mp_stamps.proofs.Tables.{never_falls, rises}
use Rattle.mp_stamps.proofs.Times.{below_is}
use Rattle.mp_stamps.proofs.pieces.number_below.Goals as goal

pub returns-in-Ok : goal.returns-in-Ok
returns-in-Ok c =
    let times = c.args.times.now in
    let t = c.args.time in
    let up = rises times c.requires.rising in
    let there = subst (λ (r : Result ℕ ℕ). IsBinarySearchResult (λ u. nat_cmp u t) times r) c.in-Ok.is c.binary_search.ensures.position in
    let found = searched times t (Ok c.in-Ok.index) there (never_falls times up) in
    below_is times t c.in-Ok.index (omega (arith, found.0)) (λ k l. let r = up k c.in-Ok.index l found.0 in omega (arith, r, found.1)) (λ l. omega (arith, found.1))

pub returns-in-Err : goal.returns-in-Err
returns-in-Err c =
    let times = c.args.times.now in
    let t = c.args.time in
    let up = rises times c.requires.rising in
    let there = subst (λ (r : Result ℕ ℕ). IsBinarySearchResult (λ u. nat_cmp u t) times r) c.in-Err.is c.binary_search.ensures.position in
    let found = searched times t (Err c.in-Err.index) there (never_falls times up) in
    below_is times t c.in-Err.index (omega (arith, found.0)) (λ k l. found.1 k l) (λ l. let r = found.2 c.in-Err.index (omega arith) l in omega (arith, r))
