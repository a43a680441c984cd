use Rattle.std.proofs.Common.{◌≡◌, ◌<◌, ◌+◌, ◌*◌, ◌/◌, ◌%◌, ℕ, sym, subst, arith}
use Rattle.std.proofs.Math.Nat.{div-add-mod, div-lt_iff_lt-mul, mod-lt}
use Rattle.mp_plain.specs.Places.{kind_count}
use Rattle.mp_plain.proofs.Numbered.{kinds_counted}
use Rattle.mp_plain.proofs.places.place_at.Goals as goal
use Rattle.mp_plain.proofs.places.place_at.Goals.{After-count_of_kinds-kinds}

counted : (c : After-count_of_kinds-kinds) → c.count_of_kinds-kinds.result ≡ kind_count c.args.shape
counted c = kinds_counted c.args.shape c.count_of_kinds-kinds.result c.count_of_kinds-kinds.ensures

some : (c : After-count_of_kinds-kinds) → 0 < c.count_of_kinds-kinds.result
some c = let kinds = counted c in omega arith

worker_below : (c : After-count_of_kinds-kinds) → c.args.number / c.count_of_kinds-kinds.result < c.args.shape.workers
worker_below c = (div-lt_iff_lt-mul (some c)).1 (subst (λ (n : ℕ). c.args.number < c.args.shape.workers * n) (sym (counted c)) c.requires)

pub nonzero_div-result : goal.nonzero_div-result
nonzero_div-result c = let l = some (goal.at.nonzero_div-result c).After-count_of_kinds-kinds in omega arith

pub nonzero_rem-result : goal.nonzero_rem-result
nonzero_rem-result c = let l = some (goal.at.nonzero_rem-result c).After-count_of_kinds-kinds in omega arith

pub overflow_cast-result : goal.overflow_cast-result
overflow_cast-result c = let l = worker_below (goal.at.overflow_cast-result c).After-count_of_kinds-kinds in omega arith

pub returns-clause-place : goal.returns-clause-place
returns-clause-place c =
    let at = (goal.at.returns-clause-place c).After-count_of_kinds-kinds in
    record {
      worker = worker_below at;
      kind = subst (λ (n : ℕ). c.args.number % c.count_of_kinds-kinds.result < n) (counted at) (mod-lt c.args.number (some at));
    }

pub returns-clause-number : goal.returns-clause-number
returns-clause-number c =
    let kinds = c.count_of_kinds-kinds.result in
    subst (λ (n : ℕ). n * (c.args.number / kinds) + c.args.number % kinds ≡ c.args.number) (counted (goal.at.returns-clause-number c).After-count_of_kinds-kinds) (div-add-mod c.args.number kinds)
