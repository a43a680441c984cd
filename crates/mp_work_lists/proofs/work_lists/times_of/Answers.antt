use Rattle.std.proofs.Common.{ℕ, List, subst, sym}
use Rattle.std.specs.Prelude.{Contains}
use Rattle.std.specs.List.Sorted.{IsStrictlyIncreasing}
use Rattle.std.proofs.lemmas.List.Filters.{dedup_is}
use Rattle.std.proofs.lemmas.List.Kept.{Contains-dedup_nat}
use Rattle.std.proofs.lemmas.List.Sorted.{Contains-permutation}
use Rattle.std.proofs.lemmas.Map.Keys.{IsStrictlyIncreasing-dedup}
use Rattle.mp_work_lists.proofs.Joining.{has_time}
use Rattle.mp_work_lists.proofs.work_lists.times_of.Goals as goal

pub returns-clause-rising : goal.returns-clause-rising
returns-clause-rising c =
    subst IsStrictlyIncreasing (sym (dedup_is _ _ _ c.dedup.ensures.filtered)) (IsStrictlyIncreasing-dedup c.sort.new.self.items c.in_ok-sort.ensures.sorted)

pub returns-clause-all : goal.returns-clause-all
returns-clause-all c = λ a t l.
    let there = subst (λ (ts : List ℕ). Contains ts t) (sym c.in_ok-times.ensures) (has_time a t c.args.work.now l) in
    subst (λ (ts : List ℕ). Contains ts t) (sym (dedup_is _ _ _ c.dedup.ensures.filtered))
    (Contains-dedup_nat c.sort.new.self.items t (Contains-permutation c.in_ok-times.times.items c.sort.new.self.items t c.in_ok-sort.ensures.permutation there))
