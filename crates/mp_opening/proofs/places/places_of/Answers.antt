-- What comes before the bin is left out, and what comes after it.
use Rattle.std.proofs.Common.{◌≡◌, ◌≤◌, ◌∙◌, ℕ, true, false, List, ap, length, subst, sym, take}
use Rattle.std.proofs.lemmas.List.{take_rest}
use Rattle.std.proofs.lemmas.List.Elements.{filter_agree}
use Rattle.std.specs.List.Sorted.{IsPartitionPoint, IsSortedByKey}
use Rattle.std.specs.Ordering.{is_eq, is_le}
use Rattle.mp_opening.specs.declared.places.CellPlace.{CellPlace}
use Rattle.mp_opening.specs.ByBin.{is_of_bin, pair_cmp, rank_of_place}
use Rattle.mp_opening.proofs.Orders.{is_of_rank, pair_total}
use Rattle.mp_opening.proofs.Runs.{run_is, sorted_drop}
use Rattle.mp_opening.proofs.places.places_of.Goals as goal

pub returns : goal.returns
returns c =
    let all = c.args.places.now in
    let bin : ℕ × ℕ = (c.args.stage, c.args.bin) in
    let n = c.count_before.result in
    let k = c.count_upto.result in
    let rest = take_rest all n in
    let bound = subst (λ (ps : List CellPlace). k ≤ length ps) rest c.count_upto.ensures.bound in
    let up = sorted_drop pair_total rank_of_place n all c.requires in
    let point = subst (λ (ps : List CellPlace). IsPartitionPoint (λ p. is_le (pair_cmp (rank_of_place p) bin) ≡ true) (λ p. is_le (pair_cmp (rank_of_place p) bin) ≡ false) ps k) rest (c.count_upto.ensures.point (subst (IsSortedByKey rank_of_place pair_cmp) (sym rest) up)) in
    ap (take k) rest
    ∙ sym (run_is pair_total rank_of_place bin all n k c.count_before.ensures.bound bound (c.count_before.ensures.point c.requires) point)
    ∙ filter_agree (λ p. is_eq (pair_cmp (rank_of_place p) bin)) (is_of_bin c.args.stage c.args.bin) (is_of_rank c.args.stage c.args.bin) all
