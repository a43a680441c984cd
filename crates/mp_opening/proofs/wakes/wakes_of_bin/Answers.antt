-- What comes before the bin is left out, and what comes after it.
use Rattle.std.proofs.Common.{◌≡◌, ◌≤◌, ◌∙◌, ℕ, true, false, List, ap, length, subst, sym, take}
use Rattle.std.proofs.lemmas.Cmp.{nat_cmp_total}
use Rattle.std.proofs.lemmas.List.{take_rest}
use Rattle.std.proofs.lemmas.List.Elements.{filter_agree}
use Rattle.std.specs.List.Sorted.{IsPartitionPoint, IsSortedByKey}
use Rattle.std.specs.Ordering.{is_eq, is_le, nat_cmp}
use Rattle.mp_layout.specs.Bins.{bin_of_key}
use Rattle.mp_opening.specs.ByBin.{wakes_in}
use Rattle.mp_opening.proofs.Orders.{is_number}
use Rattle.mp_opening.proofs.Runs.{run_is, sorted_drop}
use Rattle.mp_opening.proofs.Woken.{by_bin}
use Rattle.mp_opening.proofs.wakes.wakes_of_bin.Goals as goal

pub returns : goal.returns
returns c =
    let all = c.args.wakes.now in
    let bin = c.args.bin in
    let key : ℕ × ℕ → ℕ = λ w. bin_of_key w.1 c.args.bins in
    let n = c.count_before.result in
    let k = c.count_upto.result in
    let rest = take_rest all n in
    let up = by_bin c.args.bins all c.requires.order in
    let bound = subst (λ (ws : List (ℕ × ℕ)). k ≤ length ws) rest c.count_upto.ensures.bound in
    let point = subst (λ (ws : List (ℕ × ℕ)). IsPartitionPoint (λ w. is_le (nat_cmp (key w) bin) ≡ true) (λ w. is_le (nat_cmp (key w) bin) ≡ false) ws k) rest (c.count_upto.ensures.point (subst (IsSortedByKey key nat_cmp) (sym rest) (sorted_drop nat_cmp_total key n all up))) in
    ap (take k) rest
    ∙ sym (run_is nat_cmp_total key bin all n k c.count_before.ensures.bound bound (c.count_before.ensures.point up) point)
    ∙ filter_agree (λ w. is_eq (nat_cmp (key w) bin)) (wakes_in c.args.bins bin) (λ w. is_number (key w) bin) all
