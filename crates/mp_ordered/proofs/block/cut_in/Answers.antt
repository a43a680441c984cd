use Rattle.std.proofs.Common.{◌∙◌, ap, sym, subst, arith}
use Rattle.std.specs.List.{prefix_len}
use Rattle.std.specs.List.Sorted.{IsPartitionedBy}
use Rattle.std.proofs.lemmas.List.Sums.{prefix_len-le-length}
use Rattle.mp_ordered.proofs.Blocked.{all_pass, count_behind, count_within, parted_back, parted_front}
use Rattle.mp_ordered.proofs.block.cut_in.Goals as goal

pub cut_in_slice-requires : goal.cut_in_slice-requires
cut_in_slice-requires g c =
    let p = g.C.Cut.front c.args.cut.now in
    parted_back p c.as_slices.result.0.now c.as_slices.result.1.now (subst (IsPartitionedBy p) (sym c.as_slices.ensures.items) c.requires)

pub overflow_add-result : goal.overflow_add-result
overflow_add-result g c =
    let p = g.C.Cut.front c.args.cut.now in
    omega (arith, c.cut_in_slice.ensures, prefix_len-le-length p c.as_slices.result.1.now, c.as_slices.ensures.len, c.args.block.now.ok.0, c.args.block.now.small)

pub returns-then-slice_begins_in_front : goal.returns-then-slice_begins_in_front
returns-then-slice_begins_in_front g c =
    let p = g.C.Cut.front c.args.cut.now in
    let first = c.as_slices.result.0.now in
    let second = c.as_slices.result.1.now in
    let passes = all_pass p first second (subst (IsPartitionedBy p) (sym c.as_slices.ensures.items) c.requires) (sym c.slice_begins_in_front.ensures ∙ c.if-slice_begins_in_front.true) in
    let all = count_behind p first second passes ∙ sym (omega (arith, c.cut_in_slice.ensures)) in
    sym all ∙ ap (prefix_len p) c.as_slices.ensures.items

pub cut_in_slice-requires-2 : goal.cut_in_slice-requires-2
cut_in_slice-requires-2 g c =
    let p = g.C.Cut.front c.args.cut.now in
    parted_front p c.as_slices.result.0.now c.as_slices.result.1.now (subst (IsPartitionedBy p) (sym c.as_slices.ensures.items) c.requires)

pub returns : goal.returns
returns g c =
    let p = g.C.Cut.front c.args.cut.now in
    let none = sym c.slice_begins_in_front.ensures ∙ c.if-slice_begins_in_front.false in
    c.cut_in_slice-2.ensures ∙ sym (count_within p c.as_slices.result.0.now c.as_slices.result.1.now none) ∙ ap (prefix_len p) c.as_slices.ensures.items
