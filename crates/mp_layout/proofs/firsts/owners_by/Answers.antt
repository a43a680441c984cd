use Rattle.std.proofs.Common.{◌≡◌, ◌<◌, ◌-◌, ◌+◌, ℕ, suc, arith, drop, length, slice_index_or, subst}
use Rattle.std.proofs.Math.Seq.{drop-cons}
use Rattle.mp_names.specs.declared.controls.First.{First}
use Rattle.mp_layout.specs.FirstTable.{AreOwnersBy}
use Rattle.mp_layout.proofs.FirstTable.{put_down}
use Rattle.mp_layout.proofs.firsts.owners_by.Goals as goal

pub loop-put-preserved : goal.loop-put-preserved
loop-put-preserved c =
    let fs = c.args.firsts.now in
    let n = length fs - 1 - c.loop-put.put in
    let none : First = record { stage = 0; bin = 0; worker = 0 } in
    let below : n < length fs = omega arith in
    let here : length fs - c.loop-put.put ≡ suc n = omega arith in
    let next : length fs - (c.loop-put.put + 1) ≡ n = omega arith in
    let are = subst (λ (m : ℕ). AreOwnersBy c.args.shape (drop m fs) c.loop-put.owners.items) here c.loop-put.invariant in
    rw
    (next, drop-cons fs n none below, c.bin_index.ensures)
    (put_down c.args.shape (slice_index_or fs n none) (drop (suc n) fs) (c.requires.firsts n none below) c.loop-put.owners.items are)
