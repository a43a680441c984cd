use Rattle.std.proofs.Common.{rules, of_calls, ◌≡◌, ℕ, ◌<◌, ◌≤◌, insert, length, sym, ap, ◌∙◌, arith}
use Rattle.std.proofs.lemmas.Fn.{always_returns_same}
use Rattle.std.proofs.lemmas.List.{get_or_read}
use Rattle.std.proofs.lemmas.List.Edits.{length-insert}
use Rattle.mp_host_states.specs.Numbers.{with_one}
use Rattle.mp_host_states.proofs.Numbered.{is_earlier, last_number, new_number, one_more, parted}
use Rattle.mp_host_states.proofs.numbers.add_one.Goals as goal
use Rattle.mp_host_states.proofs.numbers.add_one.Goals.{else-at-len-via-then-at-len+else-index-time, else-at-len-via-else-at-len}

pub returns-then-index-time-clause-added : goal.returns-then-index-time-clause-added
returns-then-index-time-clause-added c =
    let ns = c.args.numbers.now.items in
    let t = c.args.time in
    let at = c.partition_point-at.result in
    let point = (rw c.deref.ensures.value at c.partition_point-at.ensures.partitioned) (is_earlier t) (always_returns_same _ _ _ (λ a r f k. search (rules, of_calls))) (parted ns t c.requires.by_time) in
    let inside : at < length ns = omega arith in
    let m = c.index_mut.result.now in
    let same = get_or_read ns at c.index.result.now inside c.index.ensures m in
    one_more t ns at (omega arith) point m inside c.index_mut.ensures.value (ap (λ (n : ℕ × ℕ). n.0) (c.index_mut.ensures.value ∙ sym same) ∙ c.if-index-time.true)

pub returns-clause-added : goal.returns-clause-added
returns-clause-added c =
    let ns = c.args.numbers.now.items in
    let t = c.args.time in
    let at = c.partition_point-at.result in
    let point = (rw c.deref.ensures.value at c.partition_point-at.ensures.partitioned) (is_earlier t) (always_returns_same _ _ _ (λ a r f k. search (rules, of_calls))) (parted ns t c.requires.by_time) in
    let bound : at ≤ length ns = rw c.deref.ensures.value at c.partition_point-at.ensures.bound in
    let more : insert ns at (t, 1) ≡ with_one ns t = elim c.else-at-len.branch [
      | else-at-len-via-then-at-len+else-index-time w ↦ new_number t ns at bound point w.index.result.now (omega arith) w.index.ensures w.if-index-time.false
      | else-at-len-via-else-at-len w ↦ last_number t ns at bound point (omega arith)
    ] in
    c.in_ok-insert.ensures.items ∙ more

pub returns-in_err-insert-clause-never_refused_with_room : goal.returns-in_err-insert-clause-never_refused_with_room
returns-in_err-insert-clause-never_refused_with_room c = λ room.
    let ns = c.args.numbers.now.items in
    let t = c.args.time in
    let at = c.partition_point-at.result in
    let point = (rw c.deref.ensures.value at c.partition_point-at.ensures.partitioned) (is_earlier t) (always_returns_same _ _ _ (λ a r f k. search (rules, of_calls))) (parted ns t c.requires.by_time) in
    let bound : at ≤ length ns = rw c.deref.ensures.value at c.partition_point-at.ensures.bound in
    let more : insert ns at (t, 1) ≡ with_one ns t = elim c.else-at-len.branch [
      | else-at-len-via-then-at-len+else-index-time w ↦ new_number t ns at bound point w.index.result.now (omega arith) w.index.ensures w.if-index-time.false
      | else-at-len-via-else-at-len w ↦ last_number t ns at bound point (omega arith)
    ] in
    let longer = length-insert ns at (t, 1) in
    let same = ap (λ (ms : _). length ms) more in
    let full = c.in_err-insert.ensures.full in
    absurd (omega arith)
