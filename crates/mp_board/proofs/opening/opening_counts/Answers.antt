use Rattle.std.proofs.Common.{◌≡◌, ◌≤◌, ◌+◌, ◌^◌, ◌∙◌, ℕ, List, ◌++◌, ap, ap₂, length, rules, subst, sym}
use Rattle.mp_names.specs.declared.pointstamps.Change.{Change}
use Rattle.mp_names.specs.Logs.{empty_log}
use Rattle.mp_rows.specs.Below.{outline_of}
use Rattle.mp_rows.specs.Entries.{AreContributions}
use Rattle.mp_board.specs.Opening.{AreOpened}
use Rattle.mp_rows.specs.Opening.{source_entries}
use Rattle.mp_rows.proofs.EmptyLog.{share_inside}
use Rattle.mp_board.proofs.Adding.{both_added}
use Rattle.mp_board.proofs.Opened.{opened_next}
use Rattle.mp_model.specs.Facts.{JobFacts}
use Rattle.mp_model.specs.Folds.{times_in}
use Rattle.mp_model.specs.Stages.{input_records}
use Rattle.mp_model.specs.Tables.{table_of}
use Rattle.mp_rows.specs.Below.{control_times, wake_times}
use Rattle.mp_rows.specs.Below.{run_shape, share_of}
use Rattle.mp_rows.specs.Below.{IsStrictlyIncreasing-ascending}
use Rattle.mp_board.proofs.opening.opening_counts.Goals as goal

pub over-requires-clause-rising : goal.over-requires-clause-rising
over-requires-clause-rising g c =
    let job = c.args.job.now in
    let q = table_of g.Q.Query.facts job in
    rw c.times.ensures (IsStrictlyIncreasing-ascending ((times_in q 0 (input_records q job.events) ++ control_times job.controls) ++ wake_times q))

pub add_records-requires-clause-inside : goal.add_records-requires-clause-inside
add_records-requires-clause-inside g c =
    share_inside (table_of g.Q.Query.facts c.args.job.now) c.args.job.now c.loop-worker.worker c.events.result.now c.share-share.result.now c.events.ensures c.share-share.ensures

pub loop-worker-preserved : goal.loop-worker-preserved
loop-worker-preserved g c =
    let job = g.J.Naming.job in
    let facts = g.Q.Query.facts in
    let q = table_of facts job in
    let l = c.loop-worker in
    let listed = c.deref.result.now in
    let share = c.share-share.result.now in
    let records = source_entries c.events.result.now share in
    let theirs : records ≡ source_entries job.events (share_of q job.events job.shape.workers l.worker) =
    ap₂ source_entries (c.events.ensures ∙ ap (λ (f : JobFacts). f.events) c.requires) (c.share-share.ensures ∙ ap (λ (f : JobFacts). share_of (table_of facts f) f.events f.shape.workers l.worker) c.requires) in
    let adds_all = both_added (length listed) (length share) listed records l.counts c.add_all.new.counts c.add_records.new.counts
    (record { counted = c.add_all.ensures.counted; dropped = c.add_all.ensures.dropped; same = c.add_all.ensures.same; room = c.add_all.ensures.room })
    (record { counted = c.add_records.ensures.counted; dropped = c.add_records.ensures.dropped; same = c.add_records.ensures.same; room = c.add_records.ensures.room }) in
    let are : AreContributions (outline_of q job) l.worker empty_log (listed ++ records) =
    subst (AreContributions (outline_of q job) l.worker empty_log) (sym (ap₂ (λ (xs ys : List Change). xs ++ ys) c.deref.ensures.value theirs)) (c.in_ok-entries.ensures job c.requires) in
    let few : length listed + length share ≤ 2 ^ 40 = rw c.deref.ensures.value (search (c.in_ok-check_number.ensures, rules)) in
    record {
      opened = opened_next (outline_of q job) l.worker l.counts c.add_records.new.counts (length listed + length share) (listed ++ records) few are l.invariant.opened adds_all;
      same = record { stages = adds_all.same.stages ∙ l.invariant.same.stages; times = adds_all.same.times ∙ l.invariant.same.times; low = adds_all.same.low ∙ l.invariant.same.low };
    }

pub returns-clause-opened : goal.returns-clause-opened
returns-clause-opened g c =
    let job = g.J.Naming.job in
    let all : c.loop-worker.worker ≡ job.shape.workers = search (rules, run_shape c.args.job.now job c.requires) in
    subst (λ (n : ℕ). AreOpened (outline_of (table_of g.Q.Query.facts job) job) n c.loop-worker.counts) all c.loop-worker.invariant.opened
