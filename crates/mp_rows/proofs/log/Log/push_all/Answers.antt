use Rattle.std.proofs.Common.{◌≡◌, ◌<◌, ◌≤◌, ◌+◌, ◌+ℤ◌, ◌∙◌, ℕ, List, ap, arith, length, subst, sym, rules}
use Rattle.mp_names.specs.declared.locations.Loc.{Loc}
use Rattle.mp_names.specs.declared.pointstamps.Change.{Change}
use Rattle.mp_names.specs.Laws.{log_size}
use Rattle.mp_names.specs.Logs.{Log}
use Rattle.mp_rows.specs.Entries.{AreChanges, sum_at}
use Rattle.mp_rows.specs.Lists.{with_names}
use Rattle.mp_rows.specs.WorkerLog.{IsUnposted, WorkerLog, most_changes, most_names}
use Rattle.mp_rows.proofs.Several.{several_larger, several_more}
use Rattle.mp_rows.proofs.log.Log.push_all.Goals as goal

pub invariant_of-self-2 : goal.invariant_of-self-2
invariant_of-self-2 g c =
    let o = g.O.Outlined.outline in
    let s = c.self.inside in
    let log = s.names.value in
    let list = c.args.list in
    let xs = c.args.names in
    let count = c.count-count.ensures.count in
    let is : c.several_more.result.value ≡ with_names list xs log = c.several_more.ensures ∙ ap (λ n. with_names list xs n.value) c.replace-before.ensures.value in
    let changes = subst (λ (l : WorkerLog). AreChanges o l.worker l.log (with_names list xs l.log) c.args.changes.now) (sym c.self.view_is) c.requires.changes in
    let few : length c.args.changes.now ≤ most_changes = search rules in
    let room : log_size log + length xs ≤ most_names = omega (arith, count, c.self.invariant.1, c.self.invariant.5, c.if-count-self.false) in
    let sums = λ (loc : Loc) (t : ℕ). c.net_all.ensures.sums loc t ∙ ap (λ (es : List Change). sum_at es loc t +ℤ sum_at c.args.changes.now loc t) c.reserve.ensures.items in
    let len : length c.net_all.new.entries.items ≤ length s.changes.items + length c.args.changes.now = search rules in
    let some : 0 < length xs = c.count-count.ensures.some in
    let unposted = several_more o s.worker s.posted.value.value log list xs s.changes.items c.args.changes.now c.net_all.new.entries.items some c.self.invariant.0 changes sums len few room in (
      subst (λ (l : Log). IsUnposted o s.worker s.posted.value.value l c.net_all.new.entries.items) (sym is) unposted,
      omega (arith, count, ap log_size is, several_larger list xs log, c.self.invariant.1),
      c.self.invariant.2,
      c.ingested_with-self-inside.ensures xs log c.self.invariant.3 count ∙ sym (ap (λ (l : Log). length l.ingested) is),
      c.applied_with-self-inside.ensures xs log c.self.invariant.4 count ∙ sym (ap (λ (l : Log). length l.applied) is),
      omega (arith, c.saturating_sub-self-inside.ensures, c.self.invariant.5, c.if-count-self.false),
      omega (arith, c.saturating_sub-self-inside-2.ensures, c.self.invariant.6),
      omega
          (arith, c.net_all.ensures.len, c.net_all.ensures.capacity, c.reserve.ensures.len, c.reserve.ensures.capacity, c.in_ok-reserve.ensures.ok, c.saturating_sub-self-inside-2.ensures, c.self.invariant.7),
    )
