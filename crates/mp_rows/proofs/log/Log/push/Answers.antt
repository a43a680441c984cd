use Rattle.std.proofs.Common.{◌≡◌, ◌<◌, ◌≤◌, ◌+◌, ◌+ℤ◌, ◌∙◌, ℕ, List, ap, arith, length, subst, sym, rules}
use Rattle.mp_names.specs.declared.locations.Loc.{Loc}
use Rattle.mp_names.specs.declared.pointstamps.Change.{Change}
use Rattle.mp_names.specs.Laws.{log_size}
use Rattle.mp_names.specs.Logs.{Log}
use Rattle.mp_rows.specs.Entries.{AreChanges, sum_at}
use Rattle.mp_rows.specs.Links.{one_larger}
use Rattle.mp_rows.specs.Lists.{with_name}
use Rattle.mp_rows.specs.WorkerLog.{IsUnposted, WorkerLog, most_changes, most_names}
use Rattle.mp_rows.proofs.Kept.{one_more}
use Rattle.mp_rows.proofs.log.Log.push.Goals as goal

pub invariant_of-self-2 : goal.invariant_of-self-2
invariant_of-self-2 g c =
    let o = g.O.Outlined.outline in
    let s = c.self.inside in
    let log = s.names.value in
    let list = c.args.list in
    let x = c.args.name in
    let is : c.one_more.result.value ≡ with_name list x log = c.one_more.ensures ∙ ap (λ n. with_name list x n.value) c.replace-before.ensures.value in
    let changes = subst (λ (l : WorkerLog). AreChanges o l.worker l.log (with_name list x l.log) c.args.changes.now) (sym c.self.view_is) c.requires.changes in
    let few : length c.args.changes.now ≤ most_changes = search rules in
    let room : log_size log < most_names = omega (arith, c.self.invariant.1, c.if-self-ge-MOST_NAMES.false) in
    let sums = λ (loc : Loc) (t : ℕ). c.net_all.ensures.sums loc t ∙ ap (λ (es : List Change). sum_at es loc t +ℤ sum_at c.args.changes.now loc t) c.reserve.ensures.items in
    let len : length c.net_all.new.entries.items ≤ length s.changes.items + length c.args.changes.now = search rules in
    let unposted = one_more o s.worker s.posted.value.value log list x s.changes.items c.args.changes.now c.net_all.new.entries.items c.self.invariant.0 changes sums len few room in (
      subst (λ (l : Log). IsUnposted o s.worker s.posted.value.value l c.net_all.new.entries.items) (sym is) unposted,
      omega (arith, ap log_size is, one_larger list x log, c.self.invariant.1),
      c.self.invariant.2,
      c.ingested_after-self-inside.ensures x log c.self.invariant.3 ∙ sym (ap (λ (l : Log). length l.ingested) is),
      c.applied_after-self-inside.ensures x log c.self.invariant.4 ∙ sym (ap (λ (l : Log). length l.applied) is),
      omega (arith, c.saturating_sub-self-inside.ensures, c.self.invariant.5, c.if-self-ge-MOST_NAMES.false),
      omega (arith, c.saturating_sub-self-inside-2.ensures, c.self.invariant.6),
      omega
          (arith, c.net_all.ensures.len, c.net_all.ensures.capacity, c.reserve.ensures.len, c.reserve.ensures.capacity, c.in_ok-reserve.ensures.ok, c.saturating_sub-self-inside-2.ensures, c.self.invariant.7),
    )
