use Rattle.std.proofs.Common.{◌≡◌, ◌==◌, ◌<◌, ◌∙◌, ℕ, arith, length, suc, cond, List, ap, map, set, subst, sym}
use Rattle.std.proofs.lemmas.List.{map-set}
use Rattle.mp_names.specs.Frontiers.{count_at, log_at}
use Rattle.mp_names.specs.Laws.{log_size}
use Rattle.mp_names.specs.Locations.{IsLocation}
use Rattle.mp_names.specs.Logs.{Log}
use Rattle.mp_stamps.specs.Counts.{count_in}
use Rattle.mp_stamps.specs.Seen.{seen_at}
use Rattle.mp_rows.specs.WorkerLog.{IsUnposted, WorkerLog}
use Rattle.mp_board.specs.Boards.{Posted}
use Rattle.mp_board.specs.Soundness.{BoardIsSound}
use Rattle.mp_board.proofs.GivenBack.{quiet_where_passed, sound_where_moved}
use Rattle.mp_board.proofs.Posting.{log_posted, posted_here, room_for_changes, told, version_by_log, version_fits, version_is}
use Rattle.mp_board.proofs.Recounted.{frontier_of_equal}
use Rattle.mp_board.proofs.board.Board.exchange.Goals as goal

pub add_all-moved-requires : goal.add_all-moved-requires
add_all-moved-requires g c =
    let o = g.O.Outlined.outline in
    let s = c.self.inside in
    let w = c.args.worker in
    let before = c.args.log.now in
    let logs : List Log = map (λ l. l.value.log) s.logs.items in
    let here : log_at logs w ≡ before.posted = ap (λ (b : Posted). log_at b.logs w) c.self.view_is ∙ c.requires.posted in
    let un : IsUnposted o w before.posted before.log c.changes.result.now = subst (λ (n : ℕ). IsUnposted o n before.posted before.log c.changes.result.now) c.requires.own c.changes.ensures in
    room_for_changes o logs s.counts s.seen w before.posted before.log c.changes.result.now c.self.invariant c.requires.worker here un

pub next_version-version-requires : goal.next_version-version-requires
next_version-version-requires g c =
    let o = g.O.Outlined.outline in
    let s = c.self.inside in
    let w = c.args.worker in
    let before = c.args.log.now in
    let logs : List Log = map (λ l. l.value.log) s.logs.items in
    let here : log_at logs w ≡ before.posted = ap (λ (b : Posted). log_at b.logs w) c.self.view_is ∙ c.requires.posted in
    let un : IsUnposted o w before.posted before.log c.changes.result.now = subst (λ (n : ℕ). IsUnposted o n before.posted before.log c.changes.result.now) c.requires.own c.changes.ensures in
    rw c.version.ensures (version_fits o logs s.counts s.seen w before.posted before.log c.changes.result.now c.self.invariant c.requires.worker here un)

pub follow-requires-clause-shown : goal.follow-requires-clause-shown
follow-requires-clause-shown g c =
    let o = g.O.Outlined.outline in
    let s = c.self.inside in
    let logs : List Log = map (λ l. l.value.log) s.logs.items in
    λ still at has.
    let stood = c.self.invariant.frontiers at (subst (λ (n : ℕ). IsLocation n at) c.self.invariant.seen_stages has) in
    c.add_all-moved.ensures.still still at (seen_at s.seen at)
    (frontier_of_equal (count_at o (log_at logs)) (count_in s.counts) (λ loc t. sym (c.self.invariant.counted loc t)) at (seen_at s.seen at) stood)

pub follow-requires-clause-stages : goal.follow-requires-clause-stages
follow-requires-clause-stages g c = omega (arith, c.self.invariant.seen_stages, c.self.invariant.few_stages)

pub invariant_of-self : goal.invariant_of-self
invariant_of-self g c =
    let o = g.O.Outlined.outline in
    let s = c.self.inside in
    let w = c.args.worker in
    let before = c.args.log.now in
    let logs : List Log = map (λ l. l.value.log) s.logs.items in
    let here : log_at logs w ≡ before.posted = ap (λ (b : Posted). log_at b.logs w) c.self.view_is ∙ c.requires.posted in
    let un : IsUnposted o w before.posted before.log c.changes.result.now = subst (λ (n : ℕ). IsUnposted o n before.posted before.log c.changes.result.now) c.requires.own c.changes.ensures in
    let is : map (λ l. l.value.log) (set s.logs.items w c.of.result) ≡ set logs w before.log = map-set (λ l. l.value.log) s.logs.items w c.of.result ∙ ap (λ (l : WorkerLog). set logs w l.log) (c.of.ensures ∙ c.post.ensures) in
    let version : c.follow.new.self.version ≡ cond (log_size before.log == log_size before.posted) s.seen.version (suc s.seen.version) = version_is _ _ _ _ _ _ c.follow.ensures.version c.next_version-version.ensures c.version.ensures c.is_posted.ensures in
    let legal = c.requires.legal in
    let sound : BoardIsSound o (map (λ l. l.value.log) (set s.logs.items w c.of.result)) c.add_all-moved.new.counts c.follow.new.self =
    subst (λ (ls : List Log). BoardIsSound o ls c.add_all-moved.new.counts c.follow.new.self) (sym is)
    (log_posted o logs s.counts s.seen w before.posted before.log c.changes.result.now c.self.invariant c.requires.worker here un legal c.add_all-moved.new.counts c.add_all-moved.ensures.counted c.add_all-moved.ensures.dropped c.add_all-moved.ensures.same c.add_all-moved.ensures.room c.follow.new.self version c.follow.ensures.stages c.follow.ensures.frontiers) in
    sound_where_moved o _ _ _ sound c.give_back_passed.new.counts c.add_all-moved.result c.give_back_passed.ensures.moved c.give_back_passed.ensures.still

pub give_back_passed-requires-clause-quiet : goal.give_back_passed-requires-clause-quiet
give_back_passed-requires-clause-quiet g c =
    let o = g.O.Outlined.outline in
    let s = c.self.inside in
    let w = c.args.worker in
    let before = c.args.log.now in
    let logs : List Log = map (λ l. l.value.log) s.logs.items in
    let here : log_at logs w ≡ before.posted = ap (λ (b : Posted). log_at b.logs w) c.self.view_is ∙ c.requires.posted in
    let un : IsUnposted o w before.posted before.log c.changes.result.now = subst (λ (n : ℕ). IsUnposted o n before.posted before.log c.changes.result.now) c.requires.own c.changes.ensures in
    let is : map (λ l. l.value.log) (set s.logs.items w c.of.result) ≡ set logs w before.log = map-set (λ l. l.value.log) s.logs.items w c.of.result ∙ ap (λ (l : WorkerLog). set logs w l.log) (c.of.ensures ∙ c.post.ensures) in
    let version : c.follow.new.self.version ≡ cond (log_size before.log == log_size before.posted) s.seen.version (suc s.seen.version) = version_is _ _ _ _ _ _ c.follow.ensures.version c.next_version-version.ensures c.version.ensures c.is_posted.ensures in
    let legal = c.requires.legal in
    let sound : BoardIsSound o (map (λ l. l.value.log) (set s.logs.items w c.of.result)) c.add_all-moved.new.counts c.follow.new.self =
    subst (λ (ls : List Log). BoardIsSound o ls c.add_all-moved.new.counts c.follow.new.self) (sym is)
    (log_posted o logs s.counts s.seen w before.posted before.log c.changes.result.now c.self.invariant c.requires.worker here un legal c.add_all-moved.new.counts c.add_all-moved.ensures.counted c.add_all-moved.ensures.dropped c.add_all-moved.ensures.same c.add_all-moved.ensures.room c.follow.new.self version c.follow.ensures.stages c.follow.ensures.frontiers) in
    quiet_where_passed o _ _ _ sound

pub returns-clause-posted : goal.returns-clause-posted
returns-clause-posted g c =
    let s = c.self.inside in
    let w = c.args.worker in
    let before = c.args.log.now in
    let logs : List Log = map (λ l. l.value.log) s.logs.items in
    let is : map (λ l. l.value.log) (set s.logs.items w c.of.result) ≡ set logs w before.log = map-set (λ l. l.value.log) s.logs.items w c.of.result ∙ ap (λ (l : WorkerLog). set logs w l.log) (c.of.ensures ∙ c.post.ensures) in
    is ∙ ap (λ (b : Posted). set b.logs w before.log) c.self.view_is

pub returns-clause-own_log : goal.returns-clause-own_log
returns-clause-own_log g c =
    let s = c.self.inside in
    let w = c.args.worker in
    let before = c.args.log.now in
    let logs : List Log = map (λ l. l.value.log) s.logs.items in
    let is : map (λ l. l.value.log) (set s.logs.items w c.of.result) ≡ set logs w before.log = map-set (λ l. l.value.log) s.logs.items w c.of.result ∙ ap (λ (l : WorkerLog). set logs w l.log) (c.of.ensures ∙ c.post.ensures) in
    let inside : w < length logs = omega (arith, c.self.invariant.each_worker, c.requires.worker) in
    ap (λ (ls : List Log). log_at ls w) is ∙ posted_here logs w before.log inside

pub returns-clause-frontiers : goal.returns-clause-frontiers
returns-clause-frontiers g c = (invariant_of-self g c).frontiers

pub returns-clause-told : goal.returns-clause-told
returns-clause-told g c =
    let s = c.self.inside in
    let sound = invariant_of-self g c in
    told g.O.Outlined.outline (map (λ l. l.value.log) (set s.logs.items c.args.worker c.of.result)) c.args.worker c.args.log.now.log c.follow.new.self sound.outline sound.legal_logs c.requires.worker (returns-clause-own_log g c) sound.frontiers

pub returns-clause-version : goal.returns-clause-version
returns-clause-version g c =
    let o = g.O.Outlined.outline in
    let s = c.self.inside in
    let w = c.args.worker in
    let before = c.args.log.now in
    let logs : List Log = map (λ l. l.value.log) s.logs.items in
    let here : log_at logs w ≡ before.posted = ap (λ (b : Posted). log_at b.logs w) c.self.view_is ∙ c.requires.posted in
    let un : IsUnposted o w before.posted before.log c.changes.result.now = subst (λ (n : ℕ). IsUnposted o n before.posted before.log c.changes.result.now) c.requires.own c.changes.ensures in
    let version : c.follow.new.self.version ≡ cond (log_size before.log == log_size before.posted) s.seen.version (suc s.seen.version) = version_is _ _ _ _ _ _ c.follow.ensures.version c.next_version-version.ensures c.version.ensures c.is_posted.ensures in
    let stood = sym (ap (λ (b : Posted). log_at b.logs w) c.self.view_is) ∙ here in
    rw (ap (λ (b : Posted). b.version) c.self.view_is) at (version_by_log c.follow.new.self.version s.seen.version before.posted before.log (log_at c.args.self.now.logs w) un.grows stood version)
