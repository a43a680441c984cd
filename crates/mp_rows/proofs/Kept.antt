-- What stays true of a log's changes.
use Rattle.std.proofs.Common.{◌≡◌, ℕ, ◌+◌, ◌*◌, ◌<◌, ◌≤◌, suc, List, [], ◌∷◌, length, ◌+ℤ◌, ◌-ℤ◌, ℤ, refl, arith}
use Rattle.std.proofs.lemmas.Int.{ints}
use Rattle.mp_names.specs.declared.locations.Loc.{Loc}
use Rattle.mp_names.specs.declared.names.Name.{Name}
use Rattle.mp_names.specs.declared.pointstamps.Change.{Change}
use Rattle.mp_names.specs.Frontiers.{contribution}
use Rattle.mp_names.specs.Laws.{log_size}
use Rattle.mp_names.specs.Logs.{Log, LogGrows}
use Rattle.mp_names.specs.Outlines.{Outline}
use Rattle.mp_names.proofs.Grows.{grows_trans}
use Rattle.mp_names.proofs.Lists.{prefix_refl}
use Rattle.mp_rows.specs.declared.lists.LogList.{LogList}
use Rattle.mp_rows.specs.declared.lists.LogList.TheVariants.{Ingested, Sent, Took, Applied, Settled}
use Rattle.mp_rows.specs.Entries.{AreChanges, sum_at}
use Rattle.mp_rows.specs.Links.{one_larger}
use Rattle.mp_rows.specs.Lists.{with_name}
use Rattle.mp_rows.specs.WorkerLog.{IsUnposted, most_changes, most_names}

-- a log grows by a name
pub one_grows : (list : LogList) (x : Name) (log : Log) → LogGrows log (with_name list x log)
one_grows Ingested x log =
    record { ingested = (x ∷ [], refl); sent = prefix_refl log.sent; took = prefix_refl log.took; applied = prefix_refl log.applied; settled = prefix_refl log.settled }
one_grows Sent x log =
    record { ingested = prefix_refl log.ingested; sent = (x ∷ [], refl); took = prefix_refl log.took; applied = prefix_refl log.applied; settled = prefix_refl log.settled }
one_grows Took x log =
    record { ingested = prefix_refl log.ingested; sent = prefix_refl log.sent; took = (x ∷ [], refl); applied = prefix_refl log.applied; settled = prefix_refl log.settled }
one_grows Applied x log =
    record { ingested = prefix_refl log.ingested; sent = prefix_refl log.sent; took = prefix_refl log.took; applied = (x ∷ [], refl); settled = prefix_refl log.settled }
one_grows Settled x log =
    record { ingested = prefix_refl log.ingested; sent = prefix_refl log.sent; took = prefix_refl log.took; applied = prefix_refl log.applied; settled = (x ∷ [], refl) }

pub telescoped : (new old more first second third : ℤ) → new ≡ old +ℤ more → old ≡ second -ℤ first → more ≡ third -ℤ second → new ≡ third -ℤ first
telescoped new old more first second third e f g = omega (arith, ints)

fewer : (new old more before size next : ℕ) → new ≤ old + more → more ≤ most_changes → old + most_changes * before ≤ most_changes * size → next ≡ suc size → new + most_changes * before ≤ most_changes * next
fewer new old more before size next a b c e = omega arith

-- a log with one more name, whose changes are added to those that wait
pub one_more : (o : Outline) (w : ℕ) (posted log : Log) (list : LogList) (x : Name) (entries changes now : List Change) → IsUnposted o w posted log entries → AreChanges o w log (with_name list x log) changes → ((loc : Loc) (t : ℕ) → sum_at now loc t ≡ sum_at entries loc t +ℤ sum_at changes loc t) → length now ≤ length entries + length changes → length changes ≤ most_changes → log_size log < most_names → IsUnposted o w posted (with_name list x log) now
one_more o w posted log list x entries changes now h c sums len few room =
    record {
      grows = grows_trans posted log (with_name list x log) h.grows (one_grows list x log);
      pending = λ loc t. telescoped (sum_at now loc t) (sum_at entries loc t) (sum_at changes loc t) (contribution o w posted loc t) (contribution o w log loc t) (contribution o w (with_name list x log) loc t) (sums loc t) (h.pending loc t) (c.sums loc t);
      few_changes = fewer (length now) (length entries) (length changes) (log_size posted) (log_size log) (log_size (with_name list x log)) len few h.few_changes (one_larger list x log);
      few_names = omega (arith, one_larger list x log, room);
    }
