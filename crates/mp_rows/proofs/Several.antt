-- A log with several more names.
use Rattle.std.proofs.Common.{◌≡◌, ℕ, ◌+◌, ◌*◌, ◌<◌, ◌≤◌, List, [], ◌∷◌, ◌++◌, length, length-append, append-nil, append_assoc, ◌+ℤ◌, refl, ap, arith}
use Rattle.mp_names.specs.declared.locations.Loc.{Loc}
use Rattle.mp_names.specs.declared.names.Name.{Name}
use Rattle.mp_names.specs.declared.pointstamps.Change.{Change}
use Rattle.mp_names.specs.Frontiers.{contribution}
use Rattle.mp_names.specs.Laws.{log_size}
use Rattle.mp_names.specs.Logs.{Log, LogGrows}
use Rattle.mp_names.specs.Outlines.{Outline}
use Rattle.mp_names.proofs.Grows.{grows_trans}
use Rattle.mp_names.proofs.Lists.{prefix_refl}
use Rattle.mp_rows.specs.declared.lists.LogList.{LogList}
use Rattle.mp_rows.specs.declared.lists.LogList.TheVariants.{Ingested, Sent, Took, Applied, Settled}
use Rattle.mp_rows.specs.Entries.{AreChanges, sum_at}
use Rattle.mp_rows.specs.Lists.{with_name, with_names}
use Rattle.mp_rows.specs.WorkerLog.{IsUnposted, most_changes, most_names}
use Rattle.mp_rows.proofs.Kept.{telescoped}

-- no name more
pub with_none : (list : LogList) (log : Log) → with_names list [] log ≡ log
with_none Ingested log = ap (λ (xs : List Name). record log { ingested = xs }) (append-nil log.ingested)
with_none Sent log = ap (λ (xs : List Name). record log { sent = xs }) (append-nil log.sent)
with_none Took log = ap (λ (xs : List Name). record log { took = xs }) (append-nil log.took)
with_none Applied log = ap (λ (xs : List Name). record log { applied = xs }) (append-nil log.applied)
with_none Settled log = ap (λ (xs : List Name). record log { settled = xs }) (append-nil log.settled)

-- one more behind several
pub with_one_more : (list : LogList) (xs : List Name) (x : Name) (log : Log) → with_name list x (with_names list xs log) ≡ with_names list (xs ++ x ∷ []) log
with_one_more Ingested xs x log = ap (λ (ys : List Name). record log { ingested = ys }) (append_assoc log.ingested xs (x ∷ []))
with_one_more Sent xs x log = ap (λ (ys : List Name). record log { sent = ys }) (append_assoc log.sent xs (x ∷ []))
with_one_more Took xs x log = ap (λ (ys : List Name). record log { took = ys }) (append_assoc log.took xs (x ∷ []))
with_one_more Applied xs x log = ap (λ (ys : List Name). record log { applied = ys }) (append_assoc log.applied xs (x ∷ []))
with_one_more Settled xs x log = ap (λ (ys : List Name). record log { settled = ys }) (append_assoc log.settled xs (x ∷ []))

pub several_larger : (list : LogList) (xs : List Name) (log : Log) → log_size (with_names list xs log) ≡ log_size log + length xs
several_larger Ingested xs log = omega (arith, length-append log.ingested xs)
several_larger Sent xs log = omega (arith, length-append log.sent xs)
several_larger Took xs log = omega (arith, length-append log.took xs)
several_larger Applied xs log = omega (arith, length-append log.applied xs)
several_larger Settled xs log = omega (arith, length-append log.settled xs)

pub several_grow : (list : LogList) (xs : List Name) (log : Log) → LogGrows log (with_names list xs log)
several_grow Ingested xs log =
    record { ingested = (xs, refl); sent = prefix_refl log.sent; took = prefix_refl log.took; applied = prefix_refl log.applied; settled = prefix_refl log.settled }
several_grow Sent xs log =
    record { ingested = prefix_refl log.ingested; sent = (xs, refl); took = prefix_refl log.took; applied = prefix_refl log.applied; settled = prefix_refl log.settled }
several_grow Took xs log =
    record { ingested = prefix_refl log.ingested; sent = prefix_refl log.sent; took = (xs, refl); applied = prefix_refl log.applied; settled = prefix_refl log.settled }
several_grow Applied xs log =
    record { ingested = prefix_refl log.ingested; sent = prefix_refl log.sent; took = prefix_refl log.took; applied = (xs, refl); settled = prefix_refl log.settled }
several_grow Settled xs log =
    record { ingested = prefix_refl log.ingested; sent = prefix_refl log.sent; took = prefix_refl log.took; applied = prefix_refl log.applied; settled = (xs, refl) }

fewer_by_several : (new old more before size next some : ℕ) → new ≤ old + more → more ≤ most_changes → old + most_changes * before ≤ most_changes * size → next ≡ size + some → 0 < some → new + most_changes * before ≤ most_changes * next
fewer_by_several new old more before size next some a b c e l = omega arith

-- a log with several more names, whose changes are added to those that wait
pub several_more : (o : Outline) (w : ℕ) (posted log : Log) (list : LogList) (xs : List Name) (entries changes now : List Change) → 0 < length xs → IsUnposted o w posted log entries → AreChanges o w log (with_names list xs log) changes → ((loc : Loc) (t : ℕ) → sum_at now loc t ≡ sum_at entries loc t +ℤ sum_at changes loc t) → length now ≤ length entries + length changes → length changes ≤ most_changes → log_size log + length xs ≤ most_names → IsUnposted o w posted (with_names list xs log) now
several_more o w posted log list xs entries changes now some h c sums len few room =
    record {
      grows = grows_trans posted log (with_names list xs log) h.grows (several_grow list xs log);
      pending = λ loc t. telescoped (sum_at now loc t) (sum_at entries loc t) (sum_at changes loc t) (contribution o w posted loc t) (contribution o w log loc t) (contribution o w (with_names list xs log) loc t) (sums loc t) (h.pending loc t) (c.sums loc t);
      few_changes = fewer_by_several (length now) (length entries) (length changes) (log_size posted) (log_size log) (log_size (with_names list xs log)) (length xs) len few h.few_changes (several_larger list xs log) some;
      few_names = omega (arith, several_larger list xs log, room);
    }
