-- What a standing tells of a worker of the machine.
use Rattle.std.specs.Prelude.{◌≡◌, ◌↔◌, ℕ, ◌+◌, ◌<◌, ◌≤◌, ◌&&◌, ◌==◌, IsTrue, Bool, true, false, List, [], ◌∷◌, filter, get_or, length, slice_set, suc, None, Some}
use Rattle.mp_names.specs.declared.names.Name.{Name}
use Rattle.mp_names.specs.declared.kinds.Kind.{Kind}
use Rattle.mp_names.specs.declared.kinds.Kind.TheVariants.{Ingest, SendControl, Extract, Apply, SendRow}
use Rattle.mp_names.specs.declared.locations.Loc.{Loc}
use Rattle.mp_names.specs.Names.{ascending}
use Rattle.mp_names.specs.Outlines.{Outline, receiver}
use Rattle.mp_names.specs.Logs.{Log}
use Rattle.mp_names.specs.Frontiers.{is_held}
use Rattle.mp_names.specs.Limits.{most_stages}
use Rattle.mp_names.specs.Locations.{IsLocation}
use Rattle.mp_machine.specs.Worlds.{Worker}
use Rattle.mp_stamps.specs.Seen.{seen_at}
use Rattle.mp_player_laws.specs.Numbers.{numbers_of, StandsAt}
use Rattle.mp_player_laws.specs.WorkLeft.{left_at, work_of}
use Rattle.mp_chart.specs.declared.work.Work.{Work}
use Rattle.mp_chart.specs.Left.{work_at}
use Rattle.mp_chart.specs.Entries.{entries_of, records_given}
use Rattle.mp_chart.specs.Lists.{to_do}
use Rattle.mp_standing.specs.Held.{with_all}
use Rattle.mp_chart.specs.declared.entry.Entry.{Entry}
use Rattle.mp_standing.specs.declared.standing.Standing.{Standing}
use Rattle.mp_standing.specs.Numbers.{AreNumbers}

-- these are the records of the stage that the worker holds to route, by receiver
pub record AreHeld (o : Outline) (w : ℕ) (log : Log) (j : ℕ) (held : List (List Entry)) : Type 0 where
  pub receivers : length held ≡ o.workers
  pub records : (v : ℕ) → v < o.workers → get_or held v [] ≡ entries_of o (filter (λ y. is_held o w log y && receiver o y == v) (ascending (o.records j)))

-- The job has no more stages than there are numbers of; the numbers are those of the worker's log, and the records those that it holds; it saw these frontiers and this version; its log is the posted one where it hasn't changed; and what it had left to do when it posted is what it has left now, with what it has done since
pub record Stands (o : Outline) (w : ℕ) (standing : Standing) (worker : Worker) : Type 0 where
  pub done : AreNumbers o standing.done (numbers_of worker.log)
  pub few : o.stages ≤ most_stages
  pub stages : length standing.held.items ≡ o.stages
  pub held : (j : ℕ) → j < o.stages → AreHeld o w worker.log j (get_or standing.held.items j [])
  pub seen_stages : standing.seen.stages ≡ o.stages
  pub seen : (at : Loc) → IsLocation o.stages at → seen_at standing.seen at ≡ worker.seen at
  pub version : standing.seen.version ≡ worker.version
  pub changed : IsTrue standing.changed ↔ (worker.log ≡ worker.posted → ⊥)
  pub since : (a : Loc) (t : ℕ) → left_at o w worker.posted a t ≡ left_at o w worker.log a t + work_at a t standing.since.items

-- the work that a step with this first name does at this time, of so many names; where it does none, as one that writes, its number is 0
pub record IsWorkDone (kind : Kind) (x : Name) (t n : ℕ) (work : Work) : Type 0 where
  pub there : (a : Loc) → work_of kind x ≡ Some a → (work.loc ≡ a) × (work.count ≡ n)
  pub none : work_of kind x ≡ None → work.count ≡ 0
  pub time : work.time ≡ t

-- The records that come with a step along a list have come: with one that ingests the record of its entry, to those of the first stage; with one that applies a group those that it gives, to those of the next stage
abbrev pub HasGiven : Outline → ℕ → Kind → ℕ → Entry → List (List (List Entry)) → List (List (List Entry)) → Type 0
HasGiven o w Ingest place e old new = new ≡ slice_set old 0 (with_all (get_or old 0 []) (e ∷ []))
HasGiven o w (Apply j) place e old new = (x : Name) → StandsAt (to_do o w (Apply j)) place x → new ≡ slice_set old (suc j) (with_all (get_or old (suc j) []) (entries_of o (records_given o x)))
HasGiven o w _ place e old new = new ≡ old

-- a step along a list of this kind sends its name
abbrev pub sends : Kind → Bool
sends SendControl = true
sends (Extract j) = true
sends SendRow = true
sends _ = false
