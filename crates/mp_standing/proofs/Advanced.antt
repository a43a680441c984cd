-- A standing stands for its worker after a step along a list.
use Rattle.std.proofs.Common.{◌≡◌, ◌↔◌, ℕ, ◌+◌, suc, Bool, true, List, [], ◌∷◌, ◌++◌, length, refl, sym, ap, ◌∙◌, subst}
use Rattle.std.proofs.lemmas.Bool.{false≢true}
use Rattle.std.proofs.lemmas.List.{length-set}
use Rattle.std.specs.Prelude.{IsTrue}
use Rattle.mp_names.specs.declared.names.Name.{Name}
use Rattle.mp_names.specs.declared.kinds.Kind.{Kind}
use Rattle.mp_names.specs.declared.kinds.Kind.TheVariants.{Ingest, SendControl, Route, Receive, Extract, Settle, Apply, SendRow, Write, Exchange}
use Rattle.mp_names.specs.declared.locations.Loc.{Loc}
use Rattle.mp_names.specs.Outlines.{Outline, OutlineIsSound, time_of}
use Rattle.mp_names.specs.Logs.{Log}
use Rattle.mp_machine.specs.Worlds.{World, Worker}
use Rattle.mp_machine.specs.Steps.{CanStep, logged, names_of, stepped}
use Rattle.mp_machine.proofs.Puts.{put_here}
use Rattle.mp_machine.proofs.Worlds.{run_right, WorldIsRight}
use Rattle.mp_stamps.specs.declared.seen.Seen.{Seen}
use Rattle.mp_stamps.specs.Seen.{seen_at}
use Rattle.mp_player_laws.specs.WorkLeft.{left_at, WorkFalls}
use Rattle.mp_player_laws.proofs.Doing.{does}
use Rattle.mp_player_laws.specs.Numbers.{numbers_of, StandsAt}
use Rattle.mp_player_laws.proofs.Rising.{numbers_rise}
use Rattle.mp_player_laws.proofs.Changing.{log_changes}
use Rattle.mp_chart.specs.declared.work.Work.{Work}
use Rattle.mp_chart.specs.Left.{work_at}
use Rattle.mp_chart.specs.declared.entry.Entry.{Entry}
use Rattle.mp_chart.specs.Entries.{entry_of}
use Rattle.mp_chart.specs.Lists.{goes_along, to_do}
use Rattle.mp_standing.specs.declared.standing.Standing.{Standing}
use Rattle.mp_standing.specs.Numbers.{done_at, IsCounted, AreNumbers}
use Rattle.mp_standing.specs.Standings.{Stands, HasGiven, IsWorkDone}
use Rattle.mp_standing.specs.Advancing.{IsReached}
use Rattle.mp_standing.proofs.Counting.{is_counted, numbers_more}
use Rattle.mp_standing.proofs.Working.{since_more}
use Rattle.mp_standing.proofs.After.{given_held}

-- a world that a run reaches is right
pub reached_right : (o : Outline) (depth : ℕ) (world : World) → IsReached o depth world → WorldIsRight o depth world
reached_right o depth world r = subst (WorldIsRight o depth) (sym r.run) (run_right o r.sound depth r.steps)

pub one_name : (o : Outline) (world : World) (w : ℕ) (kind : Kind) (x : Name) → goes_along kind ≡ true → length (names_of o world w kind x) ≡ 1
one_name o world w (Route j) x g = absurd (false≢true g)
one_name o world w (Receive v) x g = absurd (false≢true g)
one_name o world w _ x g = refl

-- What a step has changed in a standing
pub record HasChanged (o : Outline) (w : ℕ) (kind : Kind) (x : Name) (work : Work) (old new : Standing) : Type 0 where
  pub more : IsCounted kind → done_at new.done kind ≡ done_at old.done kind + 1
  pub others : (k : Kind) → (k ≡ kind → ⊥) → done_at new.done k ≡ done_at old.done k
  pub since : new.since.items ≡ old.since.items ++ work ∷ []
  pub changed : new.changed ≡ true
  pub seen : new.seen ≡ old.seen

module _ (o : Outline) (depth : ℕ) (world : World) (reached : IsReached o depth world) (w : ℕ) (kind : Kind) (x : Name) (can : CanStep o depth world w kind x) where
  abbrev ok : OutlineIsSound o
  ok = reached.sound

  abbrev right : WorldIsRight o depth world
  right = reached_right o depth world reached

  abbrev pub new_log : Log
  new_log = logged kind (world.worker w).log (names_of o world w kind x)

  abbrev pub new_worker : Worker
  new_worker = record (world.worker w) { log = logged kind (world.worker w).log (names_of o world w kind x) }

  -- what stands for the worker with its new log stands for it after the step
  pub stands_there : (new : Standing) → Stands o w new new_worker → Stands o w new ((stepped o world w kind x).worker w)
  stands_there new s = subst (Stands o w new) (sym (put_here w w new_worker world.worker refl)) s

  abbrev IsSince : List Work → Type 0
  IsSince since = (a : Loc) (t : ℕ) → left_at o w (world.worker w).posted a t ≡ left_at o w new_log a t + work_at a t since

  -- what it did since it posted is more by this work
  pub work_since : (old : Standing) (work : Work) (n : ℕ) → length (names_of o world w kind x) ≡ n → IsWorkDone kind x (time_of o x) n work → Stands o w old (world.worker w) → (since : List Work) → since ≡ old.since.items ++ work ∷ [] → IsSince since
  work_since old work n e is s since same =
      let falls = subst (WorkFalls o w (world.worker w).log new_log kind x) e (does o ok depth world right w can.0.0 kind x can) in
      subst IsSince (sym same) (since_more o w (world.worker w).log new_log kind x n falls work is (world.worker w).posted old.since.items s.since)

  -- and its log isn't the posted one
  pub has_changed : (b : Bool) → b ≡ true → IsTrue b ↔ (new_log ≡ (world.worker w).posted → ⊥)
  has_changed b e = ((λ t c. log_changes o ok depth world w (right.grows w can.0.0) kind x can c), (λ n. e))

  pub advanced :
      (old new : Standing) (work : Work)
      → goes_along kind ≡ true
      → StandsAt (to_do o w kind) (done_at old.done kind) x
      → HasChanged o w kind x work old new
      → IsWorkDone kind x (time_of o x) 1 work
      → HasGiven o w kind (done_at old.done kind) (entry_of o x) old.held.items new.held.items
      → length new.held.items ≡ length old.held.items
      → Stands o w old (world.worker w)
      → Stands o w new ((stepped o world w kind x).worker w)
  advanced old new work g at c is given long s =
      stands_there new
      (record {
        done =
            subst (AreNumbers o new.done) (sym (numbers_rise o ok depth world w kind x can))
            (numbers_more o old.done new.done (numbers_of (world.worker w).log) kind s.done g (c.more (is_counted o kind s.few can.0.1 g)) c.others);
        few = s.few;
        stages = long ∙ s.stages;
        held = given_held o ok depth world w (right.logs w can.0.0) kind x (done_at old.done kind) g at can old.held.items new.held.items s.stages given s.held;
        seen_stages = ap (λ (v : Seen). v.stages) c.seen ∙ s.seen_stages;
        seen = λ a l. ap (λ (v : Seen). seen_at v a) c.seen ∙ s.seen a l;
        version = ap (λ (v : Seen). v.version) c.seen ∙ s.version;
        changed = has_changed new.changed c.changed;
        since = work_since old work 1 (one_name o world w kind x g) is s new.since.items c.since;
      })

-- lists that get records stay as many
pub as_many : (o : Outline) (w : ℕ) (kind : Kind) (place : ℕ) (x : Name) (old new : List (List (List Entry))) → StandsAt (to_do o w kind) place x → HasGiven o w kind place (entry_of o x) old new → length new ≡ length old
as_many o w Ingest place x old new at given = ap length given ∙ length-set old 0 _
as_many o w (Apply j) place x old new at given = ap length (given x at) ∙ length-set old (suc j) _
as_many o w SendControl place x old new at given = ap length given
as_many o w (Route j) place x old new at given = ap length given
as_many o w (Receive v) place x old new at given = ap length given
as_many o w (Extract j) place x old new at given = ap length given
as_many o w (Settle j) place x old new at given = ap length given
as_many o w SendRow place x old new at given = ap length given
as_many o w Write place x old new at given = ap length given
as_many o w Exchange place x old new at given = ap length given
