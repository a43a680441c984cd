-- What is known of a group that is applied where there is room for it.
use Rattle.std.proofs.Common.{◌≡◌, ◌≤◌, ◌++◌, ℕ, ◌+◌, ◌<◌, List, arith, drop, length, map, take, sym, ap, ◌∙◌, ◌∷◌, [], get_or, Some}
use Rattle.mp_model.specs.declared.record.Output.{Output}
use Rattle.mp_model.specs.Facts.{JobFacts, QueryFacts}
use Rattle.mp_route.specs.Routed.{Routed}
use Rattle.mp_host_laws.specs.Hosted.{Hosted}
use Rattle.mp_worker_invariant.specs.Parts.{Parts}
use Rattle.mp_worker_invariant.proofs.Items.{same_length}
use Rattle.mp_worker_apply.specs.Onward.{content}
use Rattle.mp_worker_apply.proofs.Applied.{all_written, routers_roomy, changes_length}
use Rattle.mp_worker_parts.specs.Kept.{IsKept}
use Rattle.mp_worker_parts.proofs.Keeping.{kept_as, contents}
use Rattle.std.specs.Vec.{vec_capacity}
use Rattle.std.proofs.lemmas.Option.{slice_get-get_or, slice_get_past}
use Rattle.mp_names.specs.declared.locations.Loc.TheVariants.{Host}
use Rattle.mp_names.specs.declared.locations.Loc.{Loc}
use Rattle.mp_names.specs.declared.pointstamps.Change.{Change}
use Rattle.mp_model.specs.declared.value.Value.{Value}
use Rattle.mp_rows_laws.specs.Changes.{one_less, one_more, some_more}
use Rattle.mp_host.specs.Ready.{IsReadyHere}
use Rattle.mp_output.specs.Unwritten.{Unwritten}
use Rattle.mp_worker_parts.specs.declared.lists.ChangeLists.{ChangeLists}
use Rattle.mp_worker_apply.specs.Applied.{IsApplying}
use Rattle.mp_worker_parts.specs.Contents.{Contents}
use Rattle.mp_worker_apply.specs.Applying.{GroupIsReady, HasRoomToApply, IsEnoughFor}

-- Of a group that is applied: there is room in the log, in the list of changes, which is empty, and in the router of the next stage or in the rows to be sent
pub record GroupFits {Cell : Type 0} (job : JobFacts) (p : Parts Cell) (room_for_names room_for_changes : ℕ) (rows : Unwritten) (lists : ChangeLists)
    (j t : ℕ) (vs : List Value) (woke : List ℕ) : Type 0 where
  pub names : 1 ≤ room_for_names
  pub changes : (onward : Loc) (number : ℕ) (listed : List Change)
      → listed ≡ one_less (Host j) t ∷ (some_more onward t number ++ map (one_more (Host j)) woke) → length listed ≤ room_for_changes
  pub empty : lists.changes.items ≡ []
  pub list : length woke + 2 ≤ vec_capacity lists.changes
  pub router : j + 1 < job.shape.stages → (r : Routed) → r ≡ get_or p.routers (j + 1) r → length vs ≤ r.room
  pub unsent : job.shape.stages ≤ j + 1 → length vs ≤ rows.room

module _ {Cell : Type 0} {q : QueryFacts Cell} {job its : JobFacts} {p : Parts Cell} (kept : IsKept q job its p) where
  -- room is made where the outputs of a group go
  pub onward_roomy : (roomy : List Routed) (n : ℕ) (others : List Output) → n ≡ length p.routers → map content roomy ≡ map content p.routers → others ≡ p.unsent
      → IsKept q job its (record p { routers = take n (roomy ++ drop (length roomy) p.routers); unsent = others })
  onward_roomy roomy n others count same still =
      rw (all_written n p.routers roomy count (same_length content p.routers roomy same), still) (kept_as kept (routers_roomy kept.sound kept.parts roomy same))

  module _ {names changes : ℕ} {unsent unwritten : Unwritten} {lists : ChangeLists} {now : Contents Cell} (is : contents p names changes unsent unwritten lists ≡ now) where
    -- a group of the stage that may be applied is ready at its host
    pub ready_there : {j t k : ℕ} → j < job.shape.stages → {h : Hosted Cell} → h ≡ get_or p.hosts j h → GroupIsReady job j t k now → IsReadyHere job p.seen p.notes h t k
    ready_there {j = j} below {h = h} found given =
        let ready = rw (← is) at given in
        let all = kept.parts.all_hosts in
        ready h (slice_get-get_or p.hosts j h (omega arith) ∙ ap (λ (x : Hosted Cell). Some x) (sym found))

    pub group_fits : {j t k : ℕ} {vs : List Value} {woke : List ℕ} {new : Hosted Cell} → IsApplying q job p j t k vs woke new
        → (most : ℕ) × HasRoomToApply (j + 1) most now × IsEnoughFor q job j t k most now → GroupFits job p names changes unsent lists j t vs woke
    group_fits {j = j} {t = t} {vs = vs} {woke = woke} told given =
        let room = rw (← is) at given in
        let fits = told.fits room.0 room.2 in
        let all = kept.parts.all_routers in
        let enough = room.1.changes in
        record {
          names = room.1.names;
          changes = λ onward number listed e. let l = changes_length (Host j) onward t number woke in rw e (omega arith);
          empty = room.1.empty;
          list = let capacity = room.1.list in omega arith;
          router = λ next r found.
              let there = slice_get-get_or p.routers (j + 1) r (omega arith) ∙ ap (λ (x : Routed). Some x) (sym found) in
              let roomy = room.1.router r there in
              omega arith;
          unsent = λ ends. let roomy = room.1.unsent (slice_get_past p.routers (j + 1) (omega arith)) in omega arith;
        }
