-- What becomes of the parts of a worker where a group is applied.
use Rattle.std.proofs.Common.{◌≡◌, ◌≢◌, ◌↔◌, ℕ, suc, ◌+◌, ◌<◌, ◌≤◌, ◌⊎◌, ◌==◌, Bool, true, false, if◌then◌else◌, List, [], ◌∷◌, ◌++◌, All, AllPairs, Contains, Some, drop, get_or, length, map, pos, set, slice_get, take, sym, ap, ◌∙◌, subst, ⊎_elim, arith}
use Rattle.std.proofs.Math.ListN.{drop_of_length-le}
use Rattle.std.proofs.Math.Seq.{take-length}
use Rattle.std.proofs.lemmas.Bool.{cases_order}
use Rattle.std.proofs.lemmas.List.{append-nil, length-map}
use Rattle.std.proofs.lemmas.Option.{slice_get-get_or}
use Rattle.mp_names.specs.declared.kinds.Kind.TheVariants.{Apply}
use Rattle.mp_names.specs.declared.locations.Loc.{Loc}
use Rattle.mp_names.specs.declared.locations.Loc.TheVariants.{Host}
use Rattle.mp_names.specs.declared.names.Name.{Name}
use Rattle.mp_names.specs.declared.names.Name.TheVariants.{Group}
use Rattle.mp_names.specs.Keeping.{IsWaiting}
use Rattle.mp_names.specs.Logs.{Log, is_pending, with_applied}
use Rattle.mp_names.specs.Outlines.{OutlineIsSound}
use Rattle.mp_names.specs.Limits.{last_time}
use Rattle.mp_model.specs.declared.value.Value.{Value}
use Rattle.mp_model.specs.Facts.{JobFacts, QueryFacts}
use Rattle.mp_model.specs.Folds.{cell_before, outputs_at}
use Rattle.mp_model.specs.Stages.{answer_rows, stage_records}
use Rattle.mp_rows.specs.Entries.{AreChanges, change_at}
use Rattle.mp_rows_laws.specs.Changes.{location_after, one_less, one_more, outputs_of, some_more}
use Rattle.mp_rows_laws.proofs.Applied.{applied}
use Rattle.mp_job.specs.Legal.{JobIsLegal}
use Rattle.mp_outline.specs.JobOutline.{name_of_record, name_of_row, outline_of}
use Rattle.mp_outline.specs.Laws.{group_at}
use Rattle.mp_msg.specs.Contents.{IsRecordOf}
use Rattle.mp_route.specs.Routed.{Routed}
use Rattle.mp_route.specs.Unsent.{HoldsAllBut, HoldsUnsent}
use Rattle.mp_model.specs.declared.record.Output.{Output}
use Rattle.mp_host_laws.specs.Applying.{IsApplied, woken_by}
use Rattle.mp_host_laws.specs.Hosted.{Hosted}
use Rattle.mp_host.specs.Ready.{IsReadyHere}
use Rattle.mp_host.specs.Telling.{AppliesGroup}
use Rattle.mp_host_laws.specs.HostOf.{IsHostOf, HostMatchesLogAndSeen, IsReadyAt}
use Rattle.mp_worker_invariant.specs.Given.{values_given}
use Rattle.mp_worker_invariant.specs.Laws.{CanDo, GroupsHandOn}
use Rattle.mp_worker_invariant.specs.Parts.{ArePartsOf, AtEach, HoldsRowsBut, IsHostAt, IsRouterAt, Parts}
use Rattle.mp_worker_invariant.proofs.Handed.{groups_hand_on}
use Rattle.mp_worker_invariant.proofs.Items.{same_each, same_length}
use Rattle.mp_worker_invariant.proofs.Others.{other_routers}
use Rattle.mp_worker_invariant.proofs.Standing.{host_at, informed, router_at, steps, told}
use Rattle.mp_worker_parts.specs.Kept.{HandsOn}
use Rattle.mp_worker_apply.specs.Applied.{IsApplying}
use Rattle.mp_worker_apply.specs.Onward.{GoOnward, content, records_at}
use Rattle.mp_worker_apply.proofs.Counted.{group_in_time, number_of_records, number_of_rows, woken_once}
use Rattle.mp_worker_parts.proofs.Keeping.{same_host_there}

-- a stage has a next one, or is the last
either_stage : (m n : ℕ) → m ≤ n → (A : Type 0) → (m < n → A) → (m ≡ n → A) → A
either_stage m n l A next ends = ⊎_elim (λ (e : m ≡ n). ends e) (λ (d : (m < n) ⊎ (n < m)). ⊎_elim next (λ (a : n < m). absurd (omega arith)) d) (cases_order m n)

-- a list that is written over by one as long
pub all_written : {X : Type 0} (n : ℕ) (old new : List X) → n ≡ length old → length new ≡ length old → take n (new ++ drop (length new) old) ≡ new
all_written n old new e f =
    let g : n ≡ length new = omega arith in
    rw (drop_of_length-le old {i = length new} (omega arith), append-nil new, g) (take-length new)

-- no more changes than groups that are woken, and two
pub changes_length : (host onward : Loc) (t n : ℕ) (woke : List ℕ) → length (one_less host t ∷ (some_more onward t n ++ map (one_more host) woke)) ≤ length woke + 2
changes_length host onward t n woke = by_number (n == 0)
  where
    by_number : (none : Bool) → length (one_less host t ∷ ((if none then [] else change_at onward t (pos n) ∷ []) ++ map (one_more host) woke)) ≤ length woke + 2
    by_number true = let l = length-map woke (one_more host) in omega arith
    by_number false = let l = length-map woke (one_more host) in omega arith

module _ {Cell : Type 0} (q : QueryFacts Cell) (job : JobFacts) (w : ℕ) (log : Log) where
  router_content : (j : ℕ) (r : Routed) → IsRouterAt q job w log j r → IsRouterAt q job w log j (content r)
  router_content j r h = (h.0, record { once = h.1.once; unsent = h.1.unsent })

  content_router : (j : ℕ) (r : Routed) → IsRouterAt q job w log j (content r) → IsRouterAt q job w log j r
  content_router j r h = (h.0, record { once = h.1.once; unsent = h.1.unsent })

  -- routers that hold what others do
  routers_still : (old new : List Routed) → map content new ≡ map content old → AtEach old (IsRouterAt q job w log) → AtEach new (IsRouterAt q job w log)
  routers_still = same_each content (IsRouterAt q job w log) (λ j x y is at. content_router j y (subst (IsRouterAt q job w log j) (sym is) (router_content j x at)))

-- what is enough for a group of the host of a stage is enough for that group of the stage
pub enough_here : {Cell : Type 0} (q : QueryFacts Cell) (job : JobFacts) (j t k most : ℕ) (hosts : List (Hosted Cell)) → j < length hosts → (h : Hosted Cell) → h ≡ get_or hosts j h
    → length (q.gives h.stage (cell_before q h.stage (stage_records q job.events h.stage) k t) (group_at q job h.stage t k)) + length (woken_by q h t k) ≤ most
    → (x : Hosted Cell) → slice_get hosts j ≡ Some x
    → length (q.gives x.stage (cell_before q x.stage (stage_records q job.events x.stage) k t) (group_at q job x.stage t k)) + length (woken_by q x t k) ≤ most
enough_here {Cell} q job j t k most hosts inside h is enough x at =
    subst
    (λ (y : Hosted Cell). length (q.gives y.stage (cell_before q y.stage (stage_records q job.events y.stage) k t) (group_at q job y.stage t k)) + length (woken_by q y t k) ≤ most)
    (sym (same_host_there hosts j h x inside is at)) enough

module _ {Cell : Type 0} {q : QueryFacts Cell} {job : JobFacts} {p : Parts Cell} (sound : OutlineIsSound (outline_of q job)) (are : ArePartsOf q job p) where
  -- with other rooms the parts are the same
  pub routers_roomy : (others : List Routed) → map content others ≡ map content p.routers → ArePartsOf q job (record p { routers = others })
  routers_roomy others same = other_routers are others (same_length content p.routers others same) (routers_still q job p.number p.log p.routers others same are.routers)

  -- The host of a stage

  module _ (j : ℕ) (below : j < job.shape.stages) (h : Hosted Cell) (is : h ≡ get_or p.hosts j h) where
    at : IsHostAt q job p.number p.log j h
    at = host_at are j below h is

    pub none_to_apply : ((t k : ℕ) → IsReadyAt q job p.log p.seen h t k → ⊥) → (x : Name) → CanDo q job p (Apply j) x → ⊥
    none_to_apply none x can = (told sound are).no_apply h at.1 none x (subst (λ (i : ℕ). CanDo q job p (Apply i) x) (sym at.0) can)

    module _ (hands_on : HandsOn q) (legal : JobIsLegal q job) (t k : ℕ) (ready : IsReadyAt q job p.log p.seen h t k) where
      can_apply : CanDo q job p (Apply j) (Group j t k)
      can_apply = subst (λ (i : ℕ). CanDo q job p (Apply i) (Group i t k)) at.0 ((told sound are).apply h t k at.1 ready)

      waits : IsWaiting (outline_of q job) p.number p.log j (Group j t k)
      waits = subst (λ (v : ℕ). IsWaiting (outline_of q job) v p.log j (Group j t k)) at.1 (subst (λ (i : ℕ). IsWaiting (outline_of q job) h.worker p.log i (Group i t k)) at.0 ready.least.0)

      hand_on : GroupsHandOn q job p.number p.log j t k
      hand_on = groups_hand_on q hands_on.nothing job legal sound p.number p.log j t k are.legal waits

      in_time : t ≤ last_time
      in_time = group_in_time q hands_on.nothing job sound j t k below waits.0 hands_on.later legal

      -- what it gives
      module _ (vs : List Value) (given : vs ≡ values_given q job h.stage t k) where
        given_here : vs ≡ values_given q job j t k
        given_here = subst (λ (i : ℕ). vs ≡ values_given q job i t k) at.0 given

        records_are : suc j < job.shape.stages → All (IsRecordOf q job (suc j)) (records_at q (suc j) t k vs)
        records_are next = rw given_here (hand_on.record_is next)

        rows_are : suc j ≡ job.shape.stages → All (Contains (answer_rows q job.events)) (outputs_at t k vs)
        rows_are ends = rw given_here (hand_on.row_is ends)

        number_is : (number : ℕ) → GoOnward q job j t k vs number → outputs_of (outline_of q job) j t k ≡ number
        number_is number goes =
            let to_next : suc j ≡ j + 1 = omega arith in
            either_stage (suc j) job.shape.stages (omega arith) (outputs_of (outline_of q job) j t k ≡ number)
            (λ next.
            number_of_records q hands_on.nothing job sound j t k below waits.0 next
            ∙ sym (goes.next (omega arith)
            ∙ ap (λ (n : ℕ). length (records_at q n t k vs)) (sym to_next)
            ∙ ap (λ (us : List Value). length (records_at q (suc j) t k us)) given_here))
            (λ ends. number_of_rows q hands_on.nothing job sound j t k below waits.0 ends legal.stages ∙ sym (goes.last (omega arith) ∙ ap (λ (us : List Value). length us) given_here))

        -- the changes that it brings
        changes_are : (onward : Loc) → onward ≡ location_after j (outline_of q job).stages → (number : ℕ) → GoOnward q job j t k vs number → (woke : List ℕ) → AllPairs (λ u v. u ≢ v) woke
            → ((u : ℕ) → (Contains woke u ↔ ((is_pending (outline_of q job) h.worker (with_applied p.log (Group h.stage t k)) (Group h.stage u k) ≡ true) × (is_pending (outline_of q job) h.worker p.log (Group h.stage u k) ≡ false))))
            → AreChanges (outline_of q job) p.number p.log (with_applied p.log (Group j t k)) (one_less (Host j) t ∷ (some_more onward t number ++ map (one_more (Host j)) woke))
        changes_are onward to number goes woke once wakes =
            let by_host = subst (λ (i : ℕ). (u : ℕ) → (Contains woke u ↔ ((is_pending (outline_of q job) h.worker (with_applied p.log (Group i t k)) (Group i u k) ≡ true) × (is_pending (outline_of q job) h.worker p.log (Group i u k) ≡ false)))) at.0 wakes in
            let wakes_here = subst (λ (v : ℕ). (u : ℕ) → (Contains woke u ↔ ((is_pending (outline_of q job) v (with_applied p.log (Group j t k)) (Group j u k) ≡ true) × (is_pending (outline_of q job) v p.log (Group j u k) ≡ false)))) at.1 by_host in
            rw (to, ← number_is number goes) (applied (outline_of q job) p.number p.log sound are.legal j t k woke waits once wakes_here)

        -- the parts after it
        module _ (new : Hosted Cell) (same_stage : new.stage ≡ h.stage) (same_worker : new.worker ≡ h.worker) (held : IsHostOf q job (with_applied p.log (Group h.stage t k)) new) where
          new_host : IsHostAt q job p.number (with_applied p.log (Group j t k)) j new
          new_host = (same_stage ∙ at.0, same_worker ∙ at.1, subst (λ (i : ℕ). IsHostOf q job (with_applied p.log (Group i t k)) new) at.0 held)

          with_records : suc j < job.shape.stages → (old r : Routed) → old ≡ get_or p.routers (suc j) old → r.stage ≡ old.stage
              → ((w : ℕ) (log : Log) → HoldsAllBut q job w log (map (name_of_record (suc j)) (records_at q (suc j) t k vs)) old → HoldsUnsent q job w log r)
              → ArePartsOf q job (record p { log = with_applied p.log (Group j t k); routers = set p.routers (suc j) r; hosts = set p.hosts j new })
          with_records next old r is_old same_router holds =
              let before = router_at are (suc j) next old is_old in
              let handed = subst (λ (us : List Value). HoldsAllBut q job p.number (with_applied p.log (Group j t k)) (map (name_of_record (suc j)) (records_at q (suc j) t k us)) old) (sym given_here) (hand_on.router next old before.0 before.1) in
              (steps sound are).apply j t k h new r at ready next new_host (same_router ∙ before.0, holds p.number (with_applied p.log (Group j t k)) handed)

          with_rows : suc j ≡ job.shape.stages → (rows : List Output)
              → ((w : ℕ) (log : Log) → HoldsRowsBut q job w log (map name_of_row (outputs_at t k vs)) p.unsent → HoldsRowsBut q job w log [] rows)
              → ArePartsOf q job (record p { log = with_applied p.log (Group j t k); hosts = set p.hosts j new; unsent = rows })
          with_rows ends rows holds =
              let handed = subst (λ (us : List Value). HoldsRowsBut q job p.number (with_applied p.log (Group j t k)) (map name_of_row (outputs_at t k us)) p.unsent) (sym given_here) (hand_on.rows ends p.unsent are.unsent) in
              (steps sound are).apply_last j t k h new rows at ready ends new_host (holds p.number (with_applied p.log (Group j t k)) handed)

    -- A group that the host applied: it was the one that may be applied, and its outputs and wakes are these
    module _ (hands_on : HandsOn q) (legal : JobIsLegal q job) (t k : ℕ) (vs : List Value) (woke : List ℕ) (new : Hosted Cell)
        (ready : IsReadyHere job p.seen p.notes h t k) (gives : vs ≡ values_given q job h.stage t k) (wakes : woke ≡ woken_by q h t k)
        (held : (l : Log) → HostMatchesLogAndSeen q job l p.seen h → AppliesGroup q job l p.seen h new t k woke) (applied : IsApplied q job t k h new) where
      does : AppliesGroup q job p.log p.seen h new t k woke
      does = held p.log (informed sound are j h at)

      to_next : suc j ≡ j + 1
      to_next = omega arith

      kept_next : j + 1 < job.shape.stages → (old r : Routed) → old ≡ get_or p.routers (j + 1) old → r.stage ≡ old.stage
          → ((w : ℕ) (log : Log) → HoldsAllBut q job w log (map (name_of_record (j + 1)) (records_at q (j + 1) t k vs)) old → HoldsUnsent q job w log r)
          → ArePartsOf q job (record p { log = with_applied p.log (Group j t k); routers = set p.routers (j + 1) r; hosts = set p.hosts j new })
      kept_next next old r is_old same holds =
          let here = subst (λ (n : ℕ). (w : ℕ) (log : Log) → HoldsAllBut q job w log (map (name_of_record n) (records_at q n t k vs)) old → HoldsUnsent q job w log r) (sym to_next) holds in
          rw (← to_next)
          (with_records hands_on legal t k does.ready vs gives new applied.stage applied.worker does.held (omega arith) old r (subst (λ (n : ℕ). old ≡ get_or p.routers n old) (sym to_next) is_old) same here)

      pub applying : IsApplying q job p j t k vs woke new
      applying = record {
        in_time = in_time hands_on legal t k does.ready;
        can = can_apply hands_on legal t k does.ready;
        records = λ next. subst (λ (n : ℕ). All (IsRecordOf q job n) (records_at q n t k vs)) to_next (records_are hands_on legal t k does.ready vs gives (omega arith));
        rows = λ ends. rows_are hands_on legal t k does.ready vs gives (omega arith);
        changes = λ onward to number goes. changes_are hands_on legal t k does.ready vs gives onward to number goes woke (woken_once q h t k woke wakes) does.woken;
        fits = λ most enough.
            let all = are.all_hosts in
            let there = slice_get-get_or p.hosts j h (omega arith) ∙ ap (λ (x : Hosted Cell). Some x) (sym is) in
            rw (gives, wakes) (enough h there);
        next = kept_next;
        last = λ ends. with_rows hands_on legal t k does.ready vs gives new applied.stage applied.worker does.held (omega arith);
      }
