-- What a host is after it has received a record, and after it has applied a group.
use Rattle.std.specs.Prelude.{◌≡◌, ◌↔◌, ◌⊎◌, ℕ, suc, ◌==◌, Bool, true, false, cond, not, All, Contains, filter, List, ◌∷◌, ◌++◌}
use Rattle.std.specs.List.{flat_map}
use Rattle.mp_bins.specs.Bins.{bin_of_key}
use Rattle.mp_model.specs.declared.record.Rec.{Rec}
use Rattle.mp_model.specs.Ascending.{ascending}
use Rattle.mp_model.specs.Entry.{Entry}
use Rattle.mp_model.specs.Facts.{JobFacts, QueryFacts}
use Rattle.mp_msg.specs.States.{cell_in}
use Rattle.mp_ordered.specs.InOrder.{put_in_order}
use Rattle.mp_postdated.specs.Wakes.{Has, IsWake}
use Rattle.mp_host_laws.specs.declared.held.Held.{Held}
use Rattle.mp_host_laws.specs.Hosted.{Hosted, group_rank, has_wake_at, is_held_before, is_of, records_of, wakes_in, waits_at}

-- Of two lists the second is the first with one item changed by R: the first one that passes the test
pub record FirstIsChanged {X : Type 0} (passes : X → Bool) (R : X → X → Type 0) (old new : List X) : Type 0 where
  pub front : List X
  pub one : X
  pub rest : List X
  pub changed : X
  pub was : old ≡ front ++ one ∷ rest
  pub is : new ≡ front ++ changed ∷ rest
  pub none_before : All (λ x. passes x ≡ false) front
  pub found : passes one ≡ true
  pub how : R one changed

module _ {Cell : Type 0} where
  -- the record is put at its place, and all else is as it was
  pub record IsReceived (r : Rec) (old new : Hosted Cell) : Type 0 where
    pub stage : new.stage ≡ old.stage
    pub worker : new.worker ≡ old.worker
    pub records : new.records ≡ put_in_order group_rank r old.records
    pub held : new.held ≡ old.held

  -- the group of a key at a time as the host has it
  abbrev pub group_here : Hosted Cell → ℕ → ℕ → Entry
  group_here h t k = record { time = t; key = k; woken = has_wake_at h t k; recs = records_of h t k }

  -- the times at which the records of that group wake the key, one after the other
  abbrev pub posts_here : QueryFacts Cell → Hosted Cell → ℕ → ℕ → List ℕ
  posts_here q h t k = flat_map (q.posts h.stage) (records_of h t k)

  -- those of them at which the key didn't wait before, ascending and each once
  abbrev pub woken_by : QueryFacts Cell → Hosted Cell → ℕ → ℕ → List ℕ
  woken_by q h t k = ascending (filter (λ u. not (waits_at h u k)) (posts_here q h t k))

  -- in the state of the key's bin the wake is used up, the posts are wakes, and the key's cell has taken the group
  pub record StateTakes (q : QueryFacts Cell) (j : ℕ) (group : Entry) (posts : List ℕ) (old new : Held Cell) : Type 0 where
    pub bin : new.bin ≡ old.bin
    pub since : new.since ≡ old.since
    pub wakes : (u l : ℕ) → (Has (wakes_in new) u l ↔ ((Has (wakes_in old) u l × (IsWake group.time group.key (u, l) → ⊥)) ⊎ ((l ≡ group.key) × Contains posts u)))
    pub cells : (l : ℕ) → cell_in (q.fresh j) new.state.cells l ≡ cond (l == group.key) (q.step j (cell_in (q.fresh j) old.state.cells group.key) group) (cell_in (q.fresh j) old.state.cells l)

  -- the group's records are gone, the state of its key's bin at its time has taken the group, and all else is as it was
  pub record IsApplied (q : QueryFacts Cell) (job : JobFacts) (t k : ℕ) (old new : Hosted Cell) : Type 0 where
    pub stage : new.stage ≡ old.stage
    pub worker : new.worker ≡ old.worker
    pub records : new.records ≡ filter (λ r. not (is_of t k r)) old.records
    pub held : FirstIsChanged (is_held_before (bin_of_key k job.shape.bins) (suc t)) (StateTakes q old.stage (group_here old t k) (posts_here q old t k)) old.held new.held
