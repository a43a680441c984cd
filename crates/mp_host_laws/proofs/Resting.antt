-- The state of a stay of a bin is what the bin has just before a time, where up to that time its groups are applied and from then on none.
use Rattle.std.proofs.Common.{◌≡◌, ◌↔◌, ◌⊎◌, ℕ, suc, ◌<◌, ◌≤◌, nat_lt, true, false, Option, None, Some, Contains, refl, sym, ap, ◌∙◌, subst, inl, inr, ⊎_elim, arith}
use Rattle.std.proofs.lemmas.Bool.{both_ways, cases_lt, le-ltb, lt-ltb, or_from, or_left, or_right}
use Rattle.mp_names.specs.declared.names.Name.TheVariants.{Rec as RecName, Group}
use Rattle.mp_names.specs.Names.{has, In}
use Rattle.mp_names.specs.Outlines.{Outline, OutlineIsSound, group_owner, groups_of, owner_before}
use Rattle.mp_names.specs.Logs.{EarlierApplied, Log}
use Rattle.mp_names.proofs.Listed.{opening_group, posted_group, record_group}
use Rattle.mp_bins.specs.Bins.{bin_of_key}
use Rattle.mp_model.specs.Entry.{Entry}
use Rattle.mp_model.specs.Facts.{JobFacts, QueryFacts}
use Rattle.mp_model.specs.Folds.{cell_before, fold_of}
use Rattle.mp_model.specs.QueryLaws.{LaterStagesPostNothing}
use Rattle.mp_model.specs.Stages.{stage_records}
use Rattle.mp_outline.specs.JobOutline.{outline_of}
use Rattle.mp_outline.specs.Laws.{timeline_of}
use Rattle.mp_outline.proofs.Outputs.{group_is, timeline_rises}
use Rattle.mp_outline.proofs.Stages.{group_named}
use Rattle.mp_outline.proofs.Waking.{wake_stands}
use Rattle.mp_postdated.specs.Wakes.{Has}
use Rattle.mp_msg.specs.States.{IsOfBin, IsOpening, IsPostedAt, IsStateBefore, cell_in}
use Rattle.mp_host_laws.specs.declared.held.Held.{Held}
use Rattle.mp_host_laws.specs.Hosted.{StateStands, began_before, wakes_in}
use Rattle.mp_host_laws.specs.HostOf.{CameInto, IsStateOf, IsWakeOf, OpensInto, is_taken_in}
use Rattle.mp_host_laws.proofs.Lists.{take_below}
use Rattle.mp_host_laws.proofs.Stays.{StaysSince, owned_in}

-- The worker owns the bin just before a time; of its groups those before that time that the worker owns are applied, and none from then on
pub record IsAppliedTo (o : Outline) (w : ℕ) (log : Log) (j b t : ℕ) : Type 0 where
  pub owner : owner_before o j b t ≡ w
  pub earlier : EarlierApplied o w log j b t
  pub none_later : (u k : ℕ) → o.bin_of k ≡ b → t ≤ u → has log.applied (Group j u k) ≡ false

module _ {Cell : Type 0} (q : QueryFacts Cell) (job : JobFacts) (sound : OutlineIsSound (outline_of q job)) (w : ℕ) (log : Log) (j b t : ℕ)
    (inside : j < job.shape.stages) (rests : IsAppliedTo (outline_of q job) w log j b t) where
  module _ (a : Option ℕ) (stays : StaysSince (outline_of q job) log j b t a) where
    -- the bin's groups before that time, since the stay began, are applied
    early : (u k : ℕ) → bin_of_key k job.shape.bins ≡ b → began_before (suc u) a ≡ true → u < t → In (Group j u k) (groups_of (outline_of q job) j) → In (Group j u k) log.applied
    early u k own began l group =
        let o = outline_of q job in
        let mine : group_owner o j u k ≡ w = ap (λ (c : ℕ). owner_before o j c (suc u)) own ∙ (owned_in o log j b t a stays (suc u) began (omega arith) ∙ rests.owner) in
        rests.earlier u k l own mine group

  -- a wake that came into the state was posted before that time
  came_before : (a : Option ℕ) → StaysSince (outline_of q job) log j b t a → (k v u : ℕ) → bin_of_key k job.shape.bins ≡ b → CameInto log j a k v u → v < t
  came_before a stays k v u own came =
      ⊎_elim
      (λ (l : v < t). l)
      (λ (l : t ≤ v). absurd (both_ways (has log.applied (Group j v k)) (rests.none_later v k own l) (applied a stays l came)))
      (cases_lt v t)
    where
      applied : (a : Option ℕ) → StaysSince (outline_of q job) log j b t a → t ≤ v → CameInto log j a k v u → In (Group j v k) log.applied
      applied None stays l came = came
      applied (Some m) stays l came =
          let less : m < t = stays.0 in
          ⊎_elim (λ (c : (v < m) × (m ≤ u)). let d : v < m = c.0 in absurd (omega arith)) (λ (c : (m ≤ v) × In (Group j v k) log.applied). c.1) came

  -- it is of a time since the stay began
  came_since : (a : Option ℕ) (k v u : ℕ) → v < u → CameInto log j a k v u → began_before (suc u) a ≡ true
  came_since None k v u l came = refl
  came_since (Some m) k v u l came =
      lt-ltb m (suc u) (⊎_elim (λ (c : (v < m) × (m ≤ u)). let d : m ≤ u = c.1 in omega arith) (λ (c : (m ≤ v) × In (Group j v k) log.applied). let d : m ≤ v = c.0 in omega arith) came)

  -- and what was posted before that time, for a time from then on, came into the state
  posted_came : (a : Option ℕ) → StaysSince (outline_of q job) log j b t a → (k v u : ℕ) → bin_of_key k job.shape.bins ≡ b → In (Group j v k) (groups_of (outline_of q job) j) → v < t → t ≤ u → CameInto log j a k v u
  posted_came None stays k v u own group l le = early None stays v k own refl l group
  posted_came (Some m) stays k v u own group l le =
      let less : m < t = stays.0 in
      ⊎_elim
      (λ (c : v < m). inl (c, omega arith))
      (λ (c : m ≤ v). inr (c, early (Some m) stays v k own (lt-ltb m (suc v) (omega arith)) l group))
      (cases_lt v m)

  -- so did an opening wake from then on
  opens_then : (a : Option ℕ) → StaysSince (outline_of q job) log j b t a → (u : ℕ) → t ≤ u → OpensInto a u
  opens_then None stays u l = tt
  opens_then (Some m) stays u l = let less : m < t = stays.0 in omega arith

  -- an opening wake that came into the state is of a time since the stay began
  opened_since : (a : Option ℕ) (u : ℕ) → OpensInto a u → began_before (suc u) a ≡ true
  opened_since None u opens = refl
  opened_since (Some m) u opens = let l : m ≤ u = opens in lt-ltb m (suc u) (omega arith)

  opening_stands : (u k : ℕ) → IsOpening q j k u → In (Group j u k) (groups_of (outline_of q job) j)
  opening_stands u k opening = opening_group (outline_of q job) j (Group j u k) (wake_stands q job j (u, k) inside opening)

  -- a group since the stay began that isn't applied is of a time from then on
  not_early : (a : Option ℕ) → StaysSince (outline_of q job) log j b t a → (u k : ℕ) → bin_of_key k job.shape.bins ≡ b → began_before (suc u) a ≡ true → In (Group j u k) (groups_of (outline_of q job) j) → has log.applied (Group j u k) ≡ false → t ≤ u
  not_early a stays u k own began group unapplied =
      ⊎_elim
      (λ (l : u < t). absurd (both_ways (has log.applied (Group j u k)) unapplied (early a stays u k own began l group)))
      (λ (l : t ≤ u). l)
      (cases_lt u t)

  -- the job begins with the wake, or a record before that time posts it
  abbrev IsWakeThen : ℕ → ℕ → Type 0
  IsWakeThen u k = IsOpening q j k u ⊎ ((v : ℕ) × (v < t) × IsPostedAt q job j k v u)

  wake_then : (a : Option ℕ) → StaysSince (outline_of q job) log j b t a → (u k : ℕ) → bin_of_key k job.shape.bins ≡ b → has log.applied (Group j u k) ≡ false → IsWakeOf q job log j a k u → (t ≤ u) × IsWakeThen u k
  wake_then a stays u k own unapplied wake =
      ⊎_elim
      (λ (c : IsOpening q j k u × OpensInto a u). (not_early a stays u k own (opened_since a u c.1) (opening_stands u k c.0) unapplied, inl c.0))
      (λ (c : (v : ℕ) × IsPostedAt q job j k v u × CameInto log j a k v u).
      let posted = c.1 in
      let later : c.0 < u = sound.posts_later j (RecName j c.0 k posted.0) u posted.1 posted.2 in
      let group = posted_group (outline_of q job) j c.0 k u posted.0 posted.1 posted.2 in
      (not_early a stays u k own (came_since a k c.0 u later c.2) group unapplied, inr (c.0, came_before a stays k c.0 u own c.2, posted)))
      wake

  then_wake : (a : Option ℕ) → StaysSince (outline_of q job) log j b t a → (u k : ℕ) → bin_of_key k job.shape.bins ≡ b → t ≤ u → IsWakeThen u k → IsWakeOf q job log j a k u
  then_wake a stays u k own l wake =
      ⊎_elim
      (λ (c : IsOpening q j k u). inl (c, opens_then a stays u l))
      (λ (c : (v : ℕ) × (v < t) × IsPostedAt q job j k v u).
      let posted = c.2 in
      inr (c.0, posted, posted_came a stays k c.0 u own (record_group (outline_of q job) j c.0 k posted.0 posted.1) c.1 l))
      wake

  rest_wakes : (s : Held Cell) → s.bin ≡ b → StaysSince (outline_of q job) log j b t s.since → IsStateOf q job log j s → (u k : ℕ) → bin_of_key k job.shape.bins ≡ b
      → (Has (wakes_in s) u k ↔ ((t ≤ u) × IsWakeThen u k))
  rest_wakes s bin stays st u k own = (
    (λ i. let c = (st.wakes u k (own ∙ sym bin)).0 i in wake_then s.since stays u k own c.0 c.1),
    (λ c. (st.wakes u k (own ∙ sym bin)).1 (rests.none_later u k own c.0, then_wake s.since stays u k own c.0 c.1)),
  )

  module _ (nothing : LaterStagesPostNothing q) where
    entry_group : (k : ℕ) (e : Entry) → Contains (timeline_of q job j k) e → In (Group j e.time k) (groups_of (outline_of q job) j)
    entry_group k e i = group_named q nothing job j k e.time inside (group_is q j k (stage_records q job.events j) e i).1

    -- the groups that were taken in are those before that time
    taken_early : (a : Option ℕ) → StaysSince (outline_of q job) log j b t a → (k : ℕ) → bin_of_key k job.shape.bins ≡ b → (e : Entry) → Contains (timeline_of q job j k) e → e.time < t → is_taken_in log j a e.time k ≡ true
    taken_early None stays k own e i l = early None stays e.time k own refl l (entry_group k e i)
    taken_early (Some m) stays k own e i l =
        ⊎_elim
        (λ (c : e.time < m). or_left (nat_lt e.time m) (has log.applied (Group j e.time k)) (lt-ltb e.time m c))
        (λ (c : m ≤ e.time). or_right (nat_lt e.time m) (has log.applied (Group j e.time k)) (early (Some m) stays e.time k own (lt-ltb m (suc e.time) (omega arith)) l (entry_group k e i)))
        (cases_lt e.time m)

    taken_late : (a : Option ℕ) → StaysSince (outline_of q job) log j b t a → (k : ℕ) → bin_of_key k job.shape.bins ≡ b → (u : ℕ) → t ≤ u → is_taken_in log j a u k ≡ false
    taken_late None stays k own u l = rests.none_later u k own l
    taken_late (Some m) stays k own u l =
        let less : m < t = stays.0 in
        or_from (nat_lt u m) (has log.applied (Group j u k)) (le-ltb u m (omega arith)) (rests.none_later u k own l)

    rest_cells : (s : Held Cell) → s.bin ≡ b → StaysSince (outline_of q job) log j b t s.since → IsStateOf q job log j s → (k : ℕ) → bin_of_key k job.shape.bins ≡ b
        → cell_in (q.fresh j) s.state.cells k ≡ cell_before q j (stage_records q job.events j) k t
    rest_cells s bin stays st k own =
        st.cells k (own ∙ sym bin)
        ∙ ap (fold_of q j (q.opening j k))
        (take_below (λ (e : Entry). e.time) (λ (e : Entry). is_taken_in log j s.since e.time k) t (timeline_of q job j k) (timeline_rises q j k (stage_records q job.events j))
        (taken_early s.since stays k own) (λ e i l. taken_late s.since stays k own e.time l))

    -- so it is what the bin has just before that time
    pub state_of_stay : (s : Held Cell) → s.bin ≡ b → StaysSince (outline_of q job) log j b t s.since → IsStateOf q job log j s → StateStands q job j s → IsStateBefore q job j b t s.state
    state_of_stay s bin stays st denotes =
        record {
          order = denotes.order;
          own = subst (λ (c : ℕ). IsOfBin q job j c s.state) bin denotes.own;
          cells = rest_cells s bin stays st;
          wakes = rest_wakes s bin stays st;
        }
