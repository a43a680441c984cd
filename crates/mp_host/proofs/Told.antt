-- What the laws of hosts tell of a host that keeps to what it has to.
use Rattle.std.proofs.Common.{◌≡◌, ◌↔◌, ◌⊎◌, ℕ, ◌<◌, ◌≤◌, List, Option, None, Some, IsSome, All, Contains, IfOk, IfSome, IfNone, OnOk, Result, Ok, Err, sym, ap, ◌∙◌, subst, ⊎_elim, inl, inr, refl}
use Rattle.std.proofs.lemmas.Bool.{cases_order}
use Rattle.std.proofs.lemmas.List.Elements.{All-contains, All-contains_itself, All-filter, All-weaker}
use Rattle.mp_names.specs.declared.names.Name.TheVariants.{Group}
use Rattle.mp_names.specs.Names.{IsLeast, Less}
use Rattle.mp_names.specs.Outlines.{OutlineIsSound}
use Rattle.mp_names.specs.Logs.{Log}
use Rattle.mp_names.specs.Keeping.{IsWaiting}
use Rattle.mp_stamps.specs.declared.seen.Seen.{Seen}
use Rattle.mp_bins.specs.Bins.{bin_of_key}
use Rattle.mp_bins.specs.Notes.{Notes}
use Rattle.mp_names.specs.Limits.{last_time}
use Rattle.mp_model.specs.declared.record.Rec.{Rec}
use Rattle.mp_model.specs.Facts.{JobFacts, QueryFacts}
use Rattle.mp_model.specs.QueryLaws.{HasStages, LaterStagesPostNothing, PostsAreLater, SumsFit}
use Rattle.mp_model.specs.Tables.{table_of}
use Rattle.mp_model.specs.Stages.{FoldsFit, stage_records}
use Rattle.mp_model.proofs.LastTimes.{records_in_time}
use Rattle.mp_job.specs.Legal.{JobIsLegal}
use Rattle.mp_job.proofs.Whole.{saved_fits}
use Rattle.mp_outline.specs.JobOutline.{outline_of}
use Rattle.mp_outline.proofs.Soundness.{outline_is_sound}
use Rattle.mp_msg.specs.Contents.{IsRecordOf}
use Rattle.mp_msg.specs.States.{BinContent, IsStateBefore}
use Rattle.mp_postdated.specs.Wakes.{ComesNoLater}
use Rattle.mp_host_laws.specs.declared.held.Held.{Held}
use Rattle.mp_host_laws.specs.Hosted.{Hosted, first_group, is_of, records_of, state_before}
use Rattle.mp_host_laws.specs.Applying.{IsApplied, IsReceived, woken_by}
use Rattle.mp_host_laws.specs.Moving.{IsPutIn, IsTakenOut, brought}
use Rattle.mp_host_laws.specs.HostOf.{HostMatchesLogAndSeen, IsReadyAt, OwnersAreCurrent}
use Rattle.mp_host_laws.specs.Laws.{FirstIsWhole, IsWholeHere}
use Rattle.mp_host_laws.proofs.Applied.{groups_are_held, woken_are_told}
use Rattle.mp_host_laws.proofs.Firsts.{first_waits}
use Rattle.mp_host_laws.proofs.Least.{first_is_least}
use Rattle.mp_host_laws.proofs.Coming.{packets_are_held}
use Rattle.mp_host_laws.proofs.Leaving.{bins_leave, leaving_bins_are_here}
use Rattle.mp_host_laws.proofs.Received.{records_are_held}
use Rattle.mp_host_laws.proofs.Returned.{bins_return}
use Rattle.mp_host_laws.proofs.Waiting.{record_waits}
use Rattle.mp_host_laws.proofs.WakeTimes.{wakes_in_time}
use Rattle.mp_host_laws.proofs.Whole.{first_is_whole}
use Rattle.mp_host.specs.Hosts.{IsHosted}
use Rattle.mp_host.specs.Moves.{GetsBack, GivesUp, NothingLeaves, TakesPacket}
use Rattle.mp_host.specs.Ready.{IsReadyHere}
use Rattle.mp_host.specs.Telling.{AppliesGroup, TakesRecord}

-- the laws of a query that hosts of a job stand on
pub record QueryKeeps {Cell : Type 0} (q : QueryFacts Cell) (job : JobFacts) : Type 0 where
  pub stages : HasStages q
  pub later : PostsAreLater q
  pub nothing : LaterStagesPostNothing q
  pub fit : JobIsLegal q job → FoldsFit q job.events

-- each query keeps to them in each job
pub query_keeps : {Cell : Type 0} (facts : List ℕ → QueryFacts Cell) (job : JobFacts) → HasStages (facts job.values) → PostsAreLater (facts job.values) → LaterStagesPostNothing (facts job.values) → SumsFit facts
    → QueryKeeps (table_of facts job) job
query_keeps facts job stages later nothing fit = record {
  stages = stages;
  later = later;
  nothing = nothing;
  fit = λ legal. fit job legal.events (saved_fits facts job job.from legal.saved);
}

module _ {Cell : Type 0} (q : QueryFacts Cell) (job : JobFacts) (keeps : QueryKeeps q job) (its : JobFacts) where
  sound_outline : JobIsLegal q job → OutlineIsSound (outline_of q job)
  sound_outline legal = outline_is_sound q keeps.stages keeps.later keeps.nothing job legal

  whole_law : JobIsLegal q job → FirstIsWhole q job
  whole_law legal = first_is_whole q keeps.nothing job (keeps.fit legal) legal (sound_outline legal)

  -- a record that is received is held by the log with it taken
  pub takes_record : (r : Rec) (old new : Hosted Cell) → IsHosted q job its old → IsRecordOf q job old.stage r → IsReceived r old new → TakesRecord q job r old new
  takes_record r old new h is received log host legal fresh = records_are_held q job log r old new host legal is fresh received

  -- a bin that may leave is given up, and where there is none nothing may leave
  pub gives_up : (b t : ℕ) (one : Held Cell) (old new : Hosted Cell) → IsHosted q job its old → IsTakenOut b t one old new → (log : Log) → GivesUp q job log b t one old new
  gives_up b t one old new h taken log host legal may = bins_leave q job (sound_outline h.legal) keeps.nothing log b t one old new h.order host legal may taken

  pub nothing_leaves : (b t : ℕ) (old : Hosted Cell) → IsHosted q job its old → state_before old b t ≡ None → (log : Log) → NothingLeaves q job log old b t
  nothing_leaves b t old h none log host legal may = is_none (state_before old b t) none (leaving_bins_are_here q job (sound_outline h.legal) log old b t host legal may)
    where
      is_none : (o : Option (Held Cell)) → o ≡ None → IsSome o → ⊥
      is_none None e some = cc
      is_none (Some s) e some = cc

  -- a bin that was taken out is back
  pub gets_back : (b t : ℕ) (one : Held Cell) (before old new : Hosted Cell) → IsPutIn one old new → (log : Log) → GetsBack q job log b t one before old new
  gets_back b t one before old new put log host taken = bins_return q job log b t one before old new host taken put

  -- what a packet brings is held by the log with it taken
  pub takes_packet : (b t : ℕ) (s : BinContent Cell) (old new : Hosted Cell) → IsHosted q job its old → IsStateBefore q job old.stage b t s → IsPutIn (brought b t s) old new → (log : Log) → TakesPacket q job log b t s old new
  takes_packet b t s old new h is put log host legal owed fresh = packets_are_held q job log b t s old new host legal owed fresh is put

  module _ (h : Hosted Cell) (hosted : IsHosted q job its h) where
    -- no record is of an earlier group than the first
    pub none_before : (t k : ℕ) → first_group h ≡ Some (t, k) → All (λ r. ComesNoLater (t, k) (r.time, r.key)) h.records
    none_before t k first =
        let least = first_waits q job h hosted.order t k first in
        All-weaker (Contains h.records) (λ (r : Rec). ComesNoLater (t, k) (r.time, r.key)) (λ r i. least.1 r.time r.key (record_waits h r.time r.key r i refl refl)) h.records (All-contains_itself h.records)

    -- no record is too late
    pub records_are_in_time : All (λ r. r.time ≤ last_time) h.records
    records_are_in_time =
        let early = records_in_time q keeps.later keeps.nothing (wakes_in_time q job hosted.legal) job.events hosted.legal.events h.stage in
        All-weaker (IsRecordOf q job h.stage) (λ (r : Rec). r.time ≤ last_time) (λ r is. All-contains (λ (r : Rec). r.time ≤ last_time) (stage_records q job.events h.stage) r early is.1) h.records hosted.order.content

    pub group_is_in_time : (t k : ℕ) → All (λ r. r.time ≤ last_time) (records_of h t k)
    group_is_in_time t k = All-filter (is_of t k) (λ (r : Rec). r.time ≤ last_time) h.records records_are_in_time

    module _ (seen : Seen) (notes : Notes) where
      -- a group that is ready here is whole
      pub whole_here : (t k : ℕ) → IsReadyHere job seen notes h t k → (log : Log) × HostMatchesLogAndSeen q job log seen h × OwnersAreCurrent q job notes seen h.stage → IsWholeHere q job h t k
      whole_here t k ready told = (whole_law hosted.legal told.0 seen h t k hosted.order told.1 hosted.stage hosted.worker ready.first ready.mail ready.state ready.early).1

      ready_by_log : (log : Log) → HostMatchesLogAndSeen q job log seen h → (t k : ℕ) → IsReadyHere job seen notes h t k → IsReadyAt q job log seen h t k
      ready_by_log log informed t k ready = (whole_law hosted.legal log seen h t k hosted.order informed hosted.stage hosted.worker ready.first ready.mail ready.state ready.early).0

-- of two groups of a stage the first by time, and then by key, is the lesser
earlier_less : (j t k u l : ℕ) → t < u → Less (Group j t k) (Group j u l)
earlier_less j t k u l m = inr (refl, inl m)

lower_less : (j t k l : ℕ) → k < l → Less (Group j t k) (Group j t l)
lower_less j t k l m = inr (refl, inr (refl, inr (refl, inl m)))

-- so two least groups of a stage are one
one_least : {Cell : Type 0} (q : QueryFacts Cell) (job : JobFacts) (w : ℕ) (log : Log) (j t k u l : ℕ)
    → IsLeast (IsWaiting (outline_of q job) w log j) (Group j t k) → IsLeast (IsWaiting (outline_of q job) w log j) (Group j u l) → ◌≡◌ {A = ℕ × ℕ} (u, l) (t, k)
one_least q job w log j t k u l a b =
    ⊎_elim
    (λ (e : t ≡ u).
    ⊎_elim
    (λ (f : k ≡ l). ap2 e f)
    (λ (f : (k < l) ⊎ (l < k)).
    ⊎_elim
    (λ (m : k < l). absurd (b.1 (Group j t k) a.0 (subst (λ (n : ℕ). Less (Group j t k) (Group j n l)) e (lower_less j t k l m))))
    (λ (m : l < k). absurd (a.1 (Group j u l) b.0 (subst (λ (n : ℕ). Less (Group j n l) (Group j t k)) e (lower_less j t l k m))))
    f)
    (cases_order k l))
    (λ (e : (t < u) ⊎ (u < t)).
    ⊎_elim
    (λ (m : t < u). absurd (b.1 (Group j t k) a.0 (earlier_less j t k u l m)))
    (λ (m : u < t). absurd (a.1 (Group j u l) b.0 (earlier_less j u l t k m)))
    e)
    (cases_order t u)
  where
    ap2 : t ≡ u → k ≡ l → ◌≡◌ {A = ℕ × ℕ} (u, l) (t, k)
    ap2 e f = cc

module _ {Cell : Type 0} (q : QueryFacts Cell) (job : JobFacts) (keeps : QueryKeeps q job) (its : JobFacts) (h : Hosted Cell) (hosted : IsHosted q job its h) (seen : Seen) (notes : Notes) (log : Log) (informed : HostMatchesLogAndSeen q job log seen h) where
  -- the least group that waits by the log is the first here
  least_first : (t k : ℕ) → IsLeast (IsWaiting (outline_of q job) h.worker log h.stage) (Group h.stage t k) → first_group h ≡ Some (t, k)
  least_first t k least = found (first_group h) refl
    where
      law : ((u l : ℕ) → first_group h ≡ Some (u, l) → IsLeast (IsWaiting (outline_of q job) h.worker log h.stage) (Group h.stage u l)) × (first_group h ≡ None → (u l : ℕ) → IsWaiting (outline_of q job) h.worker log h.stage (Group h.stage u l) → ⊥)
      law = first_is_least q job (sound_outline q job keeps its hosted.legal) log h hosted.order informed.host informed.legal hosted.stage

      found : (o : Option (ℕ × ℕ)) → first_group h ≡ o → first_group h ≡ Some (t, k)
      found None e = absurd (law.1 e t k least.0)
      found (Some g) e = e ∙ ap (λ (p : ℕ × ℕ). Some p) (one_least q job h.worker log h.stage t k g.0 g.1 least (law.0 g.0 g.1 e))

  ready_by_host : OwnersAreCurrent q job notes seen h.stage → (t k : ℕ) → IsReadyAt q job log seen h t k → IsReadyHere job seen notes h t k
  ready_by_host knows t k ready = record {
    first = least_first t k ready.least;
    mail = ready.mail;
    state = ready.state;
    owned = knows.owners t (bin_of_key k job.shape.bins) ready.state ∙ ready.in_hand.0;
    early = ready.early;
  }

  -- a group that is ready here is just the one that is ready by the log
  pub ready_exact : OwnersAreCurrent q job notes seen h.stage → (r : Option (ℕ × ℕ))
      → IfSome r (λ g. IsReadyHere job seen notes h g.0 g.1) → IfNone r ((t k : ℕ) → IsReadyHere job seen notes h t k → ⊥)
      → (t k : ℕ) → (r ≡ Some (t, k)) ↔ IsReadyAt q job log seen h t k
  ready_exact knows None some none t k = ((λ e. absurd (no_group e)), (λ ready. absurd (none t k (ready_by_host knows t k ready))))
    where
      no_group : ◌≡◌ {A = Option (ℕ × ℕ)} None (Some (t, k)) → ⊥
      no_group e = cc
  ready_exact knows (Some g) some none t k = (
    (λ e. ready_by_log q job keeps its h hosted seen notes log informed t k (is_this e)),
    (λ ready. let here = ready_by_host knows t k ready in sym some.first ∙ here.first),
  )
    where
      is_this : ◌≡◌ {A = Option (ℕ × ℕ)} (Some g) (Some (t, k)) → IsReadyHere job seen notes h t k
      is_this e = let same : ◌≡◌ {A = ℕ × ℕ} g (t, k) = cc in subst (λ (p : ℕ × ℕ). IsReadyHere job seen notes h p.0 p.1) same some

  -- where no group is ready here none is by the log
  pub none_by_log : OwnersAreCurrent q job notes seen h.stage → ((t k : ℕ) → IsReadyHere job seen notes h t k → ⊥) → (t k : ℕ) → IsReadyAt q job log seen h t k → ⊥
  none_by_log knows none t k ready = none t k (ready_by_host knows t k ready)

  -- the group that was ready here is applied by the log too
  pub applies_group : (new : Hosted Cell) (t k : ℕ) (woke : List ℕ) → IsReadyHere job seen notes h t k → IsApplied q job t k h new → woke ≡ woken_by q h t k → AppliesGroup q job log seen h new t k woke
  applies_group new t k woke ready applied same = record {
    ready = ready_by_log q job keeps its h hosted seen notes log informed t k ready;
    held = groups_are_held q keeps.nothing job sound log seen h new t k hosted.order informed hosted.stage hosted.worker ready.first ready.mail ready.state applied;
    woken = λ u. rw same (woken_are_told q keeps.nothing job sound log seen h t k u hosted.order informed hosted.stage hosted.worker ready.first ready.mail ready.state);
  }
    where
      sound : OutlineIsSound (outline_of q job)
      sound = sound_outline q job keeps its hosted.legal

-- no two groups are ready here
pub one_ready : {Cell : Type 0} (job : JobFacts) (seen : Seen) (notes : Notes) (h : Hosted Cell) (t k u l : ℕ)
    → IsReadyHere job seen notes h t k → IsReadyHere job seen notes h u l → (t ≡ u) × (k ≡ l)
one_ready job seen notes h t k u l a b = apart (sym a.first ∙ b.first)
  where
    apart : ◌≡◌ {A = Option (ℕ × ℕ)} (Some (t, k)) (Some (u, l)) → (t ≡ u) × (k ≡ l)
    apart e = let same : ◌≡◌ {A = ℕ × ℕ} (t, k) (u, l) = cc in (ap (λ (p : ℕ × ℕ). p.0) same, ap (λ (p : ℕ × ℕ). p.1) same)

-- what follows of a value that there is
pub on_done : {A E : Type 0} (r : Result A E) {P : Type 0} {Q R : A → Type 0} → OnOk r P → IfOk r Q → ((a : A) → P → Q a → R a) → IfOk r R
on_done (Ok a) p q f = f a p q
on_done (Err e) p q f = tt
