-- The first group that waits at a host is whole, once the frontiers of records and packets have passed its time.
use Rattle.std.proofs.Common.{◌≡◌, ◌≢◌, ◌⊎◌, ℕ, suc, ◌<◌, ◌≤◌, ◌==◌, nat_lt, true, false, Option, None, Some, List, [], ◌∷◌, filter, take_while, Contains, refl, sym, ap, ◌∙◌, subst, inl, inr, ⊎_elim, arith}
use Rattle.std.specs.Option.{is_some, option_map_or}
use Rattle.std.proofs.lemmas.Bool.{and_from, both_ways, cases_lt, cases_order, eq-eqb, false_from_ne_true, le-ltb, lt-ltb, ltb-true, or_from, or_left, or_right}
use Rattle.std.proofs.lemmas.List.Elements.{All-contains}
use Rattle.std.proofs.lemmas.List.Sums.{take_while-cons}
use Rattle.mp_names.specs.declared.locations.Loc.TheVariants.{Mail, State}
use Rattle.mp_names.specs.declared.names.Name.TheVariants.{Rec as RecName, Packet, Group}
use Rattle.mp_names.specs.Names.{has, In, is_before, IsLeast}
use Rattle.mp_names.specs.Outlines.{IsBeforeStop, OutlineIsSound, groups_of}
use Rattle.mp_names.specs.Logs.{Log, LogIsLegal, has_wake}
use Rattle.mp_names.specs.Frontiers.{HasPassed}
use Rattle.mp_names.specs.Keeping.{GroupIsWhole, IsWaiting}
use Rattle.mp_names.proofs.Lists.{same_tag}
use Rattle.mp_names.proofs.Hosts.{pending_new}
use Rattle.mp_names.proofs.Whole.{whole}
use Rattle.mp_stamps.specs.declared.seen.Seen.{Seen}
use Rattle.mp_stamps.specs.Seen.{seen_at}
use Rattle.mp_bins.specs.Bins.{bin_of_key}
use Rattle.mp_model.specs.declared.record.Rec.{Rec}
use Rattle.mp_model.specs.Entry.{Entry}
use Rattle.mp_model.specs.Facts.{JobFacts, QueryFacts}
use Rattle.mp_model.specs.Folds.{cell_before, FitsAlong, fold_of}
use Rattle.mp_model.specs.QueryLaws.{LaterStagesPostNothing}
use Rattle.mp_model.specs.Stages.{FoldsFit, stage_records}
use Rattle.mp_job.specs.Legal.{JobIsLegal}
use Rattle.mp_job.proofs.Members.{nothing_in_nil, Contains-cases, Contains-filter, filter-Contains}
use Rattle.mp_outline.specs.JobOutline.{outline_of}
use Rattle.mp_outline.specs.Laws.{RecordsInOrder, TagIsBefore, group_at, timeline_of}
use Rattle.mp_outline.proofs.Outputs.{group_is, timeline_rises}
use Rattle.mp_outline.proofs.Pairs.{Pairs, Pairs-filter, Pairs-within}
use Rattle.mp_outline.proofs.Records.{records_in_order, same_record}
use Rattle.mp_outline.proofs.Stages.{group_named, name_stands}
use Rattle.mp_outline.proofs.Timelines.{groups_are_on, wakes_are}
use Rattle.mp_msg.specs.States.{cell_in}
use Rattle.mp_msg.proofs.Ordered.{same_ordered}
use Rattle.mp_host_laws.specs.declared.held.Held.{Held}
use Rattle.mp_host_laws.specs.Hosted.{Hosted, StandsInOrder, began_before, cell_at, first_group, group_rank, has_wake_at, is_of, records_of}
use Rattle.mp_host_laws.specs.Applying.{group_here}
use Rattle.mp_host_laws.specs.HostOf.{IsHostOf, HostMatchesLogAndSeen, IsReadyAt, IsStateOf, is_taken_in}
use Rattle.mp_host_laws.specs.Laws.{FirstIsWhole, IsWholeHere}
use Rattle.mp_host_laws.proofs.Groups.{in_group, of_group}
use Rattle.mp_host_laws.proofs.Least.{first_least}
use Rattle.mp_host_laws.proofs.Lists.{Pairs-AllPairs, take_below}
use Rattle.mp_host_laws.proofs.Logs.{applied_before, same_test}
use Rattle.mp_host_laws.proofs.Stays.{IsStateThen, StaysSince, none_from_group, owned_in, state_then, stay_began}
use Rattle.mp_host_laws.proofs.Waiting.{from_is_of, is_of_from, log_wake_here, wake_in_log}

-- tags in order

tags_one_way : (r s : Rec) → TagIsBefore r.tag s.tag → TagIsBefore s.tag r.tag → ⊥
tags_one_way r s a b =
    ⊎_elim
    (λ (l : r.tag.0 < s.tag.0). ⊎_elim (λ (m : s.tag.0 < r.tag.0). omega arith) (λ (m : (s.tag.0 ≡ r.tag.0) × (s.tag.1 < r.tag.1)). let e : s.tag.0 ≡ r.tag.0 = m.0 in omega arith) b)
    (λ (l : (r.tag.0 ≡ s.tag.0) × (r.tag.1 < s.tag.1)).
    let d : r.tag.0 ≡ s.tag.0 = l.0 in
    let n : r.tag.1 < s.tag.1 = l.1 in
    ⊎_elim (λ (m : s.tag.0 < r.tag.0). omega arith) (λ (m : (s.tag.0 ≡ r.tag.0) × (s.tag.1 < r.tag.1)). let e : s.tag.1 < r.tag.1 = m.1 in omega arith) b)
    a

-- of two records of one group whose ranks stand so, the first has the lesser tag, or both have one tag
ranked_tags : (r s : Rec) → r.time ≡ s.time → r.key ≡ s.key → is_before (group_rank s) (group_rank r) ≡ false → TagIsBefore r.tag s.tag ⊎ ((r.tag.0 ≡ s.tag.0) × (r.tag.1 ≡ s.tag.1))
ranked_tags r s timed keyed e =
    ⊎_elim
    (λ (d : s.tag.0 ≡ r.tag.0).
    ⊎_elim
    (λ (c : s.tag.1 ≡ r.tag.1). inr (sym d, sym c))
    (λ (c : (s.tag.1 < r.tag.1) ⊎ (r.tag.1 < s.tag.1)).
    ⊎_elim
    (λ (l : s.tag.1 < r.tag.1). absurd (no_tag (or_right (nat_lt s.tag.0 r.tag.0) _ (and_from (s.tag.0 == r.tag.0) _ (eq-eqb s.tag.0 r.tag.0 d) (or_left (nat_lt s.tag.1 r.tag.1) _ (lt-ltb s.tag.1 r.tag.1 l))))))
    (λ (l : r.tag.1 < s.tag.1). inl (inr (sym d, l)))
    c)
    (cases_order s.tag.1 r.tag.1))
    (λ (d : (s.tag.0 < r.tag.0) ⊎ (r.tag.0 < s.tag.0)).
    ⊎_elim
    (λ (l : s.tag.0 < r.tag.0). absurd (no_tag (or_left (nat_lt s.tag.0 r.tag.0) _ (lt-ltb s.tag.0 r.tag.0 l))))
    (λ (l : r.tag.0 < s.tag.0). inl (inl l))
    d)
    (cases_order s.tag.0 r.tag.0)
  where
    no_tag : is_before (s.tag.0 ∷ s.tag.1 ∷ []) (r.tag.0 ∷ r.tag.1 ∷ []) ≡ true → ⊥
    no_tag f =
        both_ways (is_before (group_rank s) (group_rank r)) e
        (or_right (nat_lt s.time r.time) _ (and_from (s.time == r.time) _ (eq-eqb s.time r.time (sym timed)) (or_right (nat_lt s.key r.key) _ (and_from (s.key == r.key) _ (eq-eqb s.key r.key (sym keyed)) f))))

-- sums and counts that fit along groups fit at each of them
fits_at : {Cell : Type 0} (q : QueryFacts Cell) (j : ℕ) (cell : Cell) (e : Entry) (es : List Entry) → Pairs (λ e f. e.time < f.time) es → Contains es e → FitsAlong q j cell es
    → q.fits j (fold_of q j cell (take_while (λ f. nat_lt f.time e.time) es)) e ≡ true
fits_at q j cell e [] h i fits = absurd (nothing_in_nil e i)
fits_at q j cell e (f ∷ es) h i fits =
    ⊎_elim
    (λ (s : f ≡ e).
    let l : nat_lt f.time e.time ≡ false = le-ltb f.time e.time (omega (arith, ap (λ (g : Entry). g.time) s)) in
    rw (take_while-cons (λ (g : Entry). nat_lt g.time e.time) f es, l) (subst (λ (g : Entry). q.fits j cell g ≡ true) s fits.0))
    (λ (k : Contains es e).
    let l : nat_lt f.time e.time ≡ true = lt-ltb f.time e.time (h.0 e k) in
    rw (take_while-cons (λ (g : Entry). nat_lt g.time e.time) f es, l) (fits_at q j (q.step j cell f) e es h.1 k fits.1))
    (Contains-cases f e es i)

module _ {Cell : Type 0} (q : QueryFacts Cell) (nothing : LaterStagesPostNothing q) (job : JobFacts) (sound : OutlineIsSound (outline_of q job)) (log : Log) (h : Hosted Cell) (t k : ℕ)
    (host : IsHostOf q job log h) (legal : LogIsLegal (outline_of q job) h.worker log) (denotes : StandsInOrder q job h) (below : h.stage < job.shape.stages)
    (full : GroupIsWhole (outline_of q job) h.worker log h.stage t k) (unapplied : has log.applied (Group h.stage t k) ≡ false) (group : In (Group h.stage t k) (groups_of (outline_of q job) h.stage)) where
  -- The records

  here_there : (r : Rec) → Contains (records_of h t k) r → Contains (group_at q job h.stage t k).recs r
  here_there r i =
      let a = Contains-filter (is_of t k) h.records r i in
      let p = from_is_of t k r a.1 in
      in_group q job h.stage t k r ((host.records r).0 a.0).0.1 p.0 p.1

  there_here : (r : Rec) → Contains (group_at q job h.stage t k).recs r → Contains (records_of h t k) r
  there_here r i =
      let j = h.stage in
      let a = of_group q job j t k r i in
      let name = name_stands q job j r below a.0 in
      let timed = subst (λ (t : ℕ). In (RecName j t r.key r.tag) ((outline_of q job).records j)) a.1 name in
      let keyed = subst (λ (k : ℕ). In (RecName j t k r.tag) ((outline_of q job).records j)) a.2 timed in
      let taken = full.records_taken r.tag keyed in
      let taken_k = subst (λ (k : ℕ). In (RecName j t k r.tag) log.took) (sym a.2) taken in
      let taken_t = subst (λ (t : ℕ). In (RecName j t r.key r.tag) log.took) (sym a.1) taken_k in
      let waits_k = subst (λ (k : ℕ). has log.applied (Group j t k) ≡ false) (sym a.2) unapplied in
      let waits_t = subst (λ (t : ℕ). has log.applied (Group j t r.key) ≡ false) (sym a.1) waits_k in
      filter-Contains (is_of t k) h.records r ((host.records r).1 ((below, a.0), taken_t, waits_t)) (is_of_from t k r a.1 a.2)

  there_in_order : Pairs (λ r s. TagIsBefore r.tag s.tag) (group_at q job h.stage t k).recs
  there_in_order =
      let j = h.stage in
      let rs = stage_records q job.events j in
      let kept = Pairs-filter RecordsInOrder (λ (s : Rec). s.time == t) (filter (λ (s : Rec). s.key == k) rs) (Pairs-filter RecordsInOrder (λ (s : Rec). s.key == k) rs (records_in_order q job.events j)) in
      Pairs-within RecordsInOrder (λ (r s : Rec). TagIsBefore r.tag s.tag) (group_at q job j t k).recs (λ r s i m less. less ((of_group q job j t k r i).1 ∙ sym (of_group q job j t k s m).1)) kept

  -- those that are here stand apart and in the order of their ranks
  here_stands : Pairs (λ r s. (is_before (group_rank s) (group_rank r) ≡ false) × (r ≢ s)) h.records
  here_stands = Pairs-AllPairs (λ (r s : Rec). (is_before (group_rank s) (group_rank r) ≡ false) × (r ≢ s)) h.records (λ i j d l m. (denotes.records i j d l m, host.once i j d l m))

  here_in_order : Pairs (λ r s. TagIsBefore r.tag s.tag) (records_of h t k)
  here_in_order =
      let j = h.stage in
      Pairs-within (λ (r s : Rec). (is_before (group_rank s) (group_rank r) ≡ false) × (r ≢ s)) (λ (r s : Rec). TagIsBefore r.tag s.tag) (records_of h t k)
      (λ r s i m apart.
      let a = of_group q job j t k r (here_there r i) in
      let b = of_group q job j t k s (here_there s m) in
      ⊎_elim
      (λ (less : TagIsBefore r.tag s.tag). less)
      (λ (e : (r.tag.0 ≡ s.tag.0) × (r.tag.1 ≡ s.tag.1)). absurd (apart.1 (same_record q job.events j r s a.0 b.0 (a.1 ∙ sym b.1) (same_tag r.tag s.tag e.0 e.1))))
      (ranked_tags r s (a.1 ∙ sym b.1) (a.2 ∙ sym b.2) apart.0))
      (Pairs-filter (λ (r s : Rec). (is_before (group_rank s) (group_rank r) ≡ false) × (r ≢ s)) (is_of t k) h.records here_stands)

  -- the records that are here are those of the group
  pub records_are_whole : records_of h t k ≡ (group_at q job h.stage t k).recs
  records_are_whole = same_ordered (λ (r s : Rec). TagIsBefore r.tag s.tag) tags_one_way (records_of h t k) (group_at q job h.stage t k).recs here_in_order there_in_order here_there there_here

  -- The wake

  wake_is_known : has_wake_at h t k ≡ (group_at q job h.stage t k).woken
  wake_is_known = same_test (has_wake_at h t k) (has_wake (outline_of q job) h.worker log h.stage t k) (λ e. (wake_in_log q job sound log h below host legal denotes t k e).0) (λ e. log_wake_here q job sound log h below host legal denotes t k e unapplied) ∙ full.wake_known ∙ wakes_are q nothing job h.stage t k below

  pub group_is_whole : group_here h t k ≡ group_at q job h.stage t k
  group_is_whole =
      let a = records_are_whole in
      let b = wake_is_known in
      rw (a, b) refl

  -- The state

  -- no packet of the bin is sent from the next time on
  pub none_sent : (n : ℕ) → suc t ≤ n → In (Packet h.stage (bin_of_key k job.shape.bins) n) log.sent → ⊥
  none_sent = none_from_group (outline_of q job) h.worker log legal h.stage t k group full.owned unapplied

  -- the state of the bin at the time
  pub state_here : (a : Option ℕ) × (s : Held Cell) × IsStateThen q job log h (bin_of_key k job.shape.bins) (suc t) a s
  state_here = state_then q job log h host legal (bin_of_key k job.shape.bins) (suc t) (sound.bins_fit k) full.bin_in_hand (λ m l owed. full.packets_sent m (omega arith) owed) none_sent

  -- The cell

  entry_group : (e : Entry) → Contains (timeline_of q job h.stage k) e → In (Group h.stage e.time k) (groups_of (outline_of q job) h.stage)
  entry_group e i = group_named q nothing job h.stage k e.time below (group_is q h.stage k (stage_records q job.events h.stage) e i).1

  -- of the groups of the key those before it are taken into the state
  pub earlier_taken : (a : Option ℕ) → StaysSince (outline_of q job) log h.stage (bin_of_key k job.shape.bins) (suc t) a → (e : Entry) → Contains (timeline_of q job h.stage k) e → e.time < t → is_taken_in log h.stage a e.time k ≡ true
  earlier_taken None stays e i l =
      let same = owned_in (outline_of q job) log h.stage (bin_of_key k job.shape.bins) (suc t) None stays (suc e.time) refl (omega arith) in
      full.earlier_applied e.time k (entry_group e i) (same ∙ full.owned) (inr (refl, inl l))
  earlier_taken (Some m) stays e i l =
      ⊎_elim
      (λ (c : e.time < m). or_left (nat_lt e.time m) (has log.applied (Group h.stage e.time k)) (lt-ltb e.time m c))
      (λ (c : m ≤ e.time).
      let same = owned_in (outline_of q job) log h.stage (bin_of_key k job.shape.bins) (suc t) (Some m) stays (suc e.time) (lt-ltb m (suc e.time) (omega arith)) (omega arith) in
      or_right (nat_lt e.time m) (has log.applied (Group h.stage e.time k)) (full.earlier_applied e.time k (entry_group e i) (same ∙ full.owned) (inr (refl, inl l))))
      (cases_lt e.time m)

  -- and none of them is applied from it on
  pub later_unapplied : (u : ℕ) → t ≤ u → has log.applied (Group h.stage u k) ≡ false
  later_unapplied u l =
      false_from_ne_true (has log.applied (Group h.stage u k)) (λ applied.
      ⊎_elim
      (λ (e : t ≡ u). both_ways (has log.applied (Group h.stage t k)) unapplied (subst (λ (n : ℕ). In (Group h.stage n k) log.applied) (sym e) applied))
      (λ (e : (t < u) ⊎ (u < t)).
      ⊎_elim
      (λ (m : t < u). both_ways (has log.applied (Group h.stage t k)) unapplied (applied_before (outline_of q job) h.worker log legal h.stage t u k group full.owned applied (inr (refl, inl m))))
      (λ (m : u < t). omega arith)
      e)
      (cases_order t u))

  pub later_not_taken : (a : Option ℕ) → began_before (suc t) a ≡ true → (u : ℕ) → t ≤ u → is_taken_in log h.stage a u k ≡ false
  later_not_taken None began u l = later_unapplied u l
  later_not_taken (Some m) began u l =
      let c : m < suc t = ltb-true m (suc t) began in
      or_from (nat_lt u m) (has log.applied (Group h.stage u k)) (le-ltb u m (omega arith)) (later_unapplied u l)

  -- the state has the key's cell just before the time
  pub state_cell : (a : Option ℕ) → StaysSince (outline_of q job) log h.stage (bin_of_key k job.shape.bins) (suc t) a → (s : Held Cell) → Contains h.held s → s.bin ≡ bin_of_key k job.shape.bins → s.since ≡ a
      → cell_in (q.fresh h.stage) s.state.cells k ≡ cell_before q h.stage (stage_records q job.events h.stage) k t
  state_cell a stays s here bin since =
      let j = h.stage in
      let timeline = timeline_of q job j k in
      let began = stay_began (outline_of q job) log j (bin_of_key k job.shape.bins) (suc t) a stays in
      let is = All-contains (IsStateOf q job log j) h.held s host.states here in
      is.cells k (sym bin)
      ∙ ap (λ (c : Option ℕ). fold_of q j (q.opening j k) (filter (λ (e : Entry). is_taken_in log j c e.time k) timeline)) since
      ∙ ap (fold_of q j (q.opening j k)) (take_below (λ (e : Entry). e.time) (λ (e : Entry). is_taken_in log j a e.time k) t timeline (timeline_rises q j k (stage_records q job.events j)) (earlier_taken a stays) (λ e i l. later_not_taken a began e.time l))

  cell_is_before : cell_at (q.fresh h.stage) job.shape.bins h t k ≡ cell_before q h.stage (stage_records q job.events h.stage) k t
  cell_is_before =
      let there = state_here.2 in
      ap (λ (o : Option (Held Cell)). option_map_or (λ s. cell_in (q.fresh h.stage) s.state.cells k) o (q.fresh h.stage)) there.found
      ∙ state_cell state_here.0 there.stays state_here.1 there.here there.bin there.since

  pub on_timeline : Contains (timeline_of q job h.stage k) (group_at q job h.stage t k)
  on_timeline = (groups_are_on q nothing job sound h.stage t k below).0 group

  group_fits : FoldsFit q job.events → JobIsLegal q job → q.fits h.stage (cell_at (q.fresh h.stage) job.shape.bins h t k) (group_here h t k) ≡ true
  group_fits fit job_legal =
      let j = h.stage in
      let same : job.shape.stages ≡ q.stages = job_legal.stages in
      let along = fit j k (omega arith) in
      let at = fits_at q j (q.opening j k) (group_at q job j t k) (timeline_of q job j k) (timeline_rises q j k (stage_records q job.events j)) on_timeline along in
      rw (cell_is_before, group_is_whole) at

  pub is_whole_here : FoldsFit q job.events → JobIsLegal q job → IsWholeHere q job h t k
  is_whole_here fit job_legal = record {
    group = group_is_whole;
    in_hand = ap is_some state_here.2.found;
    cell = cell_is_before;
    fits = group_fits fit job_legal;
  }

module _ {Cell : Type 0} (q : QueryFacts Cell) (job : JobFacts) (sound : OutlineIsSound (outline_of q job)) (log : Log) (seen : Seen) (h : Hosted Cell) (t k : ℕ)
    (denotes : StandsInOrder q job h) (informed : HostMatchesLogAndSeen q job log seen h) (below : h.stage < job.shape.stages) (first : first_group h ≡ Some (t, k))
    (mail : HasPassed (seen_at seen (Mail h.stage)) t) (state : HasPassed (seen_at seen (State h.stage)) t) where
  pub least_here : IsLeast (IsWaiting (outline_of q job) h.worker log h.stage) (Group h.stage t k)
  least_here = first_least q job sound log h below informed.host informed.legal denotes t k first

  pub full_here : GroupIsWhole (outline_of q job) h.worker log h.stage t k
  full_here = whole (outline_of q job) sound h.worker log informed.legal h.stage t k least_here (informed.done (Mail h.stage) t below mail) (informed.done (State h.stage) t below state)

  pub unapplied_here : has log.applied (Group h.stage t k) ≡ false
  unapplied_here = pending_new (outline_of q job) h.worker log h.stage t k least_here.0.1

  pub ready_here : IsBeforeStop job.until t → IsReadyAt q job log seen h t k
  ready_here early = record { least = least_here; mail = mail; state = state; in_hand = full_here.bin_in_hand; early = early }

module _ {Cell : Type 0} (q : QueryFacts Cell) (nothing : LaterStagesPostNothing q) (job : JobFacts) (fit : FoldsFit q job.events) (legal : JobIsLegal q job) (sound : OutlineIsSound (outline_of q job)) where
  pub first_is_whole : FirstIsWhole q job
  first_is_whole log seen h t k denotes informed below inside first mail state early =
      let full = full_here q job sound log seen h t k denotes informed below first mail state in
      let least = least_here q job sound log seen h t k denotes informed below first mail state in
      let unapplied = unapplied_here q job sound log seen h t k denotes informed below first mail state in
      (ready_here q job sound log seen h t k denotes informed below first mail state early, is_whole_here q nothing job sound log h t k informed.host informed.legal denotes below full unapplied least.0.0 fit legal)
