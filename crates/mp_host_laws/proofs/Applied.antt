-- What becomes of a host that applies a group that is ready: what it holds, and the times that wait from then on.
use Rattle.std.proofs.Common.{◌≡◌, ◌≢◌, ◌↔◌, ◌⊎◌, ℕ, suc, ◌<◌, ◌≤◌, ◌==◌, ◌||◌, nat_lt, Bool, true, false, not, Option, None, Some, List, [], ◌∷◌, ◌++◌, All, AllPairs, Any, filter, Contains, refl, sym, ap, ◌∙◌, subst, inl, inr, ⊎_elim, arith}
use Rattle.std.proofs.lemmas.Bool.{and_from, both_ways, cases_eq, cases_lt, cases_order, cond-false, cond-true, eq-eqb, false_from_ne_true, false≢true, lt-ltb, ltb-false, ltb-true, ne_eqb, not-true, not_from_false, or_cases, or_left, or_right}
use Rattle.std.proofs.lemmas.List.Elements.{All-contains}
use Rattle.std.proofs.lemmas.List.Kept.{AllPairs-filter}
use Rattle.mp_names.specs.declared.names.Name.{Name}
use Rattle.mp_names.specs.declared.names.Name.TheVariants.{Rec as RecName, Packet, Group}
use Rattle.mp_names.specs.Names.{has, In}
use Rattle.mp_names.specs.Outlines.{IsOwedBy, OutlineIsSound, groups_of, is_posted}
use Rattle.mp_names.specs.Logs.{Log, LogIsLegal, has_record, has_wake, is_pending, left_since, with_applied}
use Rattle.mp_names.specs.Keeping.{GroupIsWhole}
use Rattle.mp_names.proofs.Hosts.{Brought, IsOpeningHere, left_at}
use Rattle.mp_names.proofs.Lists.{In_left, In_push}
use Rattle.mp_names.proofs.NameParts.{same_group, same_parts}
use Rattle.mp_bins.specs.Bins.{bin_of_key}
use Rattle.mp_model.specs.declared.record.Rec.{Rec}
use Rattle.mp_model.specs.Entry.{Entry}
use Rattle.mp_model.specs.Facts.{JobFacts, QueryFacts}
use Rattle.mp_model.specs.Folds.{cell_before, fold_of}
use Rattle.mp_model.specs.QueryLaws.{LaterStagesPostNothing}
use Rattle.mp_model.specs.Stages.{stage_records}
use Rattle.mp_job.proofs.Ascents.{ascending-Contains, Contains-ascending}
use Rattle.mp_job.proofs.Members.{Contains-filter, Contains-flat_map, filter-Contains, flat_map-Contains}
use Rattle.mp_outline.specs.JobOutline.{name_of_record, outline_of}
use Rattle.mp_outline.specs.Laws.{group_at, timeline_of}
use Rattle.mp_outline.proofs.Found.{found, found_there}
use Rattle.mp_outline.proofs.Outputs.{timeline_rises}
use Rattle.mp_outline.proofs.Pairs.{AllPairs-Pairs, Pairs}
use Rattle.mp_outline.proofs.Stages.{name_posts, name_stands, post_named, record_named}
use Rattle.mp_postdated.specs.Wakes.{Has, IsWake}
use Rattle.mp_msg.specs.Contents.{IsRecordOf}
use Rattle.mp_msg.specs.States.{IsOpening, IsPostedAt, cell_in}
use Rattle.mp_host_laws.specs.declared.held.Held.{Held}
use Rattle.mp_host_laws.specs.Hosted.{Hosted, StandsInOrder, began_before, is_of, records_of, waits_at, wakes_in}
use Rattle.mp_host_laws.specs.Applying.{IsApplied, StateTakes, group_here, posts_here, woken_by}
use Rattle.mp_host_laws.specs.HostOf.{CameInto, IsHostOf, IsInHandSince, IsStateOf, IsWakeOf, MovesInOrder, OpensInto, is_taken_in}
use Rattle.mp_host_laws.specs.Laws.{GroupsAreHeld, WokenAreTold}
use Rattle.mp_host_laws.proofs.Changed.{All-changed, Any-changed, Contains-front, Contains-one, Contains-rest, Pairs-changed, Pairs-front, Pairs-rest}
use Rattle.mp_host_laws.proofs.Groups.{in_group}
use Rattle.mp_host_laws.proofs.Holding.{AreApart, by_parts, wake_same}
use Rattle.mp_host_laws.proofs.Lists.{Pairs-AllPairs, filter_within, fold_upto}
use Rattle.mp_host_laws.proofs.Logs.{IsPostedHere, has_push, here_wake, opening_wake, pending_is, push_has, record_pends, wake_here, wake_pends}
use Rattle.mp_host_laws.proofs.Stays.{StaysSince, stay_began}
use Rattle.mp_host_laws.proofs.Waiting.{from_is_of, is_of_from, waits_is_pending}
use Rattle.mp_host_laws.proofs.Whole.{earlier_taken, full_here, group_is_whole, later_not_taken, later_unapplied, least_here, none_sent, on_timeline, records_are_whole, state_cell, state_here, unapplied_here}

-- One more group applied

-- an applied group is among those of the longer log, and the others stay as they were
still_unapplied : (log : Log) (j t k u l : ℕ) → ((t ≡ u) × (k ≡ l) → ⊥) → has (with_applied log (Group j t k)).applied (Group j u l) ≡ has log.applied (Group j u l)
still_unapplied log j t k u l apart = has_push log.applied (Group j u l) (Group j t k) (λ e. apart (same_group j t k u l e))

now_applied : (log : Log) (j t k u l : ℕ) → u ≡ t → l ≡ k → In (Group j u l) (with_applied log (Group j t k)).applied
now_applied log j t k u l a b =
    let keyed = subst (λ (m : ℕ). In (Group j t m) (log.applied ++ Group j t k ∷ [])) (sym b) (push_has log.applied (Group j t k)) in
    subst (λ (m : ℕ). In (Group j m l) (log.applied ++ Group j t k ∷ [])) (sym a) keyed

was_unapplied : (log : Log) (j t k u l : ℕ) → has (with_applied log (Group j t k)).applied (Group j u l) ≡ false → has log.applied (Group j u l) ≡ false
was_unapplied log j t k u l h =
    false_from_ne_true (has log.applied (Group j u l)) (λ i. both_ways (has (log.applied ++ Group j t k ∷ []) (Group j u l)) h (In_left (Group j u l) log.applied (Group j t k ∷ []) i))

applied_cases : (log : Log) (j t k u l : ℕ) → In (Group j u l) (with_applied log (Group j t k)).applied → In (Group j u l) log.applied ⊎ ((u ≡ t) × (l ≡ k))
applied_cases log j t k u l i =
    ⊎_elim (λ (h : In (Group j u l) log.applied). inl h) (λ (e : Group j t k ≡ Group j u l). let p = same_group j t k u l e in inr (sym p.0, sym p.1)) (In_push (Group j u l) (Group j t k) log.applied i)

-- What is in a state by the longer log

came_still : (log : Log) (j : ℕ) (x : Name) (a : Option ℕ) (l v u : ℕ) → CameInto log j a l v u → CameInto (with_applied log x) j a l v u
came_still log j x None l v u c = In_left (Group j v l) log.applied (x ∷ []) c
came_still log j x (Some m) l v u c =
    ⊎_elim (λ (p : (v < m) × (m ≤ u)). inl p) (λ (p : (m ≤ v) × In (Group j v l) log.applied). inr (p.0, In_left (Group j v l) log.applied (x ∷ []) p.1)) c

came_now : (log : Log) (j t k : ℕ) (a : Option ℕ) → began_before (suc t) a ≡ true → (u : ℕ) → CameInto (with_applied log (Group j t k)) j a k t u
came_now log j t k None began u = push_has log.applied (Group j t k)
came_now log j t k (Some m) began u = let l : m < suc t = ltb-true m (suc t) began in inr (omega arith, push_has log.applied (Group j t k))

came_cases : (log : Log) (j t k : ℕ) (a : Option ℕ) (l v u : ℕ) → CameInto (with_applied log (Group j t k)) j a l v u → CameInto log j a l v u ⊎ ((v ≡ t) × (l ≡ k) × (began_before (suc v) a ≡ true))
came_cases log j t k None l v u c = ⊎_elim (λ (i : In (Group j v l) log.applied). inl i) (λ (e : (v ≡ t) × (l ≡ k)). inr (e.0, e.1, refl)) (applied_cases log j t k v l c)
came_cases log j t k (Some m) l v u c =
    ⊎_elim
    (λ (p : (v < m) × (m ≤ u)). inl (inl p))
    (λ (p : (m ≤ v) × In (Group j v l) (with_applied log (Group j t k)).applied).
    let n : m ≤ v = p.0 in
    ⊎_elim (λ (i : In (Group j v l) log.applied). inl (inr (p.0, i))) (λ (e : (v ≡ t) × (l ≡ k)). inr (e.0, e.1, lt-ltb m (suc v) (omega arith))) (applied_cases log j t k v l p.1))
    c

-- a wake of a state that began after t is of a later time than t
came_from : (log : Log) (j t : ℕ) (a : Option ℕ) (l v u : ℕ) → CameInto log j a l v u → v < u → began_before (suc t) a ≡ false → t < u
came_from log j t None l v u c less began = absurd (false≢true (sym began))
came_from log j t (Some m) l v u c less began =
    let n : suc t ≤ m = ltb-false m (suc t) began in
    ⊎_elim (λ (p : (v < m) × (m ≤ u)). let k : m ≤ u = p.1 in omega arith) (λ (p : (m ≤ v) × In (Group j v l) log.applied). let k : m ≤ v = p.0 in omega arith) c

-- so is an opening wake
opens_from : (t : ℕ) (a : Option ℕ) (u : ℕ) → OpensInto a u → began_before (suc t) a ≡ false → t < u
opens_from t None u opens began = absurd (false≢true (sym began))
opens_from t (Some m) u opens began =
    let n : suc t ≤ m = ltb-false m (suc t) began in
    let l : m ≤ u = opens in
    omega arith

taken_still : (log : Log) (j : ℕ) (x : Name) (a : Option ℕ) (u l : ℕ) → is_taken_in log j a u l ≡ true → is_taken_in (with_applied log x) j a u l ≡ true
taken_still log j x None u l e = In_left (Group j u l) log.applied (x ∷ []) e
taken_still log j x (Some m) u l e =
    let now = has (with_applied log x).applied (Group j u l) in
    ⊎_elim
    (λ (p : nat_lt u m ≡ true). or_left (nat_lt u m) now p)
    (λ (p : In (Group j u l) log.applied). or_right (nat_lt u m) now (In_left (Group j u l) log.applied (x ∷ []) p))
    (or_cases (nat_lt u m) (has log.applied (Group j u l)) e)

taken_now : (log : Log) (j t k : ℕ) (a : Option ℕ) (u l : ℕ) → u ≡ t → l ≡ k → is_taken_in (with_applied log (Group j t k)) j a u l ≡ true
taken_now log j t k None u l d e = now_applied log j t k u l d e
taken_now log j t k (Some m) u l d e = or_right (nat_lt u m) (has (with_applied log (Group j t k)).applied (Group j u l)) (now_applied log j t k u l d e)

-- of another group, or in a state that begins later, it is as it was
taken_same : (log : Log) (j t k : ℕ) (a : Option ℕ) (u l : ℕ) → ((t ≡ u) × (k ≡ l) → began_before (suc t) a ≡ false) → is_taken_in log j a u l ≡ is_taken_in (with_applied log (Group j t k)) j a u l
taken_same log j t k None u l quiet = sym (still_unapplied log j t k u l (λ e. false≢true (sym (quiet e))))
taken_same log j t k (Some m) u l quiet =
    ⊎_elim
    (λ (p : u < m).
    let e = lt-ltb u m p in
    or_left (nat_lt u m) (has log.applied (Group j u l)) e ∙ sym (or_left (nat_lt u m) (has (with_applied log (Group j t k)).applied (Group j u l)) e))
    (λ (p : m ≤ u).
    let other : (t ≡ u) × (k ≡ l) → ⊥ = λ e.
    let n : suc t ≤ m = ltb-false m (suc t) (quiet e) in
    let s : t ≡ u = e.0 in
    omega arith in
    ap (λ (b : Bool). nat_lt u m || b) (sym (still_unapplied log j t k u l other)))
    (cases_lt u m)

module _ {Cell : Type 0} (q : QueryFacts Cell) (job : JobFacts) where
  wake_still : (log : Log) (j : ℕ) (x : Name) (a : Option ℕ) (l u : ℕ) → IsWakeOf q job log j a l u → IsWakeOf q job (with_applied log x) j a l u
  wake_still log j x a l u wake = wake_same q job log (with_applied log x) j a l u (λ v. came_still log j x a l v u) wake

  -- a wake by the longer log is one by the log, or a record of the group posts it
  wake_was : (log : Log) (j t k : ℕ) (a : Option ℕ) (l u : ℕ) → IsWakeOf q job (with_applied log (Group j t k)) j a l u
      → IsWakeOf q job log j a l u ⊎ ((v : ℕ) × (v ≡ t) × (l ≡ k) × (began_before (suc v) a ≡ true) × IsPostedAt q job j l v u)
  wake_was log j t k a l u wake =
      ⊎_elim
      (λ (c : IsOpening q j l u × OpensInto a u). inl (inl c))
      (λ (p : (v : ℕ) × IsPostedAt q job j l v u × CameInto (with_applied log (Group j t k)) j a l v u).
      ⊎_elim
      (λ (c : CameInto log j a l p.0 u). inl (inr (p.0, p.1, c)))
      (λ (c : (p.0 ≡ t) × (l ≡ k) × (began_before (suc p.0) a ≡ true)). inr (p.0, c.0, c.1, c.2, p.1))
      (came_cases log j t k a l p.0 u p.2))
      wake

module _ {Cell : Type 0} (q : QueryFacts Cell) (nothing : LaterStagesPostNothing q) (job : JobFacts) (sound : OutlineIsSound (outline_of q job)) (log : Log) (h : Hosted Cell) (t k : ℕ)
    (host : IsHostOf q job log h) (legal : LogIsLegal (outline_of q job) h.worker log) (denotes : StandsInOrder q job h) (below : h.stage < job.shape.stages)
    (full : GroupIsWhole (outline_of q job) h.worker log h.stage t k) (unapplied : has log.applied (Group h.stage t k) ≡ false) (group : In (Group h.stage t k) (groups_of (outline_of q job) h.stage)) where
  -- What the group's records post

  -- the times that they post are those of the outline
  post_is_posted : (u : ℕ) → Contains (posts_here q h t k) u → IsPostedAt q job h.stage k t u
  post_is_posted u i =
      let o = outline_of q job in
      let j = h.stage in
      let a = found (λ (r : Rec). Contains (q.posts j r) u) (records_of h t k) (Contains-flat_map (q.posts j) (records_of h t k) u i) in
      let r = a.0 in
      let b = Contains-filter (is_of t k) h.records r a.1 in
      let p = from_is_of t k r b.1 in
      let there = ((host.records r).0 b.0).0.1 in
      let name = name_stands q job j r below there in
      let posts = name_posts q nothing job j r u there a.2 in (
        r.tag,
        subst (λ (k : ℕ). In (RecName j t k r.tag) (o.records j)) p.1 (subst (λ (t : ℕ). In (RecName j t r.key r.tag) (o.records j)) p.0 name),
        subst (λ (k : ℕ). is_posted o (RecName j t k r.tag) u ≡ true) p.1 (subst (λ (t : ℕ). is_posted o (RecName j t r.key r.tag) u ≡ true) p.0 posts),
      )

  posted_here : (u : ℕ) → IsPostedAt q job h.stage k t u → Contains (posts_here q h t k) u
  posted_here u p =
      let o = outline_of q job in
      let j = h.stage in
      let g = p.0 in
      let a = record_named q job j (RecName j t k g) p.1 in
      let r = a.0 in
      let own = same_parts j j r.time t r.key k r.tag g a.2 in
      let posts = post_named q nothing job j r u a.1 (subst (λ (x : Name). is_posted o x u ≡ true) (sym a.2) p.2) in
      let here = in_group q job j t k r a.1 own.0 own.1 in
      let whole = records_are_whole q nothing job sound log h t k host legal denotes below full unapplied group in
      let there = subst (λ (rs : List Rec). Contains rs r) (sym whole) here in
      flat_map-Contains (q.posts j) (records_of h t k) u (found_there (λ (r : Rec). Contains (q.posts j r) u) (records_of h t k) r there posts)

  posted_at : (v l u : ℕ) → v ≡ t → l ≡ k → IsPostedAt q job h.stage l v u → Contains (posts_here q h t k) u
  posted_at v l u a b p = posted_here u (subst (λ (n : ℕ). IsPostedAt q job h.stage n t u) b (subst (λ (n : ℕ). IsPostedAt q job h.stage l n u) a p))

  posted_later : (v l u : ℕ) → IsPostedAt q job h.stage l v u → v < u
  posted_later v l u p = sound.posts_later h.stage (RecName h.stage v l p.0) u p.1 p.2

  -- a wake of a state that began after t is of a later time than t
  wake_from : (a : Option ℕ) (l u : ℕ) → IsWakeOf q job log h.stage a l u → began_before (suc t) a ≡ false → t < u
  wake_from a l u wake began =
      ⊎_elim
      (λ (c : IsOpening q h.stage l u × OpensInto a u). opens_from t a u c.1 began)
      (λ (p : (v : ℕ) × IsPostedAt q job h.stage l v u × CameInto log h.stage a l v u). came_from log h.stage t a l p.0 u p.2 (posted_later p.0 l u p.1) began)
      wake

  -- each is later than the group, so its group isn't applied
  post_unapplied : (u : ℕ) → Contains (posts_here q h t k) u → has (with_applied log (Group h.stage t k)).applied (Group h.stage u k) ≡ false
  post_unapplied u i =
      let later : t < u = posted_later t k u (post_is_posted u i) in
      still_unapplied log h.stage t k u k (λ e. let s : t ≡ u = e.0 in omega arith) ∙ later_unapplied q nothing job sound log h t k host legal denotes below full unapplied group u (omega arith)

  -- The records afterwards

  group_gone : (r : Rec) → (Contains (filter (λ r. not (is_of t k r)) h.records) r ↔ (IsRecordOf q job h.stage r × In (name_of_record h.stage r) log.took × (has (with_applied log (Group h.stage t k)).applied (Group h.stage r.time r.key) ≡ false)))
  group_gone r = (
    (λ i.
        let a = Contains-filter (λ (r : Rec). not (is_of t k r)) h.records r i in
        let b = (host.records r).0 a.0 in
        (b.0, b.1, still_unapplied log h.stage t k r.time r.key (λ e. both_ways (is_of t k r) (not-true (is_of t k r) a.1) (is_of_from t k r (sym e.0) (sym e.1))) ∙ b.2)),
    (λ a.
        let other : is_of t k r ≡ false = false_from_ne_true (is_of t k r) (λ e.
        let p = from_is_of t k r e in
        both_ways (has (with_applied log (Group h.stage t k)).applied (Group h.stage r.time r.key)) a.2 (now_applied log h.stage t k r.time r.key p.0 p.1)) in
        filter-Contains (λ (r : Rec). not (is_of t k r)) h.records r ((host.records r).1 (a.0, a.1, was_unapplied log h.stage t k r.time r.key a.2)) (not_from_false (is_of t k r) other)),
  )

  -- The moves afterwards

  moves_after : MovesInOrder (outline_of q job) h.worker (with_applied log (Group h.stage t k)) h.stage
  moves_after = record {
    packets = host.moves.packets;
    groups = λ u l m le i owed.
        ⊎_elim
        (λ (old : In (Group h.stage u l) log.applied). host.moves.groups u l m le old owed)
        (λ (e : (u ≡ t) × (l ≡ k)). last u l m le owed e.0 e.1)
        (applied_cases log h.stage t k u l i);
  }
    where
      last : (u l m : ℕ) → m ≤ u → IsOwedBy (outline_of q job) h.worker (Packet h.stage ((outline_of q job).bin_of l) m) → u ≡ t → l ≡ k → In (Packet h.stage ((outline_of q job).bin_of l) m) log.sent
      last u l m le owed a b =
          let o = outline_of q job in
          let own = subst (λ (n : ℕ). IsOwedBy o h.worker (Packet h.stage (o.bin_of n) m)) b owed in
          subst (λ (n : ℕ). In (Packet h.stage (o.bin_of n) m) log.sent) (sym b) (full.packets_sent m (omega arith) own)

  -- The state that takes the group

  module _ (a : Option ℕ) (stays : StaysSince (outline_of q job) log h.stage (bin_of_key k job.shape.bins) (suc t) a) (one changed : Held Cell) (there : Contains h.held one) (bin : one.bin ≡ bin_of_key k job.shape.bins) (since : one.since ≡ a)
      (takes : StateTakes q h.stage (group_here h t k) (posts_here q h t k) one changed) where
    began : began_before (suc t) one.since ≡ true
    began = subst (λ (c : Option ℕ). began_before (suc t) c ≡ true) (sym since) (stay_began (outline_of q job) log h.stage (bin_of_key k job.shape.bins) (suc t) a stays)

    was : IsStateOf q job log h.stage one
    was = All-contains (IsStateOf q job log h.stage) h.held one host.states there

    wakes_after : (u l : ℕ) → bin_of_key l job.shape.bins ≡ one.bin
        → (Has (wakes_in changed) u l ↔ ((has (with_applied log (Group h.stage t k)).applied (Group h.stage u l) ≡ false) × IsWakeOf q job (with_applied log (Group h.stage t k)) h.stage one.since l u))
    wakes_after u l own =
        let j = h.stage in
        let after = with_applied log (Group j t k) in (
          (λ i.
              ⊎_elim
              (λ (c : Has (wakes_in one) u l × (IsWake t k (u, l) → ⊥)).
              let b = (was.wakes u l own).0 c.0 in
              (still_unapplied log j t k u l (λ e. c.1 (sym e.0, sym e.1)) ∙ b.0, wake_still q job log j (Group j t k) one.since l u b.1))
              (λ (c : (l ≡ k) × Contains (posts_here q h t k) u).
              subst (λ (n : ℕ). (has after.applied (Group j u n) ≡ false) × IsWakeOf q job after j one.since n u) (sym c.0)
              (post_unapplied u c.1, inr (t, post_is_posted u c.1, came_now log j t k one.since began u)))
              ((takes.wakes u l).0 i)),
          (λ p.
              (takes.wakes u l).1
              (⊎_elim
              (λ (c : IsWakeOf q job log j one.since l u).
              inl ((was.wakes u l own).1 (was_unapplied log j t k u l p.0, c), (λ (w : IsWake t k (u, l)). both_ways (has after.applied (Group j u l)) p.0 (now_applied log j t k u l w.0 w.1))))
              (λ (c : (v : ℕ) × (v ≡ t) × (l ≡ k) × (began_before (suc v) one.since ≡ true) × IsPostedAt q job j l v u). inr (c.2, posted_at c.0 l u c.1 c.2 c.4))
              (wake_was q job log j t k one.since l u p.1))),
        )

    -- the cell of the key after the group
    own_cell : q.step h.stage (cell_in (q.fresh h.stage) one.state.cells k) (group_here h t k) ≡ fold_of q h.stage (q.opening h.stage k) (filter (λ e. is_taken_in (with_applied log (Group h.stage t k)) h.stage a e.time k) (timeline_of q job h.stage k))
    own_cell =
        let j = h.stage in
        let after = with_applied log (Group j t k) in
        let timeline = timeline_of q job j k in
        let cell = state_cell q nothing job sound log h t k host legal denotes below full unapplied group a stays one there bin since in
        let whole = group_is_whole q nothing job sound log h t k host legal denotes below full unapplied group in
        let upto = fold_upto (λ (e : Entry). e.time) (q.step j) (q.opening j k) (λ (e : Entry). is_taken_in after j a e.time k) t (group_at q job j t k) timeline (timeline_rises q j k (stage_records q job.events j)) (on_timeline q nothing job sound log h t k host legal denotes below full unapplied group) refl early late in
        ap (λ (c : Cell). q.step j c (group_here h t k)) cell ∙ ap (q.step j (cell_before q j (stage_records q job.events j) k t)) whole ∙ sym upto
      where
        early : (e : Entry) → Contains (timeline_of q job h.stage k) e → e.time ≤ t → is_taken_in (with_applied log (Group h.stage t k)) h.stage a e.time k ≡ true
        early e i l =
            ⊎_elim
            (λ (s : e.time ≡ t). taken_now log h.stage t k a e.time k s refl)
            (λ (s : (e.time < t) ⊎ (t < e.time)).
            ⊎_elim
            (λ (m : e.time < t). taken_still log h.stage (Group h.stage t k) a e.time k (earlier_taken q nothing job sound log h t k host legal denotes below full unapplied group a stays e i m))
            (λ (m : t < e.time). absurd (omega arith))
            s)
            (cases_order e.time t)

        late : (e : Entry) → Contains (timeline_of q job h.stage k) e → t < e.time → is_taken_in (with_applied log (Group h.stage t k)) h.stage a e.time k ≡ false
        late e i l =
            sym (taken_same log h.stage t k a e.time k (λ s. let same : t ≡ e.time = s.0 in absurd (omega arith)))
            ∙ later_not_taken q nothing job sound log h t k host legal denotes below full unapplied group a (stay_began (outline_of q job) log h.stage (bin_of_key k job.shape.bins) (suc t) a stays) e.time (omega arith)

    cells_after : (l : ℕ) → bin_of_key l job.shape.bins ≡ one.bin
        → cell_in (q.fresh h.stage) changed.state.cells l ≡ fold_of q h.stage (q.opening h.stage l) (filter (λ e. is_taken_in (with_applied log (Group h.stage t k)) h.stage one.since e.time l) (timeline_of q job h.stage l))
    cells_after l own =
        let j = h.stage in
        let fresh = q.fresh j in
        let after = with_applied log (Group j t k) in
        let stepped = q.step j (cell_in fresh one.state.cells k) (group_here h t k) in
        ⊎_elim
        (λ (e : l ≡ k).
        takes.cells l ∙ cond-true (l == k) stepped (cell_in fresh one.state.cells l) (eq-eqb l k e)
        ∙ subst (λ (n : ℕ). stepped ≡ fold_of q j (q.opening j n) (filter (λ (f : Entry). is_taken_in after j one.since f.time n) (timeline_of q job j n))) (sym e)
        (subst (λ (c : Option ℕ). stepped ≡ fold_of q j (q.opening j k) (filter (λ (f : Entry). is_taken_in after j c f.time k) (timeline_of q job j k))) (sym since) own_cell))
        (λ (e : l ≡ k → ⊥).
        let kept = filter_within (λ (f : Entry). is_taken_in log j one.since f.time l) (λ (f : Entry). is_taken_in after j one.since f.time l) (timeline_of q job j l) (λ f i. taken_same log j t k one.since f.time l (λ s. absurd (e (sym s.1)))) in
        takes.cells l ∙ cond-false (l == k) stepped (cell_in fresh one.state.cells l) (ne_eqb l k e) ∙ was.cells l own ∙ ap (fold_of q j (q.opening j l)) kept)
        (cases_eq l k)

    changed_is : IsStateOf q job (with_applied log (Group h.stage t k)) h.stage changed
    changed_is =
        let j = h.stage in
        let after = with_applied log (Group j t k) in
        record {
          wakes = λ u l own.
              subst (λ (c : Option ℕ). (Has (wakes_in changed) u l ↔ ((has after.applied (Group j u l) ≡ false) × IsWakeOf q job after j c l u))) (sym takes.since) (wakes_after u l (own ∙ takes.bin));
          cells = λ l own.
              subst (λ (c : Option ℕ). cell_in (q.fresh j) changed.state.cells l ≡ fold_of q j (q.opening j l) (filter (λ (e : Entry). is_taken_in after j c e.time l) (timeline_of q job j l))) (sym takes.since) (cells_after l (own ∙ takes.bin));
        }

  -- a state of another bin, or one that begins after the group's time, is as it was
  other_is : (s : Held Cell) → IsStateOf q job log h.stage s → (s.bin ≡ bin_of_key k job.shape.bins → began_before (suc t) s.since ≡ false) → IsStateOf q job (with_applied log (Group h.stage t k)) h.stage s
  other_is s was quiet = record { wakes = wakes; cells = cells }
    where
      key_quiet : (l : ℕ) → bin_of_key l job.shape.bins ≡ s.bin → k ≡ l → began_before (suc t) s.since ≡ false
      key_quiet l own e = quiet (sym own ∙ ap (λ (n : ℕ). bin_of_key n job.shape.bins) (sym e))

      wakes : (u l : ℕ) → bin_of_key l job.shape.bins ≡ s.bin
          → (Has (wakes_in s) u l ↔ ((has (with_applied log (Group h.stage t k)).applied (Group h.stage u l) ≡ false) × IsWakeOf q job (with_applied log (Group h.stage t k)) h.stage s.since l u))
      wakes u l own =
          let j = h.stage in (
            (λ i.
                let b = (was.wakes u l own).0 i in
                let apart : (t ≡ u) × (k ≡ l) → ⊥ = λ e. let n : t < u = wake_from s.since l u b.1 (key_quiet l own e.1) in let same : t ≡ u = e.0 in omega arith in
                (still_unapplied log j t k u l apart ∙ b.0, wake_still q job log j (Group j t k) s.since l u b.1)),
            (λ p.
                (was.wakes u l own).1 (
                  was_unapplied log j t k u l p.0,
                  ⊎_elim
                      (λ (c : IsWakeOf q job log j s.since l u). c)
                      (λ (c : (v : ℕ) × (v ≡ t) × (l ≡ k) × (began_before (suc v) s.since ≡ true) × IsPostedAt q job j l v u).
                      absurd (both_ways (began_before (suc t) s.since) (key_quiet l own (sym c.2)) (subst (λ (n : ℕ). began_before (suc n) s.since ≡ true) c.1 c.3)))
                      (wake_was q job log j t k s.since l u p.1),
                )),
          )

      cells : (l : ℕ) → bin_of_key l job.shape.bins ≡ s.bin → cell_in (q.fresh h.stage) s.state.cells l ≡ fold_of q h.stage (q.opening h.stage l) (filter (λ e. is_taken_in (with_applied log (Group h.stage t k)) h.stage s.since e.time l) (timeline_of q job h.stage l))
      cells l own =
          let j = h.stage in
          was.cells l own
          ∙ ap (fold_of q j (q.opening j l)) (filter_within (λ (e : Entry). is_taken_in log j s.since e.time l) (λ (e : Entry). is_taken_in (with_applied log (Group j t k)) j s.since e.time l) (timeline_of q job j l) (λ e i. taken_same log j t k s.since e.time l (λ d. key_quiet l own d.1)))

  -- The host afterwards

  module _ (new : Hosted Cell) (applied : IsApplied q job t k h new) where
    -- no other state in hand is of the bin and stay of the one that is changed
    apart_from_one : Pairs AreApart (applied.held.front ++ applied.held.one ∷ applied.held.rest)
    apart_from_one = subst (Pairs AreApart) applied.held.was (Pairs-AllPairs AreApart h.held host.held_once)

    one_there : Contains h.held applied.held.one
    one_there = let c = applied.held in subst (λ (l : List (Held Cell)). Contains l c.one) (sym c.was) (Contains-one c.front c.one c.changed c.rest)

    -- what is in hand beside the one is as it was
    other_after : (s : Held Cell) → Contains h.held s → ((s.bin ≡ applied.held.one.bin) × (s.since ≡ applied.held.one.since) → ⊥) → IsStateOf q job (with_applied log (Group h.stage t k)) h.stage s
    other_after s i apart =
        let b = bin_of_key k job.shape.bins in
        let there = (state_here q nothing job sound log h t k host legal denotes below full unapplied group).2 in
        let one = there.only applied.held.one one_there applied.held.found in
        other_is s (All-contains (IsStateOf q job log h.stage) h.held s host.states i) (λ bin. false_from_ne_true (began_before (suc t) s.since) (λ began.
        let own = there.only s i (and_from (s.bin == b) (began_before (suc t) s.since) (eq-eqb s.bin b bin) began) in
        apart (own.0 ∙ sym one.0, own.1 ∙ sym one.1)))

    states_after : All (IsStateOf q job (with_applied log (Group h.stage t k)) h.stage) new.held
    states_after =
        let c = applied.held in
        let here = state_here q nothing job sound log h t k host legal denotes below full unapplied group in
        let own = here.2.only c.one one_there c.found in
        let back : (z : Held Cell) → Contains (c.front ++ c.one ∷ c.rest) z → Contains h.held z = λ z i. subst (λ (l : List (Held Cell)). Contains l z) (sym c.was) i in
        subst (All (IsStateOf q job (with_applied log (Group h.stage t k)) h.stage)) (sym c.is)
        (All-changed c.front c.one c.changed c.rest (IsStateOf q job (with_applied log (Group h.stage t k)) h.stage)
        (λ z i. other_after z (back z (Contains-front c.front c.one c.changed c.rest z i)) (Pairs-front AreApart c.front c.one c.rest apart_from_one z i))
        (changed_is here.0 here.2.stays c.one c.changed one_there own.0 own.1 c.how)
        (λ z i. other_after z (back z (Contains-rest c.front c.one c.changed c.rest z i)) (λ e. Pairs-rest AreApart c.front c.one c.rest apart_from_one z i (sym e.0, sym e.1))))

    held_after : (b : ℕ) (since : Option ℕ) → (Any (λ s. (s.bin ≡ b) × (s.since ≡ since)) new.held ↔ IsInHandSince q job h.worker (with_applied log (Group h.stage t k)) h.stage b since)
    held_after b since =
        let c = applied.held in
        let is : Held Cell → Type 0 = λ s. (s.bin ≡ b) × (s.since ≡ since) in (
          (λ a.
              (host.held b since).0
              (subst (Any is) (sym c.was) (Any-changed is c.front c.changed c.one c.rest (λ p. (sym c.how.bin ∙ p.0, sym c.how.since ∙ p.1)) (subst (Any is) c.is a)))),
          (λ hand. subst (Any is) (sym c.is) (Any-changed is c.front c.one c.changed c.rest (λ p. (c.how.bin ∙ p.0, c.how.since ∙ p.1)) (subst (Any is) c.was ((host.held b since).1 hand)))),
        )

    held_once_after : AllPairs AreApart new.held
    held_once_after =
        let c = applied.held in
        subst (AllPairs AreApart) (sym c.is)
        (AllPairs-Pairs AreApart (c.front ++ c.changed ∷ c.rest)
        (Pairs-changed AreApart c.front c.one c.changed c.rest (λ z f e. f (e.0 ∙ c.how.bin, e.1 ∙ c.how.since)) (λ z f e. f (sym c.how.bin ∙ e.0, sym c.how.since ∙ e.1)) apart_from_one))

    pub applied_held : IsHostOf q job (with_applied log (Group h.stage t k)) new
    applied_held =
        let rest = filter (λ (r : Rec). not (is_of t k r)) h.records in
        by_parts (IsHostOf q job (with_applied log (Group h.stage t k))) new h.stage h.worker rest new.held applied.stage applied.worker applied.records refl
        (record {
          moves = moves_after;
          records = group_gone;
          once = AllPairs-filter (λ (r s : Rec). r ≢ s) (λ (r : Rec). not (is_of t k r)) h.records host.once;
          held = held_after;
          held_once = held_once_after;
          states = states_after;
        })

  -- The times that wait from then on

  -- what the group's records post is a wake that is here
  post_wakes : (u : ℕ) → Contains (posts_here q h t k) u → has_wake (outline_of q job) h.worker (with_applied log (Group h.stage t k)) h.stage u k ≡ true
  post_wakes u i =
      let o = outline_of q job in
      let j = h.stage in
      let b = o.bin_of k in
      let p = post_is_posted u i in
      let still = false_from_ne_true (left_since log j b t) (λ e. let r = left_at log j b t e in none_sent q nothing job sound log h t k host legal denotes below full unapplied group r.0 r.1 r.2) in
      here_wake o h.worker (with_applied log (Group j t k)) j u k (t, p.0, p.1, p.2, inl (push_has log.applied (Group j t k), still))

  -- a posted wake of the key that is here then was here before, or they post it
  posted_cases : (u : ℕ) → IsPostedHere (outline_of q job) (with_applied log (Group h.stage t k)) h.stage u k → (has_wake (outline_of q job) h.worker log h.stage u k ≡ true) ⊎ Contains (posts_here q h t k) u
  posted_cases u p =
      let o = outline_of q job in
      let j = h.stage in
      let b = o.bin_of k in
      let s = p.0 in
      ⊎_elim
      (λ (c : In (Group j s k) (with_applied log (Group j t k)).applied × (left_since log j b s ≡ false)).
      ⊎_elim
      (λ (i : In (Group j s k) log.applied). inl (here_wake o h.worker log j u k (s, p.1, p.2, p.3, inl (i, c.1))))
      (λ (d : (s ≡ t) × (k ≡ k)). inr (posted_at s k u d.0 d.1 (p.1, p.2, p.3)))
      (applied_cases log j t k s k c.0))
      (λ (c : Brought log j b s u). inl (here_wake o h.worker log j u k (s, p.1, p.2, p.3, inr c)))
      p.4

  -- so was any other, as an opening wake is here whatever is applied
  wake_cases : (u : ℕ) → has_wake (outline_of q job) h.worker (with_applied log (Group h.stage t k)) h.stage u k ≡ true → (has_wake (outline_of q job) h.worker log h.stage u k ≡ true) ⊎ Contains (posts_here q h t k) u
  wake_cases u e =
      let o = outline_of q job in
      let j = h.stage in
      let after = with_applied log (Group j t k) in
      ⊎_elim
      (λ (p : IsOpeningHere o h.worker after j u k). inl (opening_wake o h.worker log j u k p))
      (λ (p : IsPostedHere o after j u k). posted_cases u p)
      (wake_here o sound h.worker after j u k e)

  pub woken_told : (u : ℕ) → (Contains (woken_by q h t k) u ↔ ((is_pending (outline_of q job) h.worker (with_applied log (Group h.stage t k)) (Group h.stage u k) ≡ true) × (is_pending (outline_of q job) h.worker log (Group h.stage u k) ≡ false)))
  woken_told u =
      let o = outline_of q job in
      let j = h.stage in
      let after = with_applied log (Group j t k) in
      let posts = posts_here q h t k in
      let quiet : ℕ → Bool = λ u. not (waits_at h u k) in
      let waits = waits_is_pending q job sound log h below host legal denotes u k in (
        (λ i.
            let a = Contains-filter quiet posts u (Contains-ascending (filter quiet posts) u i) in
            (wake_pends o h.worker after j u k (post_unapplied u a.0) (post_wakes u a.0), sym waits ∙ not-true (waits_at h u k) a.1)),
        (λ a.
            let p = pending_is o h.worker after j u k a.0 in
            let idle = was_unapplied log j t k u k p.0 in
            let no_more : is_pending o h.worker log (Group j u k) ≡ true → ⊥ = both_ways (is_pending o h.worker log (Group j u k)) a.1 in
            let there : Contains posts u = ⊎_elim
            (λ (f : has_record after j u k ≡ true). absurd (no_more (record_pends o h.worker log j u k idle f)))
            (λ (f : has_wake o h.worker after j u k ≡ true).
            ⊎_elim
            (λ (c : has_wake o h.worker log j u k ≡ true). absurd (no_more (wake_pends o h.worker log j u k idle c)))
            (λ (c : Contains posts u). c)
            (wake_cases u f))
            p.1 in
            ascending-Contains (filter quiet posts) u (filter-Contains quiet posts u there (not_from_false (waits_at h u k) (waits ∙ a.1)))),
      )

module _ {Cell : Type 0} (q : QueryFacts Cell) (nothing : LaterStagesPostNothing q) (job : JobFacts) (sound : OutlineIsSound (outline_of q job)) where
  pub groups_are_held : GroupsAreHeld q job
  groups_are_held log seen old new t k denotes informed below inside first mail state applied =
      let full = full_here q job sound log seen old t k denotes informed below first mail state in
      let least = least_here q job sound log seen old t k denotes informed below first mail state in
      let unapplied = unapplied_here q job sound log seen old t k denotes informed below first mail state in
      applied_held q nothing job sound log old t k informed.host informed.legal denotes below full unapplied least.0.0 new applied

  pub woken_are_told : WokenAreTold q job
  woken_are_told log seen h t k u denotes informed below inside first mail state =
      let full = full_here q job sound log seen h t k denotes informed below first mail state in
      let least = least_here q job sound log seen h t k denotes informed below first mail state in
      let unapplied = unapplied_here q job sound log seen h t k denotes informed below first mail state in
      woken_told q nothing job sound log h t k informed.host informed.legal denotes below full unapplied least.0.0 u
