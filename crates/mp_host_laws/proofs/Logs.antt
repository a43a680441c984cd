-- What the log of a worker says of wakes: each came into a state that is in hand.
use Rattle.std.proofs.Common.{◌≡◌, ◌⊎◌, ℕ, zero, suc, ◌<◌, ◌≤◌, ◌==◌, ◌&&◌, ◌||◌, Bool, true, false, not, Option, None, Some, List, [], ◌∷◌, ◌++◌, filter, Contains, refl, sym, ◌∙◌, subst, subst₂, inl, inr, ⊎_elim, arith}
use Rattle.std.specs.List.{list_any}
use Rattle.std.proofs.lemmas.Bool.{false≢true, and_from, and_parts, both_ways, eq-eqb, eqb-true, false_from_ne_true, not-true, ltb-true, not_from_false, or_cases, or_left, or_right}
use Rattle.mp_names.specs.declared.names.Name.{Name}
use Rattle.mp_names.specs.declared.names.Name.TheVariants.{Rec, Packet, Group}
use Rattle.mp_names.specs.declared.names.Tag.{Tag}
use Rattle.mp_names.specs.Names.{has, In, is_group, IsAscending, IsPrefix, Less}
use Rattle.mp_names.specs.Outlines.{IsMove, Outline, OutlineIsSound, group_owner, groups_of, due_groups, is_posted}
use Rattle.mp_names.specs.Logs.{Log, LogIsLegal, brings_wake, has_record, has_wake, is_opening_here, is_pending, is_record_of, is_owned, is_wake_here, left_since, owned_groups}
use Rattle.mp_names.proofs.Lists.{any_at, any_from, filter_In, In_append, In_filter, In_here, In_left, In_push, In_right}
use Rattle.mp_names.proofs.Orders.{before_rest, filter_ascends, less_irreflexive, less_trans}
use Rattle.mp_names.proofs.Listed.{due_groups_ascend, earlier_stop, group_due, opening_group, posted_group}
use Rattle.mp_names.proofs.NameParts.{same_group}
use Rattle.mp_names.proofs.Owners.{opening_owner}
use Rattle.mp_names.proofs.Steps.{applied_before_stop}
use Rattle.mp_names.proofs.Hosts.{Brought, IsOpeningHere, brought_at, brought_from, left_at, left_from, opening_at, opening_from}
use Rattle.mp_model.specs.Facts.{JobFacts, QueryFacts}
use Rattle.mp_outline.specs.JobOutline.{opening_names, outline_of}
use Rattle.mp_outline.proofs.Waking.{wake_named, wake_stands}
use Rattle.mp_msg.specs.States.{IsOpening, IsPostedAt}
use Rattle.mp_host_laws.specs.Hosted.{began_before}
use Rattle.mp_host_laws.specs.HostOf.{CameInto, IsInHandSince, IsWakeOf, OpensInto}
use Rattle.mp_host_laws.proofs.Stays.{owner_first, since_before}

-- two tests that follow from each other are one
pub same_test : (a b : Bool) → (a ≡ true → b ≡ true) → (b ≡ true → a ≡ true) → a ≡ b
same_test true b to from = sym (to refl)
same_test false true to from = from refl
same_test false false to from = refl

-- the group of what posted at s is applied and the bin hasn't left since, or a packet brought the wake
abbrev pub IsKept : Outline → Log → ℕ → ℕ → ℕ → ℕ → Type 0
IsKept o log j k s u = (In (Group j s k) log.applied × (left_since log j (o.bin_of k) s ≡ false)) ⊎ Brought log j (o.bin_of k) s u

-- a record of the key posts the time, and the wake is here
abbrev pub IsPostedHere : Outline → Log → ℕ → ℕ → ℕ → Type 0
IsPostedHere o log j u k = (s : ℕ) × (g : Tag) × In (Rec j s k g) (o.records j) × (is_posted o (Rec j s k g) u ≡ true) × IsKept o log j k s u

-- a wake that is here is an opening wake, or was posted
pub wake_here : (o : Outline) → OutlineIsSound o → (w : ℕ) (log : Log) (j u k : ℕ) → has_wake o w log j u k ≡ true → IsOpeningHere o w log j u k ⊎ IsPostedHere o log j u k
wake_here o sound w log j u k h =
    ⊎_elim
    (λ (e : is_opening_here o w log j u k ≡ true). inl (opening_at o w log j u k e))
    (λ (e : list_any (is_wake_here o log j u k) (o.records j) ≡ true). let r = any_at (is_wake_here o log j u k) (o.records j) e in inr (form r.0 r.1 r.2))
    (or_cases (is_opening_here o w log j u k) (list_any (is_wake_here o log j u k) (o.records j)) h)
  where
    form : (x : Name) → In x (o.records j) → is_wake_here o log j u k x ≡ true → IsPostedHere o log j u k
    form (Rec i s l g) f e =
        let applied = has log.applied (Group j s k) in
        let left = left_since log j (o.bin_of k) s in
        let brought = list_any (brings_wake log j (o.bin_of k) s u) log.took in
        let p = and_parts (l == k) (is_posted o (Rec i s l g) u && (applied && not left || brought)) e in
        let c = and_parts (is_posted o (Rec i s l g) u) (applied && not left || brought) p.1 in
        let d = eqb-true l k p.0 in
        let a = eqb-true i j (sound.records_are j (Rec i s l g) f).1 in
        let kept : IsKept o log j k s u = ⊎_elim
        (λ (q : (applied && not left) ≡ true). let v = and_parts applied (not left) q in inl (v.0, not-true left v.1))
        (λ (q : brought ≡ true). inr (brought_at log j (o.bin_of k) s u q))
        (or_cases (applied && not left) brought c.1) in (
          s,
          g,
          subst (λ (i : ℕ). In (Rec i s k g) (o.records j)) a (subst (λ (l : ℕ). In (Rec i s l g) (o.records j)) d f),
          subst (λ (i : ℕ). is_posted o (Rec i s k g) u ≡ true) a (subst (λ (l : ℕ). is_posted o (Rec i s l g) u ≡ true) d c.0),
          kept,
        )
    form _ f e = absurd (false≢true e)

pub here_wake : (o : Outline) (w : ℕ) (log : Log) (j u k : ℕ) → IsPostedHere o log j u k → has_wake o w log j u k ≡ true
here_wake o w log j u k p =
    let s = p.0 in
    let b = o.bin_of k in
    let x = Rec j s k p.1 in
    let applied = has log.applied (Group j s k) in
    let left = left_since log j b s in
    let brought = list_any (brings_wake log j b s u) log.took in
    let kept : (applied && not left || brought) ≡ true = ⊎_elim
    (λ (c : In (Group j s k) log.applied × (left_since log j b s ≡ false)). or_left (applied && not left) brought (and_from applied (not left) c.0 (not_from_false left c.1)))
    (λ (c : Brought log j b s u). or_right (applied && not left) brought (brought_from log j b s u c))
    p.4 in
    or_right (is_opening_here o w log j u k) (list_any (is_wake_here o log j u k) (o.records j))
    (any_from (is_wake_here o log j u k) x (o.records j) p.2 (and_from (k == k) (is_posted o x u && (applied && not left || brought)) (eq-eqb k k refl) (and_from (is_posted o x u) (applied && not left || brought) p.3 kept)))

pub opening_wake : (o : Outline) (w : ℕ) (log : Log) (j u k : ℕ) → IsOpeningHere o w log j u k → has_wake o w log j u k ≡ true
opening_wake o w log j u k p = or_left (is_opening_here o w log j u k) (list_any (is_wake_here o log j u k) (o.records j)) (opening_from o w log j u k p)

-- a wake that is here has a group
pub here_in_groups : (o : Outline) (w : ℕ) (log : Log) (j u k : ℕ) → IsOpeningHere o w log j u k ⊎ IsPostedHere o log j u k → In (Group j u k) (groups_of o j)
here_in_groups o w log j u k h =
    ⊎_elim
    (λ (p : IsOpeningHere o w log j u k). opening_group o j (Group j u k) p.0)
    (λ (p : IsPostedHere o log j u k). posted_group o j p.0 k u p.1 p.2 p.3)
    h

-- a bin that hasn't left since an earlier time hasn't since a later one
pub still_later : (log : Log) (j b m s : ℕ) → m ≤ s → left_since log j b m ≡ false → left_since log j b s ≡ false
still_later log j b m s l e =
    false_from_ne_true (left_since log j b s) (λ h. let r = left_at log j b s h in let g : s < r.0 = r.1 in both_ways (left_since log j b m) e (left_from log j b m r.0 (omega arith) r.2))

-- where a stage begins with wakes no bin of it moves at 0
pub moves_later : (o : Outline) → OutlineIsSound o → (j : ℕ) (x : Name) → In x (o.opening j) → (b m : ℕ) → IsMove o j b m → 0 < m
moves_later o sound j x i b zero move = absurd (move (owner_first o j b ∙ sym (opening_owner o sound j x i b)))
moves_later o sound j x i b (suc m) move = omega arith

-- a bin of which no packet is sent hasn't left
never_left : (log : Log) (j b s : ℕ) → ((m : ℕ) → has log.sent (Packet j b m) ≡ false) → left_since log j b s ≡ false
never_left log j b s unsent = false_from_ne_true (left_since log j b s) (λ e. let r = left_at log j b s e in both_ways (has log.sent (Packet j b r.0)) (unsent r.0) r.2)

module _ {Cell : Type 0} (q : QueryFacts Cell) (job : JobFacts) (j u k : ℕ) where
  -- a group whose name is that of an opening wake is one that the job begins with
  pub opening_named : In (Group j u k) (opening_names q job j) → IsOpening q j k u
  opening_named i =
      let a = wake_named q job j (Group j u k) i in
      let w = a.0 in
      let same = same_group j w.0 w.1 u k a.2 in
      subst₂ (λ (t l : ℕ). Contains (q.waking j) (t, l)) same.0 same.1 a.1

module _ {Cell : Type 0} (q : QueryFacts Cell) (job : JobFacts) (sound : OutlineIsSound (outline_of q job)) (w : ℕ) (log : Log) (legal : LogIsLegal (outline_of q job) w log) where
  -- A wake of the key came into a state of the key's bin that is in hand
  abbrev pub HasSource : ℕ → ℕ → ℕ → Type 0
  HasSource j u k = (since : Option ℕ) × IsInHandSince q job w log j ((outline_of q job).bin_of k) since × IsWakeOf q job log j since k u

  -- a posted wake

  applied_source : (j u k v : ℕ) → IsPostedAt q job j k v u → In (Group j v k) log.applied → left_since log j ((outline_of q job).bin_of k) v ≡ false → HasSource j u k
  applied_source j u k v posted applied still =
      let b = (outline_of q job).bin_of k in
      let in_hand = (legal.applied_ready (Group j v k) applied).2 in
      let s = since_before q job w log legal j b (suc v) (sound.bins_fit k) in_hand (λ n l e. both_ways (left_since log j b v) still (left_from log j b v n (omega arith) e)) in
      came s.0 s.1 s.2
    where
      came : (since : Option ℕ) → IsInHandSince q job w log j ((outline_of q job).bin_of k) since → began_before (suc v) since ≡ true → HasSource j u k
      came None own began = (None, own, inr (v, posted, applied))
      came (Some m) own began = let l : m < suc v = ltb-true m (suc v) began in (Some m, own, inr (v, posted, inr (omega arith, applied)))

  posted_source : (j u k : ℕ) → IsPostedHere (outline_of q job) log j u k → HasSource j u k
  posted_source j u k p =
      let b = (outline_of q job).bin_of k in
      ⊎_elim
      (λ (c : In (Group j p.0 k) log.applied × (left_since log j b p.0 ≡ false)). applied_source j u k p.0 (p.1, p.2, p.3) c.0 c.1)
      (λ (c : Brought log j b p.0 u). (Some c.0, (c.4, c.3), inr (p.0, (p.1, p.2, p.3), inl (c.1, c.2))))
      p.4

  source_posted : (j u k : ℕ) (since : Option ℕ) → IsInHandSince q job w log j ((outline_of q job).bin_of k) since → (v : ℕ) → IsPostedAt q job j k v u → CameInto log j since k v u → has_wake (outline_of q job) w log j u k ≡ true
  source_posted j u k None own v posted came =
      let b = (outline_of q job).bin_of k in
      here_wake (outline_of q job) w log j u k (v, posted.0, posted.1, posted.2, inl (came, never_left log j b v own.2))
  source_posted j u k (Some m) own v posted came =
      let b = (outline_of q job).bin_of k in
      let kept : IsKept (outline_of q job) log j k v u = ⊎_elim
      (λ (c : (v < m) × (m ≤ u)). inr (m, c.0, c.1, own.1, own.0))
      (λ (c : (m ≤ v) × In (Group j v k) log.applied). inl (c.1, still_later log j b m v c.0 own.1))
      came in
      here_wake (outline_of q job) w log j u k (v, posted.0, posted.1, posted.2, kept)

  -- an opening wake

  opening_source : (j u k : ℕ) → IsOpeningHere (outline_of q job) w log j u k → HasSource j u k
  opening_source j u k p =
      let o = outline_of q job in
      let b = o.bin_of k in
      let opens = opening_named q job j u k p.0 in
      ⊎_elim
      (λ (c : (o.first_owner j b ≡ w) × (left_since log j b 0 ≡ false)).
      let unsent : (m : ℕ) → has log.sent (Packet j b m) ≡ false = λ m.
      false_from_ne_true (has log.sent (Packet j b m)) (λ i. both_ways (left_since log j b 0) c.1 (left_from log j b 0 m (moves_later o sound j (Group j u k) p.0 b m (legal.sent_owed (Packet j b m) i).0) i)) in
      (None, (sound.bins_fit k, c.0, unsent), inl (opens, tt)))
      (λ (c : Brought log j b 0 u). (Some c.0, (c.4, c.3), inl (opens, c.2)))
      p.1

  source_opening : (j u k : ℕ) → j < job.shape.stages → (since : Option ℕ) → IsInHandSince q job w log j ((outline_of q job).bin_of k) since → IsOpening q j k u → OpensInto since u → has_wake (outline_of q job) w log j u k ≡ true
  source_opening j u k below None own opens into =
      let o = outline_of q job in
      opening_wake o w log j u k (wake_stands q job j (u, k) below opens, inl (own.1, never_left log j (o.bin_of k) 0 own.2))
  source_opening j u k below (Some m) own opens into =
      let o = outline_of q job in
      let name = wake_stands q job j (u, k) below opens in
      let later = moves_later o sound j (Group j u k) name (o.bin_of k) m (legal.took_owed (Packet j (o.bin_of k) m) own.0).0 in
      opening_wake o w log j u k (name, inr (m, later, into, own.1, own.0))

  -- either

  pub wake_source : (j u k : ℕ) → has_wake (outline_of q job) w log j u k ≡ true → HasSource j u k
  wake_source j u k h =
      let o = outline_of q job in
      ⊎_elim
      (λ (p : IsOpeningHere o w log j u k). opening_source j u k p)
      (λ (p : IsPostedHere o log j u k). posted_source j u k p)
      (wake_here o sound w log j u k h)

  -- and the other way round
  pub source_wake : (j u k : ℕ) → j < job.shape.stages → HasSource j u k → has_wake (outline_of q job) w log j u k ≡ true
  source_wake j u k below h =
      ⊎_elim
      (λ (c : IsOpening q j k u × OpensInto h.0 u). source_opening j u k below h.0 h.1 c.0 c.1)
      (λ (c : (v : ℕ) × IsPostedAt q job j k v u × CameInto log j h.0 k v u). source_posted j u k h.0 h.1 c.0 c.1 c.2)
      h.2

-- What waits

-- a group that waits isn't applied, and a record of it is taken or its wake is here
pub pending_is : (o : Outline) (w : ℕ) (log : Log) (j u k : ℕ) → is_pending o w log (Group j u k) ≡ true → (has log.applied (Group j u k) ≡ false) × ((has_record log j u k ≡ true) ⊎ (has_wake o w log j u k ≡ true))
pending_is o w log j u k e =
    let p = and_parts (not (has log.applied (Group j u k))) (has_record log j u k || has_wake o w log j u k) e in
    (not-true (has log.applied (Group j u k)) p.0, or_cases (has_record log j u k) (has_wake o w log j u k) p.1)

pub record_pends : (o : Outline) (w : ℕ) (log : Log) (j u k : ℕ) → has log.applied (Group j u k) ≡ false → has_record log j u k ≡ true → is_pending o w log (Group j u k) ≡ true
record_pends o w log j u k n h =
    and_from (not (has log.applied (Group j u k))) (has_record log j u k || has_wake o w log j u k) (not_from_false (has log.applied (Group j u k)) n) (or_left (has_record log j u k) (has_wake o w log j u k) h)

pub wake_pends : (o : Outline) (w : ℕ) (log : Log) (j u k : ℕ) → has log.applied (Group j u k) ≡ false → has_wake o w log j u k ≡ true → is_pending o w log (Group j u k) ≡ true
wake_pends o w log j u k n h =
    and_from (not (has log.applied (Group j u k))) (has_record log j u k || has_wake o w log j u k) (not_from_false (has log.applied (Group j u k)) n) (or_right (has_record log j u k) (has_wake o w log j u k) h)

-- a record of the group that is taken
pub record_taken : (log : Log) (j u k : ℕ) → has_record log j u k ≡ true → (g : Tag) × In (Rec j u k g) log.took
record_taken log j u k h = let r = any_at (is_record_of j u k) log.took h in form r.0 r.1 r.2
  where
    form : (x : Name) → In x log.took → is_record_of j u k x ≡ true → (g : Tag) × In (Rec j u k g) log.took
    form (Rec i s l g) f e =
        let p = and_parts (i == j) (s == u && l == k) e in
        let c = and_parts (s == u) (l == k) p.1 in
        let a = subst (λ (i : ℕ). In (Rec i s l g) log.took) (eqb-true i j p.0) f in
        let b = subst (λ (s : ℕ). In (Rec j s l g) log.took) (eqb-true s u c.0) a in
        (g, subst (λ (l : ℕ). In (Rec j u l g) log.took) (eqb-true l k c.1) b)
    form _ f e = absurd (false≢true e)

pub taken_record : (log : Log) (j u k : ℕ) (g : Tag) → In (Rec j u k g) log.took → has_record log j u k ≡ true
taken_record log j u k g i =
    any_from (is_record_of j u k) (Rec j u k g) log.took i (and_from (j == j) (u == u && k == k) (eq-eqb j j refl) (and_from (u == u) (k == k) (eq-eqb u u refl) (eq-eqb k k refl)))

-- Lists that grow

-- a name of a longer list is the last, or one of the others
pub has_push : (xs : List Name) (x y : Name) → (y ≡ x → ⊥) → has (xs ++ y ∷ []) x ≡ has xs x
has_push xs x y apart =
    same_test (has (xs ++ y ∷ []) x) (has xs x)
    (λ h. ⊎_elim (λ (i : In x xs). i) (λ (e : y ≡ x). absurd (apart e)) (In_push x y xs h))
    (λ h. In_left x xs (y ∷ []) h)

pub push_has : (xs : List Name) (y : Name) → In y (xs ++ y ∷ [])
push_has xs y = In_right y xs (y ∷ []) (In_here y [])

-- what comes before a name of the beginning of an ascending list stands in that beginning
pub prefix_before : (xs ys : List Name) (x y : Name) → IsAscending ys → IsPrefix xs ys → In x xs → In y ys → Less y x → In y xs
prefix_before xs ys x y a p i k less =
    ⊎_elim
    (λ (m : In y xs). m)
    (λ (m : In y p.0). absurd (less_irreflexive x (less_trans x y x (before_rest xs p.0 (subst IsAscending (sym p.1) a) x y i m) less)))
    (In_append y xs p.0 (subst (λ (l : List Name). In y l) (sym p.1) k))

-- a group of the worker that comes before an applied one is applied
pub applied_before : (o : Outline) (w : ℕ) (log : Log) → LogIsLegal o w log → (j t u k : ℕ) → In (Group j t k) (groups_of o j) → group_owner o j t k ≡ w → In (Group j u k) log.applied → Less (Group j t k) (Group j u k) → In (Group j t k) log.applied
applied_before o w log legal j t u k group mine applied less =
    let below = (legal.applied_ready (Group j u k) applied).0 in
    let later = filter_In (is_group j) (Group j u k) log.applied applied (eq-eqb j j refl) in
    let early = earlier_stop o.until t u (sooner less) (applied_before_stop o w log legal j u k applied) in
    let own = filter_In (is_owned o w) (Group j t k) (due_groups o j) (group_due o j (Group j t k) group early) (eq-eqb (group_owner o j t k) w mine) in
    let ascends = filter_ascends (is_owned o w) (due_groups o j) (due_groups_ascend o j) in
    let here = prefix_before (filter (is_group j) log.applied) (owned_groups o w j) (Group j u k) (Group j t k) ascends (legal.applied_in_order j below) later own less in
    (In_filter (is_group j) (Group j t k) log.applied here).0
  where
    sooner : Less (Group j t k) (Group j u k) → t ≤ u
    sooner less = omega arith
