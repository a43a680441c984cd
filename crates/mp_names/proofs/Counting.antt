-- How many names the logs hold: no more than the job has, and as many where all is done.
use Rattle.std.proofs.Common.{◌≡◌, ℕ, zero, suc, ◌+◌, ◌*◌, ◌<◌, ◌≤◌, ◌==◌, Bool, true, false, cond, List, [], ◌∷◌, ◌++◌, length, filter, count_by, refl, sym, ap, subst, ⊎_elim, arith, length-append, suc-mul, zero-mul}
use Rattle.std.proofs.lemmas.Bool.{false≢true, eqb-true, eq-eqb, both_ways, false_from_ne_true}
use Rattle.mp_names.specs.declared.names.Name.{Name}
use Rattle.mp_names.specs.declared.names.Name.TheVariants.{Ctrl, Rec, Packet, Row, Group, Settled, Written}
use Rattle.mp_names.specs.declared.locations.Loc.{Loc}
use Rattle.mp_names.specs.declared.locations.Loc.TheVariants.{Ctl, CtlMail, Source, Route, Mail, Move, State, Host, OutRoute, OutMail}
use Rattle.mp_names.specs.Names.{has, In, Distinct, IsPrefix, joined_below, is_group, is_settled, is_written}
use Rattle.mp_names.specs.Outlines.{Outline, OutlineIsSound, IsBeforeStop, time_of, group_owner, groups_of, due_groups, HasControl, control_times, answer_times, sender, receiver, IsOwed, owed_names, share, name_count}
use Rattle.mp_names.specs.Logs.{Log, LogIsLegal, LogsAreLegal, IsReadyGroup, IsReadyTime, is_owned, owned_groups}
use Rattle.mp_names.specs.Locations.{reaches}
use Rattle.mp_names.specs.Frontiers.{IsDoneBy, IsClosed}
use Rattle.mp_names.specs.Laws.{names_in}
use Rattle.mp_names.proofs.Lists.{In_left, In_right, In_append, In_prefix, filter_In, In_joined, joined_In, In_here, In_later, counted, count_inside, count_both-le, Distinct_append, Distinct_joined, Distinct_filter}
use Rattle.mp_names.proofs.Orders.{ascending_once}
use Rattle.mp_names.proofs.Listed.{groups_are, due_group, due_groups_ascend, owed_before_stop, control_times_ascend, control_time_is, answer_times_ascend, answer_time_is, record_owed, owed_once, owed_is, owed_In, edges, group_owner_is_worker}
use Rattle.mp_names.proofs.Reach.{path_from_table}
use Rattle.mp_names.proofs.Mails.{total_below}
use Rattle.mp_names.proofs.Steps.{ingested_own, applied_due}

-- one list in another

every : (xs : List Name) → count_by (λ x. true) xs ≡ length xs
every [] = refl
every (x ∷ xs) =
    let a = counted (λ x. true) x xs in
    let b = every xs in
    omega arith

pub length_within : (xs ys : List Name) → Distinct xs → Distinct ys → ((x : Name) → In x xs → In x ys) → length xs ≤ length ys
length_within xs ys d e h =
    let a = count_inside (λ x. true) xs ys d e (λ x i f. h x i) in
    let b = count_both-le (λ x. true) (has xs) ys in
    let c = every xs in
    let f = every ys in
    omega arith

pub length_equal : (xs ys : List Name) → Distinct xs → Distinct ys → ((x : Name) → In x xs → In x ys) → ((x : Name) → In x ys → In x xs) → length xs ≡ length ys
length_equal xs ys d e h k =
    let a = length_within xs ys d e h in
    let b = length_within ys xs e d k in
    omega arith

prefix_once : (xs ys : List Name) → IsPrefix xs ys → Distinct ys → Distinct xs
prefix_once xs ys p d = go xs (subst Distinct (sym p.1) d)
  where
    go : (xs : List Name) → Distinct (xs ++ p.0) → Distinct xs
    go [] h = tt
    go (x ∷ xs) h = (false_from_ne_true (has xs x) (λ i. both_ways (has (xs ++ p.0) x) h.0 (In_left x xs p.0 i)), go xs h.1)

-- a list of which each name passes a test, of which those that pass stand once
pub once_by_tests : (xs : List Name) → ((x : Name) → In x xs → (p : Name → Bool) × (p x ≡ true) × Distinct (filter p xs)) → Distinct xs
once_by_tests [] h = tt
once_by_tests (y ∷ ys) h = (
  false_from_ne_true (has ys y) (λ i. let r = h y (In_here y ys) in twice r.0 r.1 (r.0 y) r.1 r.2 i),
  once_by_tests ys (λ x i. let r = h x (In_later x y ys i) in (r.0, r.1, rest r.0 (r.0 y) r.2)),
)
  where
    twice : (p : Name → Bool) → p y ≡ true → (b : Bool) → b ≡ true → Distinct (cond b (y ∷ filter p ys) (filter p ys)) → In y ys → ⊥
    twice p f true e d i = both_ways (has (filter p ys) y) d.0 (filter_In p y ys i f)
    twice p f false e d i = absurd (false≢true e)

    rest : (p : Name → Bool) (b : Bool) → Distinct (cond b (y ∷ filter p ys) (filter p ys)) → Distinct (filter p ys)
    rest p true d = d.1
    rest p false d = d

length_joined : (n : ℕ) (f : ℕ → List Name) → length (joined_below n f) ≡ total_below n (λ w. length (f w))
length_joined zero f = refl
length_joined (suc n) f =
    let a = length-append (joined_below n f) (f n) in
    let b = length_joined n f in
    omega arith

-- the sizes of the five lists

sizes_are : (n : ℕ) (logs : ℕ → Log) → names_in n logs ≡ total_below n (λ w. length (logs w).ingested) + total_below n (λ w. length (logs w).sent) + total_below n (λ w. length (logs w).took) + total_below n (λ w. length (logs w).applied) + total_below n (λ w. length (logs w).settled)
sizes_are zero logs = refl
sizes_are (suc n) logs = let a = sizes_are n logs in omega arith

total_le : (n : ℕ) (f g : ℕ → ℕ) → ((w : ℕ) → w < n → f w ≤ g w) → total_below n f ≤ total_below n g
total_le zero f g h = omega arith
total_le (suc n) f g h =
    let a = total_le n f g (λ w l. h w (omega arith)) in
    let b = h n (omega arith) in
    omega arith

total_eq : (n : ℕ) (f g : ℕ → ℕ) → ((w : ℕ) → w < n → f w ≡ g w) → total_below n f ≡ total_below n g
total_eq zero f g h = refl
total_eq (suc n) f g h =
    let a = total_eq n f g (λ w l. h w (omega arith)) in
    let b = h n (omega arith) in
    omega arith

home_of : Outline → Name → ℕ
home_of o (Group j t k) = group_owner o j t k
home_of o _ = 0

stage_of : Name → ℕ
stage_of (Group j t k) = j
stage_of (Settled j t) = j
stage_of _ = 0

module _ (o : Outline) (ok : OutlineIsSound o) where
  all_groups : List Name
  all_groups = joined_below o.stages (due_groups o)

  group_stage : (j : ℕ) (x : Name) → is_group j x ≡ true → stage_of x ≡ j
  unfolding stage_of
  group_stage j (Group i t k) e = eqb-true i j e
  group_stage j _ e = absurd (false≢true e)

  groups_once : Distinct all_groups
  unfolding all_groups
  groups_once =
      Distinct_joined o.stages (due_groups o) stage_of (λ j l. ascending_once (due_groups o j) (due_groups_ascend o j)) (λ j x l i. group_stage j x (groups_are o ok j x (due_group o j x i).0).1)

  all_times : List Name
  all_times = joined_below o.stages (control_times o)

  times_once : Distinct all_times
  unfolding all_times stage_of
  times_once =
      Distinct_joined o.stages (control_times o) stage_of (λ j l. ascending_once (control_times o j) (control_times_ascend o j)) (λ j x l i. let r = control_time_is o j x i in ap stage_of r.1)

  -- the times that a worker settles or writes
  times_for : ℕ → List Name
  unfolding all_times
  times_for zero = all_times ++ answer_times o
  times_for (suc w) = all_times

  time_kind : (x : Name) → In x all_times → is_written x ≡ false
  unfolding all_times
  time_kind x i =
      let r = In_joined o.stages (control_times o) x i in
      let c = control_time_is o r.0 x r.2 in
      subst (λ (y : Name). is_written y ≡ false) (sym c.1) refl

  times_for_once : (w : ℕ) → Distinct (times_for w)
  unfolding times_for
  times_for_once zero =
      Distinct_append all_times (answer_times o) times_once (ascending_once (answer_times o) (answer_times_ascend o)) (λ x i. false_from_ne_true (has (answer_times o) x) (λ k. let r = answer_time_is o ok x k in both_ways (is_written x) (time_kind x i) (subst (λ (y : Name). is_written y ≡ true) (sym r.2) refl)))
  times_for_once (suc w) = times_once

  control_for : (w : ℕ) (x : Name) → In x all_times → In x (times_for w)
  unfolding times_for
  control_for zero x i = In_left x all_times (answer_times o) i
  control_for (suc w) x i = i

  answer_for : (x : Name) → In x (answer_times o) → In x (times_for 0)
  unfolding times_for
  answer_for x i = In_right x all_times (answer_times o) i

  total_times : (n : ℕ) → total_below (suc n) (λ w. length (times_for w)) ≡ suc n * length all_times + length (answer_times o)
  unfolding times_for
  total_times zero =
      let a = length-append all_times (answer_times o) in
      let b = suc-mul 0 (length all_times) in
      let c = zero-mul (length all_times) in
      omega arith
  total_times (suc n) =
      let a = total_times n in
      let b = suc-mul (suc n) (length all_times) in
      omega arith

  total_of_workers : (n : ℕ) → 0 < n → total_below n (λ w. length (times_for w)) ≡ n * length all_times + length (answer_times o)
  total_of_workers zero l = absurd (omega arith)
  total_of_workers (suc n) l = total_times n

  count_is : name_count o ≡ 2 * length (owed_names o) + length (o.records 0) + length all_groups + o.workers * length all_times + length (answer_times o)
  unfolding name_count all_groups all_times
  count_is = refl

  module _ (w : ℕ) (log : Log) (good : LogIsLegal o w log) where
    applied_once : Distinct log.applied
    applied_once = once_by_tests log.applied (λ x i. test x i (good.applied_ready x i))
      where
        test : (x : Name) → In x log.applied → IsReadyGroup o w log x → (p : Name → Bool) × (p x ≡ true) × Distinct (filter p log.applied)
        test (Group j t k) i r = (
          is_group j,
          eq-eqb j j refl,
          prefix_once (filter (is_group j) log.applied) (owned_groups o w j) (good.applied_in_order j r.0) (Distinct_filter (is_owned o w) (due_groups o j) (ascending_once (due_groups o j) (due_groups_ascend o j))),
        )
        test _ i r = absurd r

    settled_once : Distinct log.settled
    settled_once = once_by_tests log.settled (λ x i. test x i (good.settled_ready x i))
      where
        test : (x : Name) → In x log.settled → IsReadyTime o w log x → (p : Name → Bool) × (p x ≡ true) × Distinct (filter p log.settled)
        test (Settled j t) i r = (
          is_settled j,
          eq-eqb j j refl,
          prefix_once (filter (is_settled j) log.settled) (control_times o j) (good.settled_in_order j r.0) (ascending_once (control_times o j) (control_times_ascend o j)),
        )
        test (Written t) i r = (is_written, refl, prefix_once (filter is_written log.settled) (answer_times o) good.written_in_order (ascending_once (answer_times o) (answer_times_ascend o)))
        test _ i r = absurd r

    settled_within : (x : Name) → In x log.settled → In x (times_for w)
    unfolding all_times
    settled_within x i = form x i (good.settled_ready x i)
      where
        form : (x : Name) → In x log.settled → IsReadyTime o w log x → In x (times_for w)
        form (Settled j t) i r =
            let k = In_prefix (Settled j t) (filter (is_settled j) log.settled) (control_times o j) (good.settled_in_order j r.0) (filter_In (is_settled j) (Settled j t) log.settled i (eq-eqb j j refl)) in
            control_for w (Settled j t) (joined_In o.stages (control_times o) (Settled j t) j r.0 k)
        form (Written t) i r =
            let k = In_prefix (Written t) (filter is_written log.settled) (answer_times o) good.written_in_order (filter_In is_written (Written t) log.settled i refl) in
            subst (λ (v : ℕ). In (Written t) (times_for v)) (sym r.0) (answer_for (Written t) k)
        form _ i r = absurd r

    applied_within : (x : Name) → In x log.applied → In x all_groups × (home_of o x ≡ w)
    unfolding all_groups home_of
    applied_within x i = form x i (good.applied_ready x i)
      where
        form : (x : Name) → In x log.applied → IsReadyGroup o w log x → In x all_groups × (home_of o x ≡ w)
        form (Group j t k) i r = let q = applied_due o w log good j t k i in (joined_In o.stages (due_groups o) (Group j t k) j r.0 q.0, q.1)
        form _ i r = absurd r

  module _ (logs : ℕ → Log) (good : LogsAreLegal o logs) where
    all_sent : List Name
    all_sent = joined_below o.workers (λ w. (logs w).sent)

    all_took : List Name
    all_took = joined_below o.workers (λ w. (logs w).took)

    all_ingested : List Name
    all_ingested = joined_below o.workers (λ w. (logs w).ingested)

    all_applied : List Name
    all_applied = joined_below o.workers (λ w. (logs w).applied)

    sent_once : Distinct all_sent
    unfolding all_sent
    sent_once = Distinct_joined o.workers (λ w. (logs w).sent) (sender o) (λ w l. (good w l).sent_once) (λ w x l i. ((good w l).sent_owed x i).1)

    took_once : Distinct all_took
    unfolding all_took
    took_once = Distinct_joined o.workers (λ w. (logs w).took) (receiver o) (λ w l. (good w l).took_once) (λ w x l i. ((good w l).took_owed x i).1)

    ingested_once : Distinct all_ingested
    unfolding all_ingested
    ingested_once =
        Distinct_joined o.workers (λ w. (logs w).ingested) (sender o)
        (λ w l. prefix_once (logs w).ingested (share o w) (good w l).ingested_in_order (Distinct_filter (λ x. sender o x == w) (o.records 0) (ok.records_once 0)))
        (λ w x l i. (ingested_own o w (logs w) (good w l) x i).1)

    all_applied_once : Distinct all_applied
    unfolding all_applied
    all_applied_once =
        Distinct_joined o.workers (λ w. (logs w).applied) (home_of o) (λ w l. applied_once w (logs w) (good w l)) (λ w x l i. (applied_within w (logs w) (good w l) x i).1)

    sent_within : (x : Name) → In x all_sent → In x (owed_names o)
    unfolding all_sent
    sent_within x i = let r = In_joined o.workers (λ w. (logs w).sent) x i in owed_In o x ((good r.0 r.1).sent_owed x r.2).0

    took_within : (x : Name) → In x all_took → In x (owed_names o)
    unfolding all_took
    took_within x i = let r = In_joined o.workers (λ w. (logs w).took) x i in owed_In o x ((good r.0 r.1).took_owed x r.2).0

    ingested_within : (x : Name) → In x all_ingested → In x (o.records 0)
    unfolding all_ingested
    ingested_within x i = let r = In_joined o.workers (λ w. (logs w).ingested) x i in (ingested_own o r.0 (logs r.0) (good r.0 r.1) x r.2).0

    all_applied_within : (x : Name) → In x all_applied → In x all_groups
    unfolding all_applied
    all_applied_within x i = let r = In_joined o.workers (λ w. (logs w).applied) x i in (applied_within r.0 (logs r.0) (good r.0 r.1) x r.2).0

    names_are : names_in o.workers logs ≡ length all_ingested + length all_sent + length all_took + length all_applied + total_below o.workers (λ w. length (logs w).settled)
    unfolding all_ingested all_sent all_took all_applied
    names_are =
        let e = sizes_are o.workers logs in
        let a = length_joined o.workers (λ w. (logs w).ingested) in
        let b = length_joined o.workers (λ w. (logs w).sent) in
        let c = length_joined o.workers (λ w. (logs w).took) in
        let d = length_joined o.workers (λ w. (logs w).applied) in
        omega arith

    pub bounded : names_in o.workers logs ≤ name_count o
    bounded =
        let e = names_are in
        let f = count_is in
        let a = length_within all_ingested (o.records 0) ingested_once (ok.records_once 0) ingested_within in
        let b = length_within all_sent (owed_names o) sent_once (owed_once o ok) sent_within in
        let c = length_within all_took (owed_names o) took_once (owed_once o ok) took_within in
        let d = length_within all_applied all_groups all_applied_once groups_once all_applied_within in
        let g = total_le o.workers (λ w. length (logs w).settled) (λ w. length (times_for w)) (λ w l. length_within (logs w).settled (times_for w) (settled_once w (logs w) (good w l)) (times_for_once w) (settled_within w (logs w) (good w l))) in
        let h = total_of_workers o.workers ok.some_worker in
        omega arith

    -- where all is closed and written, each list is full

    module _ (closed : (t : ℕ) → IsBeforeStop o.until t → IsClosed o logs OutMail t) (written : (x : Name) → In x (answer_times o) → In x (logs 0).settled) where
      done : (a : Loc) (t : ℕ) → IsBeforeStop o.until t → reaches a OutMail ≡ true → (w : ℕ) → w < o.workers → IsDoneBy o w (logs w) a t
      done a t b r w l = closed t b w l a t (path_from_table a OutMail r) (omega arith)

      sent_by : (x : Name) → IsOwed o x → In x (logs (sender o x)).sent
      sent_by x d = go x d (edges o ok x d).0
        where
          go : (x : Name) → IsOwed o x → sender o x < o.workers → In x (logs (sender o x)).sent
          go (Ctrl i v) d l = done Ctl (time_of o (Ctrl i v)) (owed_before_stop o ok (Ctrl i v) d) refl 0 l (Ctrl i v) (d, refl) refl refl
          go (Rec j t k g) d l = done (Route j) t (owed_before_stop o ok (Rec j t k g) d) refl (sender o (Rec j t k g)) l (Rec j t k g) (d, refl) (eq-eqb j j refl) refl
          go (Packet j b t) d l = (done (Move j) t (owed_before_stop o ok (Packet j b t) d) refl (sender o (Packet j b t)) l).1 (Packet j b t) (d, refl) (eq-eqb j j refl) refl
          go (Row t g) d l = done OutRoute t (owed_before_stop o ok (Row t g) d) refl (sender o (Row t g)) l (Row t g) (d, refl) refl refl
          go _ d l = absurd d

      taken_by : (x : Name) → IsOwed o x → In x (logs (receiver o x)).took
      taken_by x d = go x d (edges o ok x d).1
        where
          go : (x : Name) → IsOwed o x → receiver o x < o.workers → In x (logs (receiver o x)).took
          go (Ctrl i v) d l = done CtlMail (time_of o (Ctrl i v)) (owed_before_stop o ok (Ctrl i v) d) refl v l (Ctrl i v) (d, refl) refl refl
          go (Rec j t k g) d l = done (Mail j) t (owed_before_stop o ok (Rec j t k g) d) refl (receiver o (Rec j t k g)) l (Rec j t k g) (d, refl) (eq-eqb j j refl) refl
          go (Packet j b t) d l = done (State j) t (owed_before_stop o ok (Packet j b t) d) refl (receiver o (Packet j b t)) l (Packet j b t) (d, refl) (eq-eqb j j refl) refl
          go (Row t g) d l = done OutMail t (owed_before_stop o ok (Row t g) d) refl 0 l (Row t g) (d, refl) refl refl
          go _ d l = absurd d

      sent_full : (x : Name) → In x (owed_names o) → In x all_sent
      unfolding all_sent
      sent_full x i = let d = owed_is o ok x i in joined_In o.workers (λ w. (logs w).sent) x (sender o x) (edges o ok x d).0 (sent_by x d)

      took_full : (x : Name) → In x (owed_names o) → In x all_took
      unfolding all_took
      took_full x i = let d = owed_is o ok x i in joined_In o.workers (λ w. (logs w).took) x (receiver o x) (edges o ok x d).1 (taken_by x d)

      ingested_full : (x : Name) → In x (o.records 0) → In x all_ingested
      unfolding all_ingested
      ingested_full x i =
          let w = sender o x in
          let l = (edges o ok x (record_owed o ok 0 x i)).0 in
          joined_In o.workers (λ w. (logs w).ingested) x w l (done Source (time_of o x) (ok.records_stop 0 x i) refl w l x (filter_In (λ y. sender o y == w) x (o.records 0) i (eq-eqb w w refl)) refl)

      applied_full : (x : Name) → In x all_groups → In x all_applied
      unfolding all_groups all_applied
      applied_full x i = let r = In_joined o.stages (due_groups o) x i in let d = due_group o r.0 x r.2 in go x r.0 r.1 d.0 d.1
        where
          go : (x : Name) (j : ℕ) → j < o.stages → In x (groups_of o j) → IsBeforeStop o.until (time_of o x) → In x (joined_below o.workers (λ w. (logs w).applied))
          go (Group i t k) j l g b =
              let e = eqb-true i j (groups_are o ok j (Group i t k) g).1 in
              let w = group_owner o i t k in
              let m = group_owner_is_worker o ok i t k (subst (λ (n : ℕ). n < o.stages) (sym e) l) in
              joined_In o.workers (λ w. (logs w).applied) (Group i t k) w m (done (Host j) t b refl w m (Group i t k) g (eq-eqb w w refl) refl)
          go x j l g b = absurd (false≢true (groups_are o ok j x g).1)

      control_before_stop : (j t : ℕ) → HasControl o j t → IsBeforeStop o.until t
      control_before_stop j t c = subst (IsBeforeStop o.until) c.3 (ok.controls_stop c.0 c.1)

      control_settled : (w : ℕ) → w < o.workers → (x : Name) → In x all_times → In x (logs w).settled
      unfolding all_times
      control_settled w l x i =
          let r = In_joined o.stages (control_times o) x i in
          let c = control_time_is o r.0 x r.2 in
          subst (λ (y : Name). In y (logs w).settled) (sym c.1) ((done (Move r.0) c.0 (control_before_stop r.0 c.0 c.2) refl w l).0 c.2)

      settled_full : (w : ℕ) → w < o.workers → (x : Name) → In x (times_for w) → In x (logs w).settled
      unfolding times_for
      settled_full zero l x i = ⊎_elim (λ (k : In x all_times). control_settled 0 l x k) (λ (k : In x (answer_times o)). written x k) (In_append x all_times (answer_times o) i)
      settled_full (suc w) l x i = control_settled (suc w) l x i

      pub full : names_in o.workers logs ≡ name_count o
      full =
          let e = names_are in
          let f = count_is in
          let a = length_equal all_ingested (o.records 0) ingested_once (ok.records_once 0) ingested_within ingested_full in
          let b = length_equal all_sent (owed_names o) sent_once (owed_once o ok) sent_within sent_full in
          let c = length_equal all_took (owed_names o) took_once (owed_once o ok) took_within took_full in
          let d = length_equal all_applied all_groups all_applied_once groups_once all_applied_within applied_full in
          let g = total_eq o.workers (λ w. length (logs w).settled) (λ w. length (times_for w)) (λ w l. length_equal (logs w).settled (times_for w) (settled_once w (logs w) (good w l)) (times_for_once w) (settled_within w (logs w) (good w l)) (settled_full w l)) in
          let h = total_of_workers o.workers ok.some_worker in
          omega arith
