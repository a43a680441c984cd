-- The work of a job of which nothing is done, location by location.
use Rattle.std.proofs.Common.{◌≡◌, ℕ, ◌+◌, ◌*◌, ◌<◌, ◌≤◌, ◌==◌, Bool, true, false, cond, List, [], ◌∷◌, length, filter, count_by, refl, sym, ap, ◌∙◌, subst, ⊎_elim, arith, mul-zero}
use Rattle.std.proofs.lemmas.Bool.{false≢true, both_ways, eqb-true, eq-eqb, ne_eqb, cases_Bool, cases_lt}
use Rattle.mp_names.specs.declared.names.Name.{Name}
use Rattle.mp_names.specs.declared.names.Name.TheVariants.{Ctrl, Rec, Packet, Row, Group, Settled, Written}
use Rattle.mp_names.specs.declared.locations.Loc.{Loc}
use Rattle.mp_names.specs.declared.locations.Loc.TheVariants.{Ctl, CtlMail, Source, Route, Mail, Move, State, Host, OutRoute, OutMail}
use Rattle.mp_names.specs.Names.{In, Distinct, joined_below, is_ctrl, is_rec, is_packet, is_row, is_group}
use Rattle.mp_names.specs.Outlines.{Outline, OutlineIsSound, time_of, control_at, group_owner, groups_of, packets_of, control_times, ctrl_names, owed_names, owed_by, owed_to, sender, receiver, IsOwed}
use Rattle.mp_names.specs.Locations.{IsLocation}
use Rattle.mp_names.specs.Logs.{empty_log, is_owned}
use Rattle.mp_names.proofs.Lists.{In_cases, In_filter, filter_In, In_joined, count_none, count_agree, counted, Distinct_joined, Distinct_filter}
use Rattle.mp_names.proofs.Listed.{ctrl_owed, ctrl_In, record_owed, row_owed, packet_In, packet_is, packets_ascend, owed_once, owed_is, owed_In, edges, groups_are, group_owner_is_worker, control_time_is}
use Rattle.mp_names.proofs.Orders.{ascending_once}
use Rattle.mp_names.proofs.Owners.{move_in_shape}
use Rattle.mp_player_laws.specs.WorkLeft.{added_below, work_left}
use Rattle.mp_work_lists.specs.Parts.{time_in, names_at, controls_at, job_work, stage_work}
use Rattle.mp_work_lists.proofs.Sums.{same_sum, sum_of_both, sum_of_same, sum_of_none, sum_of_times, sum_of_controls, one_within, one_beyond, by_owner, kind_by_owner, count_kind, count_joined}

-- Names

pub own_time : (o : Outline) (x : Name) → is_ctrl x ≡ false → time_of o x ≡ time_in x
own_time o (Ctrl i v) h = absurd (false≢true (sym h))
own_time o (Rec j t k g) h = refl
own_time o (Packet j b t) h = refl
own_time o (Row t g) h = refl
own_time o (Group j t k) h = refl
own_time o (Settled j t) h = refl
own_time o (Written t) h = refl

rec_no_ctrl : (j : ℕ) (x : Name) → is_rec j x ≡ true → is_ctrl x ≡ false
rec_no_ctrl j (Rec i t k g) h = refl
rec_no_ctrl j _ h = absurd (false≢true h)

packet_no_ctrl : (j : ℕ) (x : Name) → is_packet j x ≡ true → is_ctrl x ≡ false
packet_no_ctrl j (Packet i b t) h = refl
packet_no_ctrl j _ h = absurd (false≢true h)

row_no_ctrl : (x : Name) → is_row x ≡ true → is_ctrl x ≡ false
row_no_ctrl (Row t g) h = refl
row_no_ctrl _ h = absurd (false≢true h)

group_no_ctrl : (j : ℕ) (x : Name) → is_group j x ≡ true → is_ctrl x ≡ false
group_no_ctrl j (Group i t k) h = refl
group_no_ctrl j _ h = absurd (false≢true h)

index_in : Name → ℕ
index_in (Ctrl i v) = i
index_in _ = 0

to_in : Name → ℕ
to_in (Ctrl i v) = v
to_in _ = 0

alone : (x y : Name) → In x (y ∷ []) → y ≡ x
alone x y h = ⊎_elim (λ (e : y ≡ x). e) (λ (i : In x []). absurd (false≢true i)) (In_cases x y [] h)

ctrl_once : (o : Outline) → Distinct (ctrl_names o)
unfolding index_in to_in
ctrl_once o =
    Distinct_joined (length o.controls) (λ i. joined_below o.workers (λ v. Ctrl i v ∷ [])) index_in
    (λ i l. Distinct_joined o.workers (λ v. Ctrl i v ∷ []) to_in (λ v k. (refl, tt)) (λ v x k h. ap to_in (sym (alone x (Ctrl i v) h))))
    (λ i x l h. let r = In_joined o.workers (λ v. Ctrl i v ∷ []) x h in ap index_in (sym (alone x (Ctrl i r.0) r.2)))

-- the owner of a group
abbrev home : Outline → Name → ℕ
home o (Group j t k) = group_owner o j t k
home o _ = 0

module _ (o : Outline) (ok : OutlineIsSound o) (t : ℕ) where
  abbrev at : Name → Bool
  at x = time_of o x == t

  -- What is sent, and what is taken

  sent_kind : (k : Name → Bool) (part : List Name) → Distinct part → ((x : Name) → In x part → In x (owed_names o) × (k x ≡ true)) → ((x : Name) → In x (owed_names o) → k x ≡ true → In x part) → added_below o.workers (λ w. count_by at (filter k (owed_by o w))) ≡ count_by at part
  sent_kind k part each into back =
      kind_by_owner o.workers (sender o) k at (owed_names o) (λ x i. (edges o ok x (owed_is o ok x i)).0)
      ∙ count_kind k at (owed_names o) part (owed_once o ok) each into back

  took_kind : (k : Name → Bool) (part : List Name) → Distinct part → ((x : Name) → In x part → In x (owed_names o) × (k x ≡ true)) → ((x : Name) → In x (owed_names o) → k x ≡ true → In x part) → added_below o.workers (λ w. count_by at (filter k (owed_to o w))) ≡ count_by at part
  took_kind k part each into back =
      kind_by_owner o.workers (receiver o) k at (owed_names o) (λ x i. (edges o ok x (owed_is o ok x i)).1)
      ∙ count_kind k at (owed_names o) part (owed_once o ok) each into back

  by_own_time : (part : List Name) → ((x : Name) → In x part → is_ctrl x ≡ false) → count_by at part ≡ names_at t part
  by_own_time part h = count_agree at (λ x. time_in x == t) part (λ x i. ap (λ (u : ℕ). u == t) (own_time o x (h x i)))

  -- Control records

  ctrl_into : (x : Name) → In x (ctrl_names o) → In x (owed_names o) × (is_ctrl x ≡ true)
  ctrl_into x i = let r = ctrl_owed o x i in (owed_In o x r.0, r.1)

  ctrl_back : (x : Name) → In x (owed_names o) → is_ctrl x ≡ true → In x (ctrl_names o)
  ctrl_back x i h = form x (owed_is o ok x i) h
    where
      form : (x : Name) → IsOwed o x → is_ctrl x ≡ true → In x (ctrl_names o)
      form (Ctrl i v) r h = ctrl_In o i v r.0 r.1
      form _ r h = absurd (false≢true h)

  one_control : (i v : ℕ) → count_by at (Ctrl i v ∷ []) ≡ cond ((control_at o i).time == t) 1 0
  one_control i v = let a = counted at (Ctrl i v) [] in omega arith

  each_control : (i : ℕ) → count_by at (joined_below o.workers (λ v. Ctrl i v ∷ [])) ≡ o.workers * cond ((control_at o i).time == t) 1 0
  each_control i =
      count_joined at o.workers (λ v. Ctrl i v ∷ [])
      ∙ same_sum o.workers (λ v. count_by at (Ctrl i v ∷ [])) (λ v. cond ((control_at o i).time == t) 1 0) (λ v l. one_control i v)
      ∙ sum_of_same o.workers (cond ((control_at o i).time == t) 1 0)

  ctrl_count : count_by at (ctrl_names o) ≡ o.workers * controls_at t o.controls
  ctrl_count =
      count_joined at (length o.controls) (λ i. joined_below o.workers (λ v. Ctrl i v ∷ []))
      ∙ same_sum (length o.controls) (λ i. count_by at (joined_below o.workers (λ v. Ctrl i v ∷ []))) (λ i. o.workers * cond ((control_at o i).time == t) 1 0) (λ i l. each_control i)
      ∙ sum_of_times (length o.controls) o.workers (λ i. cond ((control_at o i).time == t) 1 0)
      ∙ ap (λ (n : ℕ). o.workers * n) (sum_of_controls (λ c. cond (c.time == t) 1 0) o.controls)

  -- Records

  rec_into : (j : ℕ) (x : Name) → In x (o.records j) → In x (owed_names o) × (is_rec j x ≡ true)
  rec_into j x i = (owed_In o x (record_owed o ok j x i), (ok.records_are j x i).1)

  rec_back : (j : ℕ) (x : Name) → In x (owed_names o) → is_rec j x ≡ true → In x (o.records j)
  rec_back j x i h = form x (owed_is o ok x i) h
    where
      form : (x : Name) → IsOwed o x → is_rec j x ≡ true → In x (o.records j)
      form (Rec i t k g) r h = subst (λ (n : ℕ). In (Rec i t k g) (o.records n)) (eqb-true i j h) r.1
      form _ r h = absurd (false≢true h)

  rec_time : (j : ℕ) → count_by at (o.records j) ≡ names_at t (o.records j)
  rec_time j = by_own_time (o.records j) (λ x i. rec_no_ctrl j x (ok.records_are j x i).1)

  rec_none : (j : ℕ) → o.stages ≤ j → names_at t (o.records j) ≡ 0
  rec_none j l = count_none (λ x. time_in x == t) (o.records j) (λ x i. let k = (ok.records_are j x i).0 in absurd (omega arith))

  -- Packets

  packets : ℕ → List Name
  packets j = filter (is_packet j) (packets_of o)

  packet_once : (j : ℕ) → Distinct (packets j)
  unfolding packets
  packet_once j = Distinct_filter (is_packet j) (packets_of o) (ascending_once (packets_of o) (packets_ascend o))

  packet_kind : (j : ℕ) (x : Name) → In x (packets j) → In x (packets_of o) × (is_packet j x ≡ true)
  unfolding packets
  packet_kind j x i = In_filter (is_packet j) x (packets_of o) i

  packet_into : (j : ℕ) (x : Name) → In x (packets j) → In x (owed_names o) × (is_packet j x ≡ true)
  packet_into j x i = let r = packet_kind j x i in (form x r.0 r.1, r.1)
    where
      form : (x : Name) → In x (packets_of o) → is_packet j x ≡ true → In x (owed_names o)
      form (Packet i b t) k h = owed_In o (Packet i b t) (packet_is o i b t k)
      form _ k h = absurd (false≢true h)

  packet_back : (j : ℕ) (x : Name) → In x (owed_names o) → is_packet j x ≡ true → In x (packets j)
  unfolding packets
  packet_back j x i h = filter_In (is_packet j) x (packets_of o) (form x (owed_is o ok x i) h) h
    where
      form : (x : Name) → IsOwed o x → is_packet j x ≡ true → In x (packets_of o)
      form (Packet i b t) r h = packet_In o i b t r
      form _ r h = absurd (false≢true h)

  packet_time : (j : ℕ) → count_by at (packets j) ≡ names_at t (packets j)
  packet_time j = by_own_time (packets j) (λ x i. packet_no_ctrl j x (packet_kind j x i).1)

  packet_none : (j : ℕ) → o.stages ≤ j → names_at t (packets j) ≡ 0
  packet_none j l = count_none (λ x. time_in x == t) (packets j) (λ x i. let r = packet_kind j x i in form x r.0 r.1)
    where
      form : (x : Name) → In x (packets_of o) → is_packet j x ≡ true → (time_in x == t) ≡ false
      form (Packet i b u) k h = let e = eqb-true i j h in let s = move_in_shape o ok i b u (packet_is o i b u k) in let m = s.0 in absurd (omega arith)
      form _ k h = absurd (false≢true h)

  -- Control times

  settled_time : (j : ℕ) → count_by at (control_times o j) ≡ names_at t (control_times o j)
  settled_time j = by_own_time (control_times o j) (λ x i. let r = control_time_is o j x i in subst (λ (y : Name). is_ctrl y ≡ false) (sym r.1) refl)

  settled_none : (j : ℕ) → o.stages ≤ j → names_at t (control_times o j) ≡ 0
  settled_none j l =
      count_none (λ x. time_in x == t) (control_times o j) (λ x i.
      let r = control_time_is o j x i in
      let c = r.2 in
      let fits = ok.controls_fit c.0 c.1 in
      let e : (control_at o c.0).stage ≡ j = c.2 in
      let k = fits.1 in
      absurd (omega arith))

  moves_none : (j : ℕ) → o.stages ≤ j → o.workers * names_at t (control_times o j) + names_at t (filter (is_packet j) (packets_of o)) ≡ 0
  unfolding packets
  moves_none j l =
      let a = packet_none j l in
      let b = settled_none j l in
      let c = ap (λ (n : ℕ). o.workers * n) b in
      let d = mul-zero o.workers in
      omega arith

  -- Groups

  group_home : (j : ℕ) (x : Name) → In x (groups_of o j) → home o x < o.workers
  group_home j x i = let r = groups_are o ok j x i in form x r.0 r.1
    where
      form : (x : Name) → j < o.stages → is_group j x ≡ true → home o x < o.workers
      form (Group i u k) l h = let e = eqb-true i j h in group_owner_is_worker o ok i u k (omega arith)
      form _ l h = absurd (false≢true h)

  group_owned : (j : ℕ) (x : Name) → In x (groups_of o j) → (w : ℕ) → is_owned o w x ≡ (home o x == w)
  group_owned j x i w = form x (groups_are o ok j x i).1
    where
      form : (x : Name) → is_group j x ≡ true → is_owned o w x ≡ (home o x == w)
      form (Group i u k) h = refl
      form _ h = absurd (false≢true h)

  group_time : (j : ℕ) → count_by at (groups_of o j) ≡ names_at t (groups_of o j)
  group_time j = by_own_time (groups_of o j) (λ x i. group_no_ctrl j x (groups_are o ok j x i).1)

  group_none : (j : ℕ) → o.stages ≤ j → names_at t (groups_of o j) ≡ 0
  group_none j l = count_none (λ x. time_in x == t) (groups_of o j) (λ x i. let k = (groups_are o ok j x i).0 in absurd (omega arith))

  -- Answer rows

  row_into : (x : Name) → In x o.rows → In x (owed_names o) × (is_row x ≡ true)
  row_into x i = (owed_In o x (row_owed o ok x i), ok.rows_are x i)

  row_back : (x : Name) → In x (owed_names o) → is_row x ≡ true → In x o.rows
  row_back x i h = form x (owed_is o ok x i) h
    where
      form : (x : Name) → IsOwed o x → is_row x ≡ true → In x o.rows
      form (Row u g) r h = r
      form _ r h = absurd (false≢true h)

  row_time : count_by at o.rows ≡ names_at t o.rows
  row_time = by_own_time o.rows (λ x i. row_no_ctrl x (ok.rows_are x i))

  -- All of it

  -- a location without a stage has no work of stages
  no_stage : (a : Loc) → ((j : ℕ) → stage_work o j a t ≡ 0) → added_below o.stages (λ j. stage_work o j a t) ≡ 0
  no_stage a h = sum_of_none o.stages (λ j. stage_work o j a t) (λ j l. h j)

  same_either_way : (m n : ℕ) → (m == n) ≡ (n == m)
  same_either_way m n =
      ⊎_elim
      (λ (e : m == n ≡ true). e ∙ sym (eq-eqb n m (sym (eqb-true m n e))))
      (λ (e : m == n ≡ false). e ∙ sym (ne_eqb n m (λ (f : n ≡ m). both_ways (m == n) e (eq-eqb m n (sym f)))))
      (cases_Bool (m == n))

  -- one of a stage has that of its stage alone
  one_stage : (a : Loc) (i : ℕ) (f : ℕ → ℕ) → ((j : ℕ) → stage_work o j a t ≡ cond (j == i) (f j) 0) → (o.stages ≤ i → f i ≡ 0) → added_below o.stages (λ j. stage_work o j a t) ≡ f i
  one_stage a i f h none =
      same_sum o.stages (λ j. stage_work o j a t) (λ j. cond (i == j) (f j) 0) (λ j l. h j ∙ ap (λ (b : Bool). cond b (f j) 0) (same_either_way j i))
      ∙ ⊎_elim (λ (l : i < o.stages). one_within o.stages i f l) (λ (l : o.stages ≤ i). one_beyond o.stages i f l ∙ sym (none l)) (cases_lt i o.stages)

  pub work_is : (a : Loc) → work_left o (λ w. empty_log) a t ≡ job_work o a t
  unfolding packets
  work_is Ctl =
      let a = sent_kind is_ctrl (ctrl_names o) (ctrl_once o) ctrl_into ctrl_back in
      let b = ctrl_count in
      let c = no_stage Ctl (λ j. refl) in
      omega arith
  work_is CtlMail =
      let a = took_kind is_ctrl (ctrl_names o) (ctrl_once o) ctrl_into ctrl_back in
      let b = ctrl_count in
      let c = no_stage CtlMail (λ j. refl) in
      omega arith
  work_is Source =
      let a = by_owner o.workers (λ w x. sender o x == w) (sender o) at (o.records 0) (λ x i. (edges o ok x (record_owed o ok 0 x i)).0) (λ x i w. refl) in
      let b = rec_time 0 in
      let c = one_stage Source 0 (λ j. names_at t (o.records j)) (λ j. omega arith) (rec_none 0) in
      omega arith
  work_is (Route i) =
      let a = sent_kind (is_rec i) (o.records i) (ok.records_once i) (rec_into i) (rec_back i) in
      let b = rec_time i in
      let c = one_stage (Route i) i (λ j. names_at t (o.records j)) (λ j. omega arith) (rec_none i) in
      omega arith
  work_is (Mail i) =
      let a = took_kind (is_rec i) (o.records i) (ok.records_once i) (rec_into i) (rec_back i) in
      let b = rec_time i in
      let c = one_stage (Mail i) i (λ j. names_at t (o.records j)) (λ j. omega arith) (rec_none i) in
      omega arith
  work_is (Move i) =
      let a = sent_kind (is_packet i) (packets i) (packet_once i) (packet_into i) (packet_back i) in
      let b = packet_time i in
      let c = settled_time i in
      let d = sum_of_both o.workers (λ w. count_by at (control_times o i)) (λ w. count_by at (filter (is_packet i) (owed_by o w))) in
      let e = sum_of_same o.workers (count_by at (control_times o i)) in
      let f = ap (λ (n : ℕ). o.workers * n) c in
      let g = one_stage (Move i) i (λ j. o.workers * names_at t (control_times o j) + names_at t (filter (is_packet j) (packets_of o))) (λ j. omega arith) (moves_none i) in
      omega arith
  work_is (State i) =
      let a = took_kind (is_packet i) (packets i) (packet_once i) (packet_into i) (packet_back i) in
      let b = packet_time i in
      let c = one_stage (State i) i (λ j. names_at t (filter (is_packet j) (packets_of o))) (λ j. omega arith) (packet_none i) in
      omega arith
  work_is (Host i) =
      let a = by_owner o.workers (is_owned o) (home o) at (groups_of o i) (group_home i) (group_owned i) in
      let b = group_time i in
      let c = one_stage (Host i) i (λ j. names_at t (groups_of o j)) (λ j. omega arith) (group_none i) in
      omega arith
  work_is OutRoute =
      let a = sent_kind is_row o.rows ok.rows_once row_into row_back in
      let b = row_time in
      let c = no_stage OutRoute (λ j. refl) in
      omega arith
  work_is OutMail =
      let a = took_kind is_row o.rows ok.rows_once row_into row_back in
      let b = row_time in
      let c = no_stage OutMail (λ j. refl) in
      omega arith

  -- Where there is work

  within : (i : ℕ) (n : ℕ) → (o.stages ≤ i → n ≡ 0) → 0 < n → i < o.stages
  within i n none l = ⊎_elim (λ (k : i < o.stages). k) (λ (k : o.stages ≤ i). let e = none k in absurd (omega arith)) (cases_lt i o.stages)

  pub located : (a : Loc) → 0 < job_work o a t → IsLocation o.stages a
  unfolding packets
  located Ctl l = tt
  located CtlMail l = tt
  located Source l = tt
  located (Route i) l =
      let c = one_stage (Route i) i (λ j. names_at t (o.records j)) (λ j. omega arith) (rec_none i) in
      within i (names_at t (o.records i)) (rec_none i) (omega arith)
  located (Mail i) l =
      let c = one_stage (Mail i) i (λ j. names_at t (o.records j)) (λ j. omega arith) (rec_none i) in
      within i (names_at t (o.records i)) (rec_none i) (omega arith)
  located (Move i) l =
      let c = one_stage (Move i) i (λ j. o.workers * names_at t (control_times o j) + names_at t (filter (is_packet j) (packets_of o))) (λ j. omega arith) (moves_none i) in
      within i (o.workers * names_at t (control_times o i) + names_at t (filter (is_packet i) (packets_of o))) (moves_none i) (omega arith)
  located (State i) l =
      let c = one_stage (State i) i (λ j. names_at t (filter (is_packet j) (packets_of o))) (λ j. omega arith) (packet_none i) in
      within i (names_at t (filter (is_packet i) (packets_of o))) (packet_none i) (omega arith)
  located (Host i) l =
      let c = one_stage (Host i) i (λ j. names_at t (groups_of o j)) (λ j. omega arith) (group_none i) in
      within i (names_at t (groups_of o i)) (group_none i) (omega arith)
  located OutRoute l = tt
  located OutMail l = tt
