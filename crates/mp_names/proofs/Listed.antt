-- What stands in the lists of an outline: its groups, times, moves and the names that have to be sent.
use Rattle.std.proofs.Common.{◌≡◌, ℕ, zero, suc, ◌-◌, ◌<◌, ◌≤◌, Bool, true, false, ◌==◌, List, [], ◌∷◌, ◌++◌, length, map, flat_map, Option, None, Some, refl, sym, ap, ◌∙◌, subst, inl, inr, ⊎_elim, arith, mod-lt}
use Rattle.std.specs.List.{list_any}
use Rattle.std.proofs.lemmas.Bool.{false≢true, eqb-true, eq-eqb, ltb-true, lt-ltb, ne_eqb, or_cases, or_left, or_right, both_ways, false_from_ne_true, not-true, not_from_false}
use Rattle.mp_names.specs.declared.names.Name.{Name}
use Rattle.mp_names.specs.declared.names.Name.TheVariants.{Ctrl, Rec, Packet, Row, Group, Settled, Written}
use Rattle.mp_names.specs.declared.names.Tag.{Tag}
use Rattle.mp_names.specs.declared.controls.Control.{Control}
use Rattle.mp_names.specs.Names.{has, In, Distinct, joined_below, IsAscending, ascending, is_ctrl, is_row, is_group, is_settled}
use Rattle.mp_names.specs.Controls.{control_of}
use Rattle.mp_names.specs.Outlines.{Outline, OutlineIsSound, IsBeforeStop, is_before_stop, control_at, time_of, owner_before, owner_at, group_owner, IsMove, is_moving, packets_of, is_posted, groups_made, groups_of, due_groups, HasControl, control_times, answer_times, sender, receiver, IsOwed, IsOwedBy, IsOwedTo, ctrl_names, owed_names, owed_by, owed_to}
use Rattle.mp_names.specs.Laws.{IsCaused, IsMade}
use Rattle.mp_names.proofs.Lists.{In_here, In_later, In_cases, In_left, In_right, In_append, In_filter, filter_In, In_joined, joined_In, Distinct_append, Distinct_joined}
use Rattle.mp_names.proofs.NameParts.{stage_in}
use Rattle.mp_names.proofs.Orders.{ascending_ascends, In_ascending, ascending_In, ascending_once, filter_ascends}
use Rattle.mp_names.proofs.Owners.{move_found, owner_is_worker, move_has_control, move_in_shape}

-- lists that are mapped

pub In_flat : (f : Name → List Name) (xs : List Name) (x : Name) → In x (flat_map f xs) → (y : Name) × In y xs × In x (f y)
In_flat f [] x h = absurd (false≢true h)
In_flat f (y ∷ ys) x h =
    ⊎_elim (λ (i : In x (f y)). (y, In_here y ys, i)) (λ (i : In x (flat_map f ys)). let r = In_flat f ys x i in (r.0, In_later r.0 y ys r.1, r.2)) (In_append x (f y) (flat_map f ys) h)

pub flat_In : (f : Name → List Name) (xs : List Name) (x y : Name) → In y xs → In x (f y) → In x (flat_map f xs)
flat_In f [] x y h i = absurd (false≢true h)
flat_In f (z ∷ zs) x y h i =
    ⊎_elim
    (λ (e : z ≡ y). In_left x (f z) (flat_map f zs) (subst (λ (u : Name). In x (f u)) (sym e) i))
    (λ (k : In y zs). In_right x (f z) (flat_map f zs) (flat_In f zs x y k i))
    (In_cases y z zs h)

pub In_map : (f : Name → Name) (xs : List Name) (x : Name) → In x (map f xs) → (y : Name) × In y xs × (f y ≡ x)
In_map f [] x h = absurd (false≢true h)
In_map f (y ∷ ys) x h =
    ⊎_elim (λ (e : f y ≡ x). (y, In_here y ys, e)) (λ (i : In x (map f ys)). let r = In_map f ys x i in (r.0, In_later r.0 y ys r.1, r.2)) (In_cases x (f y) (map f ys) h)

pub map_In : (f : Name → Name) (xs : List Name) (y : Name) → In y xs → In (f y) (map f xs)
map_In f [] y h = absurd (false≢true h)
map_In f (z ∷ zs) y h =
    ⊎_elim
    (λ (e : z ≡ y). subst (λ (u : Name). In (f u) (f z ∷ map f zs)) e (In_here (f z) (map f zs)))
    (λ (k : In y zs). In_later (f y) (f z) (map f zs) (map_In f zs y k))
    (In_cases y z zs h)

In_controls : (f : Control → Name) (cs : List Control) (x : Name) → In x (map f cs) → (i : ℕ) × (i < length cs) × (f (control_of cs i) ≡ x)
In_controls f [] x h = absurd (false≢true h)
In_controls f (c ∷ cs) x h =
    ⊎_elim (λ (e : f c ≡ x). (0, omega arith, e)) (λ (i : In x (map f cs)). let r = In_controls f cs x i in let l = r.1 in (suc r.0, omega arith, r.2)) (In_cases x (f c) (map f cs) h)

controls_In : (f : Control → Name) (cs : List Control) (i : ℕ) → i < length cs → In (f (control_of cs i)) (map f cs)
controls_In f [] i l = absurd (omega arith)
controls_In f (c ∷ cs) zero l = In_here (f c) (map f cs)
controls_In f (c ∷ cs) (suc i) l = In_later (f (control_of cs i)) (f c) (map f cs) (controls_In f cs i (omega arith))

-- groups

posted_In : (j k u : ℕ) (vs : List ℕ) → list_any (λ v. v == u) vs ≡ true → In (Group j u k) (map (λ v. Group j v k) vs)
posted_In j k u [] h = absurd (false≢true h)
posted_In j k u (v ∷ vs) h =
    ⊎_elim
    (λ (e : (v == u) ≡ true). subst (λ (w : ℕ). In (Group j w k) (Group j v k ∷ map (λ v. Group j v k) vs)) (eqb-true v u e) (In_here (Group j v k) (map (λ v. Group j v k) vs)))
    (λ (e : list_any (λ v. v == u) vs ≡ true). In_later (Group j u k) (Group j v k) (map (λ v. Group j v k) vs) (posted_In j k u vs e))
    (or_cases (v == u) (list_any (λ v. v == u) vs) h)

In_posted : (j k : ℕ) (vs : List ℕ) (x : Name) → In x (map (λ v. Group j v k) vs) → (u : ℕ) × (list_any (λ v. v == u) vs ≡ true) × (Group j u k ≡ x)
In_posted j k [] x h = absurd (false≢true h)
In_posted j k (v ∷ vs) x h =
    ⊎_elim
    (λ (e : Group j v k ≡ x). (v, or_left (v == v) (list_any (λ w. w == v) vs) (eq-eqb v v refl), e))
    (λ (i : In x (map (λ v. Group j v k) vs)). let r = In_posted j k vs x i in (r.0, or_right (v == r.0) (list_any (λ w. w == r.0) vs) r.1, r.2))
    (In_cases x (Group j v k) (map (λ v. Group j v k) vs) h)

pub opening_group : (o : Outline) (j : ℕ) (x : Name) → In x (o.opening j) → In x (groups_of o j)
unfolding groups_of
opening_group o j x h = ascending_In x (o.opening j ++ flat_map (groups_made o) (o.records j)) (In_left x (o.opening j) (flat_map (groups_made o) (o.records j)) h)

made_group : (o : Outline) (j : ℕ) (x r : Name) → In r (o.records j) → In x (groups_made o r) → In x (groups_of o j)
unfolding groups_of
made_group o j x r h i =
    ascending_In x (o.opening j ++ flat_map (groups_made o) (o.records j)) (In_right x (o.opening j) (flat_map (groups_made o) (o.records j)) (flat_In (groups_made o) (o.records j) x r h i))

pub record_group : (o : Outline) (j t k : ℕ) (g : Tag) → In (Rec j t k g) (o.records j) → In (Group j t k) (groups_of o j)
record_group o j t k g h = made_group o j (Group j t k) (Rec j t k g) h (In_here (Group j t k) (map (λ u. Group j u k) (o.posts (Rec j t k g))))

pub posted_group : (o : Outline) (j s k u : ℕ) (g : Tag) → In (Rec j s k g) (o.records j) → is_posted o (Rec j s k g) u ≡ true → In (Group j u k) (groups_of o j)
posted_group o j s k u g h p =
    made_group o j (Group j u k) (Rec j s k g) h (In_later (Group j u k) (Group j s k) (map (λ v. Group j v k) (o.posts (Rec j s k g))) (posted_In j k u (o.posts (Rec j s k g)) p))

-- the stop time

pub before_stop : (stop : Option ℕ) (t : ℕ) → is_before_stop stop t ≡ true → IsBeforeStop stop t
before_stop None t h = tt
before_stop (Some s) t h = ltb-true t s h

pub before_stop-from : (stop : Option ℕ) (t : ℕ) → IsBeforeStop stop t → is_before_stop stop t ≡ true
before_stop-from None t h = refl
before_stop-from (Some s) t h = lt-ltb t s h

pub earlier_stop : (stop : Option ℕ) (s t : ℕ) → s ≤ t → IsBeforeStop stop t → IsBeforeStop stop s
earlier_stop None s t l h = tt
earlier_stop (Some u) s t l h = omega arith

-- a group is due exactly where it is before the stop time

pub due_group : (o : Outline) (j : ℕ) (x : Name) → In x (due_groups o j) → In x (groups_of o j) × IsBeforeStop o.until (time_of o x)
due_group o j x h = let r = In_filter (λ y. is_before_stop o.until (time_of o y)) x (groups_of o j) h in (r.0, before_stop o.until (time_of o x) r.1)

pub group_due : (o : Outline) (j : ℕ) (x : Name) → In x (groups_of o j) → IsBeforeStop o.until (time_of o x) → In x (due_groups o j)
group_due o j x h b = filter_In (λ y. is_before_stop o.until (time_of o y)) x (groups_of o j) h (before_stop-from o.until (time_of o x) b)

-- groups in order

pub groups_ascend : (o : Outline) (j : ℕ) → IsAscending (groups_of o j)
unfolding groups_of
groups_ascend o j = ascending_ascends (o.opening j ++ flat_map (groups_made o) (o.records j))

pub due_groups_ascend : (o : Outline) (j : ℕ) → IsAscending (due_groups o j)
due_groups_ascend o j = filter_ascends (λ x. is_before_stop o.until (time_of o x)) (groups_of o j) (groups_ascend o j)

abbrev IsCausedName : Outline → ℕ → Name → Type 0
IsCausedName o j (Group i t k) = (i ≡ j) × (j < o.stages) × IsCaused o j t k
IsCausedName o j _ = ⊥

made_cause : (o : Outline) → OutlineIsSound o → (j : ℕ) (r x : Name) → In r (o.records j) → In x (groups_made o r) → IsCausedName o j x
made_cause o ok j (Rec i s k g) x h m =
    let f = ok.records_are j (Rec i s k g) h in
    let e = eqb-true i j f.1 in
    let h' = subst (λ (n : ℕ). In (Rec n s k g) (o.records j)) e h in
    ⊎_elim
    (λ (q : Group i s k ≡ x). subst (IsCausedName o j) q (e, f.0, inr (s, g, h', inl refl)))
    (λ (q : In x (map (λ u. Group i u k) (o.posts (Rec i s k g)))).
    let r = In_posted i k (o.posts (Rec i s k g)) x q in
    subst (IsCausedName o j) r.2 (e, f.0, inr (s, g, h', inr (subst (λ (n : ℕ). is_posted o (Rec n s k g) r.0 ≡ true) e r.1))))
    (In_cases x (Group i s k) (map (λ u. Group i u k) (o.posts (Rec i s k g))) m)
made_cause o ok j _ x h m = absurd (false≢true m)

opening_cause : (o : Outline) → OutlineIsSound o → (j : ℕ) (x : Name) → In x (o.opening j) → IsCausedName o j x
opening_cause o ok j x h = form x h (ok.opening_are j x h)
  where
    form : (x : Name) → In x (o.opening j) → (j < o.stages) × (is_group j x ≡ true) → IsCausedName o j x
    form (Group i t k) h f = let e = eqb-true i j f.1 in (e, f.0, inl (subst (λ (n : ℕ). In (Group n t k) (o.opening j)) e h))
    form _ h f = absurd (false≢true f.1)

group_cause_name : (o : Outline) → OutlineIsSound o → (j : ℕ) (x : Name) → In x (groups_of o j) → IsCausedName o j x
unfolding groups_of
group_cause_name o ok j x h =
    ⊎_elim
    (λ (i : In x (o.opening j)). opening_cause o ok j x i)
    (λ (i : In x (flat_map (groups_made o) (o.records j))). let r = In_flat (groups_made o) (o.records j) x i in made_cause o ok j r.0 x r.1 r.2)
    (In_append x (o.opening j) (flat_map (groups_made o) (o.records j)) (In_ascending x (o.opening j ++ flat_map (groups_made o) (o.records j)) h))

pub group_cause : (o : Outline) → OutlineIsSound o → (j t k : ℕ) → In (Group j t k) (groups_of o j) → IsCaused o j t k
group_cause o ok j t k h = (group_cause_name o ok j (Group j t k) h).2

pub groups_are : (o : Outline) → OutlineIsSound o → (j : ℕ) (x : Name) → In x (groups_of o j) → (j < o.stages) × (is_group j x ≡ true)
groups_are o ok j x h = form x (group_cause_name o ok j x h)
  where
    form : (x : Name) → IsCausedName o j x → (j < o.stages) × (is_group j x ≡ true)
    form (Group i t k) c = (c.1, eq-eqb i j c.0)
    form _ c = absurd c

-- what holds of each group of a stage and time holds of each name in the list
pub group_form : (o : Outline) → OutlineIsSound o → (P : Name → Type 0) (j u : ℕ) → ((k : ℕ) → In (Group j u k) (groups_of o j) → P (Group j u k)) → (x : Name) → In x (groups_of o j) → time_of o x ≡ u → P x
group_form o ok P j u h (Group i t k) g e =
    let f = eqb-true i j (groups_are o ok j (Group i t k) g).1 in
    subst (λ (i : ℕ). P (Group i t k)) (sym f) (subst (λ (t : ℕ). P (Group j t k)) (sym e) (h k (subst (λ (i : ℕ). In (Group i u k) (groups_of o j)) f (subst (λ (t : ℕ). In (Group i t k) (groups_of o j)) e g))))
group_form o ok P j u h x g e = absurd (false≢true (groups_are o ok j x g).1)

-- times

pub control_times_ascend : (o : Outline) (j : ℕ) → IsAscending (control_times o j)
unfolding control_times
control_times_ascend o j = filter_ascends (is_settled j) (ascending (map (λ c. Settled c.stage c.time) o.controls)) (ascending_ascends (map (λ c. Settled c.stage c.time) o.controls))

pub control_time_In : (o : Outline) (j t : ℕ) → HasControl o j t → In (Settled j t) (control_times o j)
unfolding control_times
control_time_In o j t c =
    let names = map (λ c. Settled c.stage c.time) o.controls in
    let i = controls_In (λ c. Settled c.stage c.time) o.controls c.0 c.1 in
    let k = subst (λ (n : ℕ). In (Settled n (control_at o c.0).time) names) c.2 i in
    filter_In (is_settled j) (Settled j t) (ascending names) (ascending_In (Settled j t) names (subst (λ (n : ℕ). In (Settled j n) names) c.3 k)) (eq-eqb j j refl)

pub control_time_is : (o : Outline) (j : ℕ) (x : Name) → In x (control_times o j) → (t : ℕ) × (x ≡ Settled j t) × HasControl o j t
unfolding control_times
control_time_is o j x h =
    let names = map (λ c. Settled c.stage c.time) o.controls in
    let r = In_filter (is_settled j) x (ascending names) h in
    let c = In_controls (λ c. Settled c.stage c.time) o.controls x (In_ascending x names r.0) in
    let e : (control_at o c.0).stage ≡ j = eqb-true (control_at o c.0).stage j (subst (λ (y : Name). is_settled j y ≡ true) (sym c.2) r.1) in
    ((control_at o c.0).time, sym c.2 ∙ ap (λ (n : ℕ). Settled n (control_at o c.0).time) e, (c.0, c.1, e, refl))

pub answer_times_ascend : (o : Outline) → IsAscending (answer_times o)
unfolding answer_times
answer_times_ascend o = ascending_ascends (map (λ x. Written (time_of o x)) o.rows)

pub answer_time_In : (o : Outline) (t : ℕ) (g : Tag) → In (Row t g) o.rows → In (Written t) (answer_times o)
unfolding answer_times
answer_time_In o t g h = ascending_In (Written t) (map (λ x. Written (time_of o x)) o.rows) (map_In (λ x. Written (time_of o x)) o.rows (Row t g) h)

pub answer_time_is : (o : Outline) → OutlineIsSound o → (x : Name) → In x (answer_times o) → (t : ℕ) × (g : Tag) × (x ≡ Written t) × In (Row t g) o.rows
unfolding answer_times
answer_time_is o ok x h =
    let r = In_map (λ x. Written (time_of o x)) o.rows x (In_ascending x (map (λ x. Written (time_of o x)) o.rows) h) in
    form r.0 r.1 r.2
  where
    form : (y : Name) → In y o.rows → Written (time_of o y) ≡ x → (t : ℕ) × (g : Tag) × (x ≡ Written t) × In (Row t g) o.rows
    form (Row t g) i e = (t, g, sym e, i)
    form y i e = absurd (false≢true (ok.rows_are y i))

-- moves

moving_is : (o : Outline) (j b t : ℕ) → is_moving o (Packet j b t) ≡ true → IsMove o j b t
unfolding owner_before
moving_is o j b t h e = both_ways (owner_before o j b t == owner_at o j b t) (not-true (owner_before o j b t == owner_at o j b t) h) (eq-eqb (owner_before o j b t) (owner_at o j b t) e)

is_moving_from : (o : Outline) (j b t : ℕ) → IsMove o j b t → is_moving o (Packet j b t) ≡ true
unfolding owner_before
is_moving_from o j b t h = not_from_false (owner_before o j b t == owner_at o j b t) (ne_eqb (owner_before o j b t) (owner_at o j b t) h)

pub packets_ascend : (o : Outline) → IsAscending (packets_of o)
unfolding packets_of
packets_ascend o = filter_ascends (is_moving o) (ascending (map (λ c. Packet c.stage c.bin c.time) o.controls)) (ascending_ascends (map (λ c. Packet c.stage c.bin c.time) o.controls))

pub packet_In : (o : Outline) (j b t : ℕ) → IsMove o j b t → In (Packet j b t) (packets_of o)
unfolding packets_of
packet_In o j b t h =
    let names = map (λ c. Packet c.stage c.bin c.time) o.controls in
    let c = move_found o j b t h in
    let n0 = controls_In (λ c. Packet c.stage c.bin c.time) o.controls c.0 c.1 in
    let n1 = subst (λ (n : ℕ). In (Packet n (control_at o c.0).bin (control_at o c.0).time) names) c.2 n0 in
    let n2 = subst (λ (n : ℕ). In (Packet j n (control_at o c.0).time) names) c.3 n1 in
    let n3 = subst (λ (n : ℕ). In (Packet j b n) names) c.4 n2 in
    filter_In (is_moving o) (Packet j b t) (ascending names) (ascending_In (Packet j b t) names n3) (is_moving_from o j b t h)

pub packet_is : (o : Outline) (j b t : ℕ) → In (Packet j b t) (packets_of o) → IsMove o j b t
unfolding packets_of
packet_is o j b t h = moving_is o j b t (In_filter (is_moving o) (Packet j b t) (ascending (map (λ c. Packet c.stage c.bin c.time) o.controls)) h).1

packets_are : (o : Outline) (x : Name) → In x (packets_of o) → is_moving o x ≡ true
unfolding packets_of
packets_are o x h = (In_filter (is_moving o) x (ascending (map (λ c. Packet c.stage c.bin c.time) o.controls)) h).1

-- control records

pub ctrl_In : (o : Outline) (i v : ℕ) → i < length o.controls → v < o.workers → In (Ctrl i v) (ctrl_names o)
ctrl_In o i v l k =
    joined_In (length o.controls) (λ i. joined_below o.workers (λ v. Ctrl i v ∷ [])) (Ctrl i v) i l (joined_In o.workers (λ v. Ctrl i v ∷ []) (Ctrl i v) v k (In_here (Ctrl i v) []))

In_one : (x y : Name) → In x (y ∷ []) → y ≡ x
In_one x y h = ⊎_elim (λ (e : y ≡ x). e) (λ (i : In x []). absurd (false≢true i)) (In_cases x y [] h)

pub ctrl_is : (o : Outline) (x : Name) → In x (ctrl_names o) → (i : ℕ) × (v : ℕ) × (i < length o.controls) × (v < o.workers) × (Ctrl i v ≡ x)
ctrl_is o x h =
    let r = In_joined (length o.controls) (λ i. joined_below o.workers (λ v. Ctrl i v ∷ [])) x h in
    let q = In_joined o.workers (λ v. Ctrl r.0 v ∷ []) x r.2 in
    (r.0, q.0, r.1, q.1, In_one x (Ctrl r.0 q.0) q.2)

pub ctrl_owed : (o : Outline) (x : Name) → In x (ctrl_names o) → IsOwed o x × (is_ctrl x ≡ true)
ctrl_owed o x h = let r = ctrl_is o x h in subst (λ (y : Name). IsOwed o y × (is_ctrl y ≡ true)) r.4 ((r.2, r.3), refl)

index_in : Name → ℕ
index_in (Ctrl i v) = i
index_in _ = 0

to_in : Name → ℕ
to_in (Ctrl i v) = v
to_in _ = 0

ctrl_once : (o : Outline) → Distinct (ctrl_names o)
unfolding index_in to_in
ctrl_once o =
    Distinct_joined (length o.controls) (λ i. joined_below o.workers (λ v. Ctrl i v ∷ [])) index_in
    (λ i l. Distinct_joined o.workers (λ v. Ctrl i v ∷ []) to_in (λ v k. (refl, tt)) (λ v x k h. ap to_in (sym (In_one x (Ctrl i v) h))))
    (λ i x l h. let r = In_joined o.workers (λ v. Ctrl i v ∷ []) x h in ap index_in (sym (In_one x (Ctrl i r.0) r.2)))

-- records and rows

pub record_owed : (o : Outline) → OutlineIsSound o → (j : ℕ) (x : Name) → In x (o.records j) → IsOwed o x
record_owed o ok j (Rec i t k g) h =
    let f = ok.records_are j (Rec i t k g) h in
    let e = eqb-true i j f.1 in
    (subst (λ (n : ℕ). n < o.stages) (sym e) f.0, subst (λ (n : ℕ). In (Rec i t k g) (o.records n)) (sym e) h)
record_owed o ok j x h = absurd (false≢true (ok.records_are j x h).1)

pub row_owed : (o : Outline) → OutlineIsSound o → (x : Name) → In x o.rows → IsOwed o x
row_owed o ok (Row t g) h = h
row_owed o ok x h = absurd (false≢true (ok.rows_are x h))

-- all that is owed

is_some_rec : Name → Bool
is_some_rec (Rec j t k g) = true
is_some_rec _ = false

apart : (p : Name → Bool) (xs ys : List Name) → ((x : Name) → In x xs → p x ≡ true) → ((x : Name) → In x ys → p x ≡ false) → (x : Name) → In x xs → has ys x ≡ false
apart p xs ys h k x i = false_from_ne_true (has ys x) (λ j. both_ways (p x) (k x j) (h x i))

record_form : (o : Outline) → OutlineIsSound o → (j : ℕ) (x : Name) → In x (o.records j) → (stage_in x ≡ j) × (is_some_rec x ≡ true) × (is_ctrl x ≡ false)
unfolding is_some_rec
record_form o ok j (Rec i t k g) h = (eqb-true i j (ok.records_are j (Rec i t k g) h).1, refl, refl)
record_form o ok j x h = absurd (false≢true (ok.records_are j x h).1)

packet_kind : (o : Outline) (x : Name) → is_moving o x ≡ true → (is_ctrl x ≡ false) × (is_some_rec x ≡ false) × (is_row x ≡ false)
unfolding is_some_rec
packet_kind o (Packet j b t) h = (refl, refl, refl)
packet_kind o _ h = absurd (false≢true h)

row_kind : (x : Name) → is_row x ≡ true → (is_ctrl x ≡ false) × (is_some_rec x ≡ false)
unfolding is_some_rec
row_kind (Row t g) h = (refl, refl)
row_kind _ h = absurd (false≢true h)

module _ (o : Outline) (ok : OutlineIsSound o) where
  rest_once : Distinct (packets_of o ++ o.rows)
  rest_once =
      Distinct_append (packets_of o) o.rows (ascending_once (packets_of o) (packets_ascend o)) ok.rows_once (λ x i. false_from_ne_true (has o.rows x) (λ k. both_ways (is_row x) (packet_kind o x (packets_are o x i)).2 (ok.rows_are x k)))

  rest_kind : (x : Name) → In x (packets_of o ++ o.rows) → (is_ctrl x ≡ false) × (is_some_rec x ≡ false)
  rest_kind x i =
      ⊎_elim (λ (k : In x (packets_of o)). let r = packet_kind o x (packets_are o x k) in (r.0, r.1)) (λ (k : In x o.rows). row_kind x (ok.rows_are x k)) (In_append x (packets_of o) o.rows i)

  all_records_kind : (x : Name) → In x (joined_below o.stages o.records) → (is_some_rec x ≡ true) × (is_ctrl x ≡ false)
  all_records_kind x i = let r = In_joined o.stages o.records x i in let f = record_form o ok r.0 x r.2 in (f.1, f.2)

  pub owed_once : Distinct (owed_names o)
  unfolding owed_names
  owed_once =
      Distinct_append (ctrl_names o) (joined_below o.stages o.records ++ (packets_of o ++ o.rows)) (ctrl_once o)
      (Distinct_append (joined_below o.stages o.records) (packets_of o ++ o.rows)
      (Distinct_joined o.stages o.records stage_in (λ j l. ok.records_once j) (λ j x l h. (record_form o ok j x h).0))
      rest_once
      (apart is_some_rec (joined_below o.stages o.records) (packets_of o ++ o.rows) (λ x i. (all_records_kind x i).0) (λ x i. (rest_kind x i).1)))
      (apart is_ctrl (ctrl_names o) (joined_below o.stages o.records ++ (packets_of o ++ o.rows)) (λ x i. (ctrl_owed o x i).1) (λ x i. ⊎_elim (λ (k : In x (joined_below o.stages o.records)). (all_records_kind x k).1) (λ (k : In x (packets_of o ++ o.rows)). (rest_kind x k).0) (In_append x (joined_below o.stages o.records) (packets_of o ++ o.rows) i)))

  packet_owed : (x : Name) → In x (packets_of o) → IsOwed o x
  packet_owed x i = form x i (packets_are o x i)
    where
      form : (x : Name) → In x (packets_of o) → is_moving o x ≡ true → IsOwed o x
      form (Packet j b t) i h = packet_is o j b t i
      form _ i h = absurd (false≢true h)

  pub owed_is : (x : Name) → In x (owed_names o) → IsOwed o x
  unfolding owed_names
  owed_is x i =
      ⊎_elim
      (λ (k : In x (ctrl_names o)). (ctrl_owed o x k).0)
      (λ (k : In x (joined_below o.stages o.records ++ (packets_of o ++ o.rows))).
      ⊎_elim
      (λ (l : In x (joined_below o.stages o.records)). let r = In_joined o.stages o.records x l in record_owed o ok r.0 x r.2)
      (λ (l : In x (packets_of o ++ o.rows)). ⊎_elim (λ (m : In x (packets_of o)). packet_owed x m) (λ (m : In x o.rows). row_owed o ok x m) (In_append x (packets_of o) o.rows l))
      (In_append x (joined_below o.stages o.records) (packets_of o ++ o.rows) k))
      (In_append x (ctrl_names o) (joined_below o.stages o.records ++ (packets_of o ++ o.rows)) i)

pub owed_In : (o : Outline) (x : Name) → IsOwed o x → In x (owed_names o)
unfolding owed_names
owed_In o (Ctrl i v) h = In_left (Ctrl i v) (ctrl_names o) (joined_below o.stages o.records ++ (packets_of o ++ o.rows)) (ctrl_In o i v h.0 h.1)
owed_In o (Rec j t k g) h =
    In_right (Rec j t k g) (ctrl_names o) (joined_below o.stages o.records ++ (packets_of o ++ o.rows)) (In_left (Rec j t k g) (joined_below o.stages o.records) (packets_of o ++ o.rows) (joined_In o.stages o.records (Rec j t k g) j h.0 h.1))
owed_In o (Packet j b t) h =
    In_right (Packet j b t) (ctrl_names o) (joined_below o.stages o.records ++ (packets_of o ++ o.rows)) (In_right (Packet j b t) (joined_below o.stages o.records) (packets_of o ++ o.rows) (In_left (Packet j b t) (packets_of o) o.rows (packet_In o j b t h)))
owed_In o (Row t g) h =
    In_right (Row t g) (ctrl_names o) (joined_below o.stages o.records ++ (packets_of o ++ o.rows)) (In_right (Row t g) (joined_below o.stages o.records) (packets_of o ++ o.rows) (In_right (Row t g) (packets_of o) o.rows h))
owed_In o _ h = absurd h

-- every edge is between workers

pub group_owner_is_worker : (o : Outline) → OutlineIsSound o → (j t k : ℕ) → j < o.stages → group_owner o j t k < o.workers
group_owner_is_worker o ok j t k l = owner_is_worker o ok j (o.bin_of k) (suc t) l (ok.bins_fit k)

pub edges : (o : Outline) → OutlineIsSound o → (x : Name) → IsOwed o x → (sender o x < o.workers) × (receiver o x < o.workers)
edges o ok (Ctrl i v) h = (ok.some_worker, h.1)
edges o ok (Rec zero t k g) h = (mod-lt g.1 ok.some_worker, group_owner_is_worker o ok 0 t k h.0)
edges o ok (Rec (suc j) t k g) h = let l = h.0 in (group_owner_is_worker o ok j t g.0 (omega arith), group_owner_is_worker o ok (suc j) t k h.0)
edges o ok (Packet j b t) h = let l = move_in_shape o ok j b t h in (owner_is_worker o ok j b t l.0 l.1, owner_is_worker o ok j b (suc t) l.0 l.1)
edges o ok (Row t g) h = let l = ok.some_stage in (group_owner_is_worker o ok (o.stages - 1) t g.0 (omega arith), ok.some_worker)
edges o ok _ h = absurd h

-- what one worker has to send, or to take

pub owed_by_is : (o : Outline) → OutlineIsSound o → (w : ℕ) (x : Name) → In x (owed_by o w) → IsOwedBy o w x
owed_by_is o ok w x i = let r = In_filter (λ y. sender o y == w) x (owed_names o) i in (owed_is o ok x r.0, eqb-true (sender o x) w r.1)

pub owed_by_In : (o : Outline) (w : ℕ) (x : Name) → IsOwedBy o w x → In x (owed_by o w)
owed_by_In o w x d = filter_In (λ y. sender o y == w) x (owed_names o) (owed_In o x d.0) (eq-eqb (sender o x) w d.1)

pub owed_to_is : (o : Outline) → OutlineIsSound o → (w : ℕ) (x : Name) → In x (owed_to o w) → IsOwedTo o w x
owed_to_is o ok w x i = let r = In_filter (λ y. receiver o y == w) x (owed_names o) i in (owed_is o ok x r.0, eqb-true (receiver o x) w r.1)

pub owed_to_In : (o : Outline) (w : ℕ) (x : Name) → IsOwedTo o w x → In x (owed_to o w)
owed_to_In o w x d = filter_In (λ y. receiver o y == w) x (owed_names o) (owed_In o x d.0) (eq-eqb (receiver o x) w d.1)

-- the lists of groups and times, both ways

pub cause_group : (o : Outline) (j t k : ℕ) → IsCaused o j t k → In (Group j t k) (groups_of o j)
cause_group o j t k c =
    ⊎_elim
    (λ (i : In (Group j t k) (o.opening j)). opening_group o j (Group j t k) i)
    (λ (m : IsMade o j t k).
    ⊎_elim
    (λ (e : m.0 ≡ t). subst (λ (u : ℕ). In (Group j u k) (groups_of o j)) e (record_group o j m.0 k m.1 m.2))
    (λ (e : is_posted o (Rec j m.0 k m.1) t ≡ true). posted_group o j m.0 k t m.1 m.2 e)
    m.3)
    c

pub control_time_has : (o : Outline) (j t : ℕ) → In (Settled j t) (control_times o j) → HasControl o j t
control_time_has o j t i =
    let r = control_time_is o j (Settled j t) i in
    subst (λ (u : ℕ). HasControl o j u) (sym (settled_time j t r.0 r.1)) r.2
  where
    settled_time : (j t u : ℕ) → Settled j t ≡ Settled j u → t ≡ u
    settled_time j t u e = cc

pub answer_time_has : (o : Outline) → OutlineIsSound o → (t : ℕ) → In (Written t) (answer_times o) → (g : Tag) × In (Row t g) o.rows
answer_time_has o ok t i =
    let r = answer_time_is o ok (Written t) i in
    (r.1, subst (λ (u : ℕ). In (Row u r.1) o.rows) (sym (written_time t r.0 r.2)) r.3)
  where
    written_time : (t u : ℕ) → Written t ≡ Written u → t ≡ u
    written_time t u e = cc

-- what has to be sent is before the stop time
pub owed_before_stop : (o : Outline) → OutlineIsSound o → (x : Name) → IsOwed o x → IsBeforeStop o.until (time_of o x)
owed_before_stop o ok (Ctrl i v) h = ok.controls_stop i h.0
owed_before_stop o ok (Rec j t k g) h = ok.records_stop j (Rec j t k g) h.1
owed_before_stop o ok (Packet j b t) h = let c = move_has_control o j b t h in subst (IsBeforeStop o.until) c.3 (ok.controls_stop c.0 c.1)
owed_before_stop o ok (Row t g) h = ok.rows_stop (Row t g) h
owed_before_stop o ok _ h = absurd h
