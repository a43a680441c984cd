-- Which owners a new note changes, and which moves.
use Rattle.std.proofs.Common.{◌≡◌, ◌≢◌, ◌↔◌, ℕ, zero, suc, ◌<◌, ◌≤◌, ◌⊎◌, nat_lt, Bool, true, false, cond, List, [], ◌∷◌, length, get_or, Option, None, Some, refl, sym, ap, ◌∙◌, subst, inl, inr, ⊎_elim, arith}
use Rattle.std.specs.List.{All, Contains}
use Rattle.std.specs.List.Sorted.{IsPartitionPoint}
use Rattle.std.specs.Option.{option_map_or, IfSome, IfNone}
use Rattle.std.proofs.lemmas.Bool.{both_ways, cases_eq, cases_lt, false_from_ne_true, ltb-false, ltb-true}
use Rattle.std.proofs.lemmas.List.{get_or_default, length-map}
use Rattle.mp_names.specs.declared.controls.Control.{Control}
use Rattle.mp_names.specs.declared.controls.Move.{Move}
use Rattle.mp_names.specs.Names.{is_before}
use Rattle.mp_names.specs.Controls.{control_of, is_below, last_below, later_of, owner_below}
use Rattle.mp_bins.specs.declared.kept.StageBin.{StageBin}
use Rattle.mp_bins.specs.declared.owners.Note.{Note}
use Rattle.mp_bins.specs.Notes.{AreInOrder, Layout, controls_in, first_owner, no_note, note_at, rank_of_note, with_note}
use Rattle.mp_bins.specs.Laws.{IsMoveOf}
use Rattle.mp_bins.specs.Changes.{AreChangesOf, AreRanked, IsMoveThen, IsMoveThere, IsNextTime, IsOfBin, IsReplaced}
use Rattle.mp_bins.proofs.Placing.{All-with}
use Rattle.mp_bins.proofs.Ranking.{same_rank}
use Rattle.mp_bins.proofs.Ranks.{not_back, parts}
use Rattle.mp_bins.proofs.Searching.{IsOf, below_from, below_is, change_found, control_at_note, later_upto, time_upto}

-- The record that counts

abbrev AtLeast : ℕ → Option Control → Type 0
AtLeast t o = (d : Control) × (o ≡ Some d) × (t ≤ d.time)

later_at_least : (t : ℕ) (c : Control) (o : Option Control) → t ≤ c.time → AtLeast t (later_of c o)
later_at_least t c None l = (c, refl, l)
later_at_least t c (Some d) l = pick (nat_lt d.time c.time) refl
  where
    pick : (q : Bool) → nat_lt d.time c.time ≡ q → AtLeast t (cond q (Some c) (Some d))
    pick true e = (c, refl, l)
    pick false e = let m = ltb-false d.time c.time e in (d, refl, omega arith)

later_keeps : (t : ℕ) (c d : Control) → t ≤ d.time → AtLeast t (later_of c (Some d))
later_keeps t c d l = pick (nat_lt d.time c.time) refl
  where
    pick : (q : Bool) → nat_lt d.time c.time ≡ q → AtLeast t (cond q (Some c) (Some d))
    pick true e = let m = ltb-true d.time c.time e in (c, refl, omega arith)
    pick false e = (d, refl, l)

module _ (j b u : ℕ) where
  at_least : (cs : List Control) (k t : ℕ) → k < length cs → is_below j b u (control_of cs k) ≡ true → t ≤ (control_of cs k).time → AtLeast t (last_below cs j b u)
  at_least [] k t l e m = absurd (omega arith)
  at_least (c ∷ cs) zero t l e m = rw e (later_at_least t c (last_below cs j b u) m)
  at_least (c ∷ cs) (suc k) t l e m = pick (is_below j b u c) (at_least cs k t (omega arith) e m)
    where
      pick : (q : Bool) → AtLeast t (last_below cs j b u) → AtLeast t (cond q (later_of c (last_below cs j b u)) (last_below cs j b u))
      pick true r = subst (λ (o : Option Control). AtLeast t (later_of c o)) (sym r.1) (later_keeps t c r.0 r.2)
      pick false r = r

  -- one that isn't below the limit doesn't count
  not_counted : (ns : List Note) (note : Note) → is_below j b u note.control ≡ false → last_below (controls_in (with_note ns note)) j b u ≡ last_below (controls_in ns) j b u
  not_counted [] note e = rw e refl
  not_counted (n ∷ ns) note e = pick (is_before (rank_of_note note) (rank_of_note n)) (not_counted ns note e)
    where
      pick : (q : Bool) → last_below (controls_in (with_note ns note)) j b u ≡ last_below (controls_in ns) j b u → last_below (controls_in (cond q (note ∷ n ∷ ns) (n ∷ with_note ns note))) j b u ≡ last_below (controls_in (n ∷ ns)) j b u
      pick true r = rw e refl
      pick false r = ap (λ (o : Option Control). cond (is_below j b u n.control) (later_of n.control o) o) r

  -- nor does one before which another one counts that stands later
  record Counts (ns : List Note) (note : Note) (k : ℕ) : Type 0 where
    pub there : k < length ns
    pub below : is_below j b u (note_at ns k).control ≡ true
    pub after : is_before (rank_of_note note) (rank_of_note (note_at ns k)) ≡ true
    pub later : note.control.time ≤ (note_at ns k).control.time

  earlier : (c : Control) (o : Option Control) → AtLeast c.time o → cond (is_below j b u c) (later_of c o) o ≡ o
  earlier c o r = pick (is_below j b u c)
    where
      kept : (q : Bool) → nat_lt r.0.time c.time ≡ q → cond q (Some c) (Some r.0) ≡ Some r.0
      kept true e = let l = ltb-true r.0.time c.time e in let m = r.2 in absurd (omega arith)
      kept false e = refl

      pick : (q : Bool) → cond q (later_of c o) o ≡ o
      pick true = ap (λ (p : Option Control). later_of c p) r.1 ∙ kept (nat_lt r.0.time c.time) refl ∙ sym r.1
      pick false = refl

  abbrev Same : List Note → List Note → Type 0
  Same xs ys = last_below (controls_in xs) j b u ≡ last_below (controls_in ys) j b u

  counts_still : (ns : List Note) (note : Note) (k : ℕ) → Counts ns note k → last_below (controls_in (with_note ns note)) j b u ≡ last_below (controls_in ns) j b u
  counts_still [] note k h = absurd (let l = h.there in omega arith)
  counts_still (n ∷ ns) note k h = pick (λ q g. counts_still ns note q g) (is_before (rank_of_note note) (rank_of_note n)) refl
    where
      rest : ((q : ℕ) → Counts ns note q → Same (with_note ns note) ns) → (k : ℕ) → Counts (n ∷ ns) note k → is_before (rank_of_note note) (rank_of_note n) ≡ false → Same (with_note ns note) ns
      rest more zero g e = absurd (both_ways (is_before (rank_of_note note) (rank_of_note n)) e g.after)
      rest more (suc k) g e = more k (record { there = let l = g.there in omega arith; below = g.below; after = g.after; later = g.later })

      pick : ((q : ℕ) → Counts ns note q → Same (with_note ns note) ns) → (q : Bool) → is_before (rank_of_note note) (rank_of_note n) ≡ q → Same (cond q (note ∷ n ∷ ns) (n ∷ with_note ns note)) (n ∷ ns)
      pick more true e =
          let here = control_at_note (n ∷ ns) k in
          earlier note.control (last_below (controls_in (n ∷ ns)) j b u)
          (at_least (controls_in (n ∷ ns)) k note.control.time
          (let l = h.there in omega (arith, length-map (n ∷ ns) (λ m. m.control)))
          (subst (λ (c : Control). is_below j b u c ≡ true) (sym here) h.below)
          (subst (λ (c : Control). note.control.time ≤ c.time) (sym here) h.later))
      pick more false e = ap (λ (o : Option Control). cond (is_below j b u n.control) (later_of n.control o) o) (rest more k h e)

-- Where no note of the bin has the time, its owner stays

abbrev NotAt : ℕ → ℕ → ℕ → Note → Type 0
NotAt j b u n = n.control.stage ≡ j → n.control.bin ≡ b → n.control.time ≡ u → ⊥

steady : (ns : List Note) (first j b u : ℕ) → All (NotAt j b u) ns → owner_below (controls_in ns) first j b u ≡ owner_below (controls_in ns) first j b (suc u)
steady ns first j b u none =
    let before = owner_below (controls_in ns) first j b u in
    let then = owner_below (controls_in ns) first j b (suc u) in
    ⊎_elim
    (λ (e : before ≡ then). e)
    (λ (ne : before ≡ then → ⊥).
    let r = change_found (controls_in ns) first j b u ne in
    let here = control_at_note ns r.0 in
    absurd (none r.0 no_note (let l = r.1 in omega (arith, length-map ns (λ n. n.control))) (sym (ap (λ (c : Control). c.stage) here) ∙ r.2) (sym (ap (λ (c : Control). c.bin) here) ∙ r.3) (sym (ap (λ (c : Control). c.time) here) ∙ r.4)))
    (cases_eq before then)

-- The one move of which something holds, if there is one

abbrev pub IsPick : (Move → Type 0) → Option Move → Type 0
IsPick P o = IfSome o P × IfNone o ((m : Move) → P m → ⊥)

picked : (P : Move → Type 0) (o : Option Move) → IsPick P o → (m : Move) → o ≡ Some m → P m
picked P None h m e = absurd (cc (e))
picked P (Some n) h m e = let f : n ≡ m = cc (e) in subst P f h.0

picks : (P : Move → Type 0) (o : Option Move) → IsPick P o → ((m n : Move) → P m → P n → m ≡ n) → (m : Move) → P m → o ≡ Some m
picks P None h one m p = absurd (h.1 m p)
picks P (Some n) h one m p = ap (λ (x : Move). Some x) (one n m h.0 p)

if_some : (o : Option Move) (P : Move → Type 0) → ((m : Move) → o ≡ Some m → P m) → IfSome o P
if_some None P h = tt
if_some (Some m) P h = h m refl

one_there : (cs : List Control) (of : StageBin) (t : ℕ) (m n : Move) → IsMoveThere cs of t m → IsMoveThere cs of t n → m ≡ n
one_there cs of t m n h g =
    let a = h.of_stage ∙ sym g.of_stage in
    let b = h.of_bin ∙ sym g.of_bin in
    let d = h.of_time ∙ sym g.of_time in
    let e = h.from ∙ sym g.from in
    let f = h.to ∙ sym g.to in
    same_rank m n (cc)

one_then : (cs : List Control) (of : StageBin) (o : Option ℕ) (m n : Move) → IsMoveThen cs of o m → IsMoveThen cs of o n → m ≡ n
one_then cs of None m n h g = absurd h
one_then cs of (Some t) m n h g = one_there cs of t m n h g

-- What a new note leaves as it was

module _ (layout : Layout) (ns : List Note) (order : AreInOrder ns) (note : Note) (at : ℕ) (inside : at ≤ length ns) (split : IsPartitionPoint (λ n. is_before (rank_of_note note) (rank_of_note n) ≡ false) (λ n. is_before (rank_of_note note) (rank_of_note n) ≡ true) ns at) (next : Option ℕ) (is_next : IsNextTime ns at note.control next) where
  abbrev c : Control
  c = note.control

  abbrev new : List Note
  new = with_note ns note

  abbrev old_owner : ℕ → ℕ → ℕ → ℕ
  old_owner j b u = owner_below (controls_in ns) (first_owner layout j b) j b u

  abbrev new_owner : ℕ → ℕ → ℕ → ℕ
  new_owner j b u = owner_below (controls_in new) (first_owner layout j b) j b u

  same_before : (j b v : ℕ) → (IsOf j b note → c.time < v → ⊥) → new_owner j b v ≡ old_owner j b v
  same_before j b v h = ap (λ (o : Option Control). option_map_or (λ c. c.worker) o (first_owner layout j b)) (not_counted j b v ns note (false_from_ne_true (is_below j b v c) (λ e. let r = below_is j b v note e in h r.0 r.1)))

  -- a note that stands before it is of no later time
  first_upto : (k : ℕ) (d : Note) → k < at → IsOf c.stage c.bin (get_or ns k d) → (get_or ns k d).control.time ≤ c.time
  first_upto k d l h = time_upto c.stage c.bin (get_or ns k d) note h (refl, refl) (split.0 k d (omega arith) l)

  -- where the note at the place is of the bin
  module _ (there : IsOfBin ns at note.control) where
    abbrev behind : ℕ
    behind = (note_at ns at).control.time

    goes : is_before (rank_of_note note) (rank_of_note (note_at ns at)) ≡ true
    goes = split.1 at no_note (omega arith) there.0

    later : c.time ≤ behind
    later = time_upto c.stage c.bin note (note_at ns at) (refl, refl) (there.1, there.2) (not_back (rank_of_note note) (rank_of_note (note_at ns at)) goes)

    same_behind : (v : ℕ) → behind < v → new_owner c.stage c.bin v ≡ old_owner c.stage c.bin v
    same_behind v l =
        ap (λ (o : Option Control). option_map_or (λ c. c.worker) o (first_owner layout c.stage c.bin))
        (counts_still c.stage c.bin v ns note at (record { there = there.0; below = below_from c.stage c.bin v (note_at ns at) (there.1, there.2) l; after = goes; later = later }))

    none_between : (u : ℕ) → c.time < u → u < behind → All (NotAt c.stage c.bin u) ns
    none_between u l m k d n e f g =
        ⊎_elim
        (λ (before : k < at). let r = first_upto k d before (e, f) in omega arith)
        (λ (after : at ≤ k).
        let same : note_at ns at ≡ get_or ns at d = get_or_default ns at no_note d there.0 in
        let r = time_upto c.stage c.bin (get_or ns at d) (get_or ns k d) (subst (IsOf c.stage c.bin) same (there.1, there.2)) (e, f) (later_upto ns order at k d after n) in
        let t = ap (λ (n : Note). n.control.time) same in
        omega arith)
        (cases_lt k at)

  -- where it isn't, no note of the bin is of a later time
  none_after : (IsOfBin ns at c → ⊥) → (u : ℕ) → c.time < u → All (NotAt c.stage c.bin u) ns
  none_after other u l k d n e f g =
      ⊎_elim
      (λ (before : k < at). let r = first_upto k d before (e, f) in omega arith)
      (λ (after : at ≤ k).
      let q = (get_or ns at d).control in
      let x = (get_or ns k d).control in
      let at_inside : at < length ns = omega arith in
      let low = parts c.stage c.bin c.time q.stage q.bin q.time (note.index ∷ []) ((get_or ns at d).index ∷ []) (not_back (rank_of_note note) (rank_of_note (get_or ns at d)) (split.1 at d (omega arith) at_inside)) in
      let high = parts q.stage q.bin q.time x.stage x.bin x.time ((get_or ns at d).index ∷ []) ((get_or ns k d).index ∷ []) (later_upto ns order at k d after n) in
      let same : note_at ns at ≡ get_or ns at d = get_or_default ns at no_note d at_inside in
      let stage : q.stage ≡ c.stage = omega arith in
      let bin : q.bin ≡ c.bin = omega (arith, low.bins (omega arith), high.bins (omega arith)) in
      other (at_inside, ap (λ (n : Note). n.control.stage) same ∙ stage, ap (λ (n : Note). n.control.bin) same ∙ bin))
      (cases_lt k at)

  abbrev Kept : ℕ → ℕ → ℕ → Type 0
  Kept j b u = ((new_owner j b u ≡ old_owner j b u) × (new_owner j b (suc u) ≡ old_owner j b (suc u))) ⊎ ((old_owner j b u ≡ old_owner j b (suc u)) × (new_owner j b u ≡ new_owner j b (suc u)))

  still : (u : ℕ) → (u ≡ c.time → ⊥) → All (NotAt c.stage c.bin u) ns → Kept c.stage c.bin u
  still u ne none = inr (
    steady ns (first_owner layout c.stage c.bin) c.stage c.bin u none,
    steady new (first_owner layout c.stage c.bin) c.stage c.bin u (All-with (NotAt c.stage c.bin u) ns note (λ e f g. ne (sym g)) none),
  )

  of_bin : IsOfBin ns at c ⊎ (IsOfBin ns at c → ⊥)
  of_bin =
      let m = (note_at ns at).control in
      ⊎_elim
      (λ (l : at < length ns).
      ⊎_elim
      (λ (e : m.stage ≡ c.stage). ⊎_elim (λ (f : m.bin ≡ c.bin). inl (l, e, f)) (λ (f : m.bin ≡ c.bin → ⊥). inr (λ h. f h.2)) (cases_eq m.bin c.bin))
      (λ (e : m.stage ≡ c.stage → ⊥). inr (λ h. e h.1))
      (cases_eq m.stage c.stage))
      (λ (l : length ns ≤ at). inr (λ h. let k = h.0 in omega arith))
      (cases_lt at (length ns))

  kept_of_bin : (u : ℕ) → (u ≡ c.time → ⊥) → ((t : ℕ) → next ≡ Some t → u ≡ t → ⊥) → Kept c.stage c.bin u
  kept_of_bin u ne not_next =
      ⊎_elim
      (λ (l : u < c.time). inl (same_before c.stage c.bin u (λ i m. omega arith), same_before c.stage c.bin (suc u) (λ i m. omega arith)))
      (λ (l : c.time ≤ u).
      let l2 : c.time < u = omega arith in
      ⊎_elim
      (λ (there : IsOfBin ns at c).
      ⊎_elim
      (λ (g : behind there < u). inl (same_behind there u g, same_behind there (suc u) (omega arith)))
      (λ (g : u ≤ behind there).
      ⊎_elim
      (λ (k : u < behind there). still u ne (none_between there u l2 k))
      (λ (k : behind there ≤ u). absurd (at_next there (omega arith) next refl is_next))
      (cases_lt u (behind there)))
      (cases_lt (behind there) u))
      (λ (other : IsOfBin ns at c → ⊥). still u ne (none_after other u l2))
      of_bin)
      (cases_lt u c.time)
    where
      at_next : (there : IsOfBin ns at c) → u ≡ behind there → (o : Option ℕ) → next ≡ o → IsNextTime ns at c o → ⊥
      at_next there e None f h = ne (e ∙ h there)
      at_next there e (Some t) f h = not_next t f (e ∙ h.1)

  kept : (j b u : ℕ) → (j ≡ c.stage → b ≡ c.bin → u ≡ c.time → ⊥) → ((t : ℕ) → next ≡ Some t → j ≡ c.stage → b ≡ c.bin → u ≡ t → ⊥) → Kept j b u
  kept j b u ne not_next =
      ⊎_elim
      (λ (e : j ≡ c.stage).
      ⊎_elim
      (λ (f : b ≡ c.bin).
      subst (λ (i : ℕ). Kept i b u) (sym e) (subst (λ (a : ℕ). Kept c.stage a u) (sym f) (kept_of_bin u (ne e f) (λ t g. not_next t g e f))))
      (λ (f : b ≡ c.bin → ⊥). inl (same_before j b u (λ i l. f (sym i.1)), same_before j b (suc u) (λ i l. f (sym i.1))))
      (cases_eq b c.bin))
      (λ (e : j ≡ c.stage → ⊥). inl (same_before j b u (λ i l. e (sym i.0)), same_before j b (suc u) (λ i l. e (sym i.0))))
      (cases_eq j c.stage)

  -- Moves

  abbrev of : StageBin
  of = record { stage = c.stage; bin = c.bin; first = first_owner layout c.stage c.bin }

  abbrev AtPlace : Move → ℕ → Type 0
  AtPlace m t = (m.stage ≡ c.stage) × (m.bin ≡ c.bin) × (m.time ≡ t)

  abbrev AtNext : Option ℕ → Move → Type 0
  AtNext None m = ⊥
  AtNext (Some t) m = AtPlace m t

  place_or_not : (m : Move) (t : ℕ) → AtPlace m t ⊎ (AtPlace m t → ⊥)
  place_or_not m t =
      ⊎_elim
      (λ (e : m.stage ≡ c.stage).
      ⊎_elim
      (λ (f : m.bin ≡ c.bin). ⊎_elim (λ (g : m.time ≡ t). inl (e, f, g)) (λ (g : m.time ≡ t → ⊥). inr (λ h. g h.2)) (cases_eq m.time t))
      (λ (f : m.bin ≡ c.bin → ⊥). inr (λ h. f h.1))
      (cases_eq m.bin c.bin))
      (λ (e : m.stage ≡ c.stage → ⊥). inr (λ h. e h.0))
      (cases_eq m.stage c.stage)

  next_or_not : (o : Option ℕ) (m : Move) → AtNext o m ⊎ (AtNext o m → ⊥)
  next_or_not None m = inr (λ h. h)
  next_or_not (Some t) m = place_or_not m t

  move_kept : (m : Move) → (AtPlace m c.time → ⊥) → (AtNext next m → ⊥) → (IsMoveOf (controls_in ns) layout m ↔ IsMoveOf (controls_in new) layout m)
  move_kept m here then =
      ⊎_elim
      (λ (k : (new_owner m.stage m.bin m.time ≡ old_owner m.stage m.bin m.time) × (new_owner m.stage m.bin (suc m.time) ≡ old_owner m.stage m.bin (suc m.time))). (
        λ h. record { from = h.from ∙ sym k.0; to = h.to ∙ sym k.1; changed = h.changed },
        λ h. record { from = h.from ∙ k.0; to = h.to ∙ k.1; changed = h.changed },
      ))
      (λ (k : (old_owner m.stage m.bin m.time ≡ old_owner m.stage m.bin (suc m.time)) × (new_owner m.stage m.bin m.time ≡ new_owner m.stage m.bin (suc m.time))). (
        λ h. absurd (h.changed (h.from ∙ k.0 ∙ sym h.to)),
        λ h. absurd (h.changed (h.from ∙ k.1 ∙ sym h.to)),
      ))
      (kept m.stage m.bin m.time (λ e f g. here (e, f, g)) (λ t o e f g. then (subst (λ (p : Option ℕ). AtNext p m) (sym o) (e, f, g))))

  there_is : (cs : List Control) (t : ℕ) (m : Move) → IsMoveThere cs of t m → IsMoveOf cs layout m
  there_is cs t m h = record { from = rw (h.of_stage, h.of_bin, h.of_time) h.from; to = rw (h.of_stage, h.of_bin, h.of_time) h.to; changed = h.changed }

  is_there : (cs : List Control) (t : ℕ) (m : Move) → IsMoveOf cs layout m → AtPlace m t → IsMoveThere cs of t m
  is_there cs t m h p = record {
    of_stage = p.0;
    of_bin = p.1;
    of_time = p.2;
    from = rw (← p.0, ← p.1, ← p.2) h.from;
    to = rw (← p.0, ← p.1, ← p.2) h.to;
    changed = h.changed;
  }

  then_is : (cs : List Control) (o : Option ℕ) (m : Move) → IsMoveThen cs of o m → IsMoveOf cs layout m × AtNext o m
  then_is cs None m h = absurd h
  then_is cs (Some t) m h = (there_is cs t m h, (h.of_stage, h.of_bin, h.of_time))

  is_then : (cs : List Control) (o : Option ℕ) (m : Move) → IsMoveOf cs layout m → AtNext o m → IsMoveThen cs of o m
  is_then cs None m h p = p
  is_then cs (Some t) m h p = is_there cs t m h p

  not_both : (o : Option ℕ) (m : Move) → IsNextTime ns at c o → AtNext o m → AtPlace m c.time → ⊥
  not_both None m h p q = p
  not_both (Some t) m h p q = h.2 (sym p.2 ∙ q.2)

  -- The moves in line

  -- the moves at the note's time and at the next one, before and after
  pub record AreTouched (here then new_here new_then : Option Move) : Type 0 where
    pub here_is : IsPick (IsMoveThere (controls_in ns) of c.time) here
    pub then_is : IsPick (IsMoveThen (controls_in ns) of next) then
    pub new_here_is : IsPick (IsMoveThere (controls_in new) of c.time) new_here
    pub new_then_is : IsPick (IsMoveThen (controls_in new) of next) new_then

  module _ (before : List Move) (changes : AreChangesOf layout ns before) (here then new_here new_then : Option Move) (are : AreTouched here then new_here new_then) where
    at_here : (m : Move) → here ≡ Some m → IsMoveThere (controls_in ns) of c.time m
    at_here = picked (IsMoveThere (controls_in ns) of c.time) here are.here_is

    at_new_here : (m : Move) → new_here ≡ Some m → IsMoveThere (controls_in new) of c.time m
    at_new_here = picked (IsMoveThere (controls_in new) of c.time) new_here are.new_here_is

    at_then : (m : Move) → then ≡ Some m → IsMoveOf (controls_in ns) layout m × AtNext next m
    at_then m e = then_is (controls_in ns) next m (picked (IsMoveThen (controls_in ns) of next) then are.then_is m e)

    at_new_then : (m : Move) → new_then ≡ Some m → IsMoveOf (controls_in new) layout m × AtNext next m
    at_new_then m e = then_is (controls_in new) next m (picked (IsMoveThen (controls_in new) of next) new_then are.new_then_is m e)

    is_here : (m : Move) → IsMoveOf (controls_in ns) layout m → AtPlace m c.time → here ≡ Some m
    is_here m h p = picks (IsMoveThere (controls_in ns) of c.time) here are.here_is (one_there (controls_in ns) of c.time) m (is_there (controls_in ns) c.time m h p)

    is_new_here : (m : Move) → IsMoveOf (controls_in new) layout m → AtPlace m c.time → new_here ≡ Some m
    is_new_here m h p = picks (IsMoveThere (controls_in new) of c.time) new_here are.new_here_is (one_there (controls_in new) of c.time) m (is_there (controls_in new) c.time m h p)

    is_at_then : (m : Move) → IsMoveOf (controls_in ns) layout m → AtNext next m → then ≡ Some m
    is_at_then m h p = picks (IsMoveThen (controls_in ns) of next) then are.then_is (one_then (controls_in ns) of next) m (is_then (controls_in ns) next m h p)

    is_at_new_then : (m : Move) → IsMoveOf (controls_in new) layout m → AtNext next m → new_then ≡ Some m
    is_at_new_then m h p = picks (IsMoveThen (controls_in new) of next) new_then are.new_then_is (one_then (controls_in new) of next) m (is_then (controls_in new) next m h p)

    pub here_there : IfSome here (Contains before)
    here_there = if_some here (Contains before) (λ m e. (changes.each m).1 (there_is (controls_in ns) c.time m (at_here m e)))

    pub here_fresh : IfSome new_here (λ m. Contains before m → here ≡ Some m)
    here_fresh = if_some new_here (λ m. Contains before m → here ≡ Some m) (λ m e q. let p = at_new_here m e in is_here m ((changes.each m).0 q) (p.of_stage, p.of_bin, p.of_time))

    module _ (mid : List Move) (first : IsReplaced before here new_here mid) where
      pub then_there : IfSome then (Contains mid)
      then_there =
          if_some then (Contains mid)
          (λ m e.
          let h = at_then m e in
          (first m).1 (inl ((changes.each m).1 h.0, λ f. let p = at_here m f in not_both next m is_next h.1 (p.of_stage, p.of_bin, p.of_time))))

      pub then_fresh : IfSome new_then (λ m. Contains mid m → then ≡ Some m)
      then_fresh =
          if_some new_then (λ m. Contains mid m → then ≡ Some m)
          (λ m e q.
          let h = at_new_then m e in
          ⊎_elim
          (λ (r : Contains before m × (here ≢ Some m)). is_at_then m ((changes.each m).0 r.0) h.1)
          (λ (f : new_here ≡ Some m). let p = at_new_here m f in absurd (not_both next m is_next h.1 (p.of_stage, p.of_bin, p.of_time)))
          ((first m).0 q))

      module _ (after : List Move) (second : IsReplaced mid then new_then after) where
        to_new : (m : Move) → Contains after m → IsMoveOf (controls_in new) layout m
        to_new m q =
            ⊎_elim
            (λ (r : Contains mid m × (then ≢ Some m)).
            ⊎_elim
            (λ (s : Contains before m × (here ≢ Some m)).
            let h = (changes.each m).0 s.0 in
            (move_kept m (λ p. s.1 (is_here m h p)) (λ p. r.1 (is_at_then m h p))).0 h)
            (λ (f : new_here ≡ Some m). there_is (controls_in new) c.time m (at_new_here m f))
            ((first m).0 r.0))
            (λ (f : new_then ≡ Some m). (at_new_then m f).0)
            ((second m).0 q)

        elsewhere : (m : Move) → IsMoveOf (controls_in new) layout m → (AtPlace m c.time → ⊥) → (AtNext next m → ⊥) → Contains after m
        elsewhere m h not_here not_then =
            let old = (move_kept m not_here not_then).1 h in
            let q = (first m).1 (inl ((changes.each m).1 old, λ f. let p = at_here m f in not_here (p.of_stage, p.of_bin, p.of_time))) in
            (second m).1 (inl (q, λ f. not_then (at_then m f).1))

        from_new : (m : Move) → IsMoveOf (controls_in new) layout m → Contains after m
        from_new m h =
            ⊎_elim
            (λ (p : AtPlace m c.time). (second m).1 (inl ((first m).1 (inr (is_new_here m h p)), λ f. not_both next m is_next (at_then m f).1 p)))
            (λ (not_here : AtPlace m c.time → ⊥).
            ⊎_elim
            (λ (p : AtNext next m). (second m).1 (inr (is_at_new_then m h p)))
            (λ (not_then : AtNext next m → ⊥). elsewhere m h not_here not_then)
            (next_or_not next m))
            (place_or_not m c.time)

        pub in_line : AreRanked after → AreChangesOf layout new after
        in_line ranked = record { each = λ m. (to_new m, from_new m); ranked = ranked }

-- the same move, by lists and first owners that are the same
pub picked_too : (xs ys : List Note) (j b t f g : ℕ) (o : Option Move) → xs ≡ ys → f ≡ g → IsPick (IsMoveThere (controls_in xs) (record { stage = j; bin = b; first = f }) t) o → IsPick (IsMoveThere (controls_in ys) (record { stage = j; bin = b; first = g }) t) o
picked_too xs ys j b t f g o d e h = subst (λ (ns : List Note). IsPick (IsMoveThere (controls_in ns) (record { stage = j; bin = b; first = g }) t) o) d (subst (λ (w : ℕ). IsPick (IsMoveThere (controls_in xs) (record { stage = j; bin = b; first = w }) t) o) e h)

pub then_too : (xs ys : List Note) (j b f g : ℕ) (next : Option ℕ) (o : Option Move) → xs ≡ ys → f ≡ g → IsPick (IsMoveThen (controls_in xs) (record { stage = j; bin = b; first = f }) next) o → IsPick (IsMoveThen (controls_in ys) (record { stage = j; bin = b; first = g }) next) o
then_too xs ys j b f g next o d e h = subst (λ (ns : List Note). IsPick (IsMoveThen (controls_in ns) (record { stage = j; bin = b; first = g }) next) o) d (subst (λ (w : ℕ). IsPick (IsMoveThen (controls_in xs) (record { stage = j; bin = b; first = w }) next) o) e h)
