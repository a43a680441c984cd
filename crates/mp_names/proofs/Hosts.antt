-- The hosting half, for one log by itself: where its records, packets and earlier groups are done, each group of its worker waits until it is applied; and where what had to leave has left, only groups of its worker wait.
use Rattle.std.proofs.Common.{◌≡◌, ℕ, suc, ◌<◌, ◌≤◌, ◌⊎◌, ◌==◌, nat_lt, nat_le, true, false, not, ◌&&◌, ◌||◌, refl, sym, ◌∙◌, subst, inl, inr, ⊎_elim, arith}
use Rattle.std.specs.List.{list_any}
use Rattle.std.proofs.lemmas.Bool.{false≢true, eqb-true, eq-eqb, ltb-true, lt-ltb, leb-true, le-leb, and_parts, and_from, or_cases, or_left, or_right, cases_Bool, cases_eq, cases_lt, false_from_ne_true, both_ways, not-true, not_from_false}
use Rattle.mp_names.specs.declared.names.Name.{Name}
use Rattle.mp_names.specs.declared.names.Name.TheVariants.{Rec, Packet, Group}
use Rattle.mp_names.specs.declared.names.Tag.{Tag}
use Rattle.mp_names.specs.declared.locations.Loc.TheVariants.{Mail, Move, State, Host}
use Rattle.mp_names.specs.Names.{has, In, is_packet}
use Rattle.mp_names.specs.Outlines.{Outline, OutlineIsSound, time_of, owner_before, owner_at, group_owner, groups_of, is_posted, wakes, is_woken}
use Rattle.mp_names.specs.Logs.{Log, empty_log, LogIsLegal, LogsAreLegal, is_packet_after, left_since, brings_wake, is_wake_here, is_opening_here, has_wake, is_record_of, has_record, is_pending, is_owned}
use Rattle.mp_names.specs.Frontiers.{SentAll, IsDoneBy}
use Rattle.mp_names.specs.Laws.{IsMade}
use Rattle.mp_names.proofs.Lists.{any_from, any_at, count_none, none_counted}
use Rattle.mp_names.proofs.Owners.{Still, LastMove, last_move, leaves, opening_owner}
use Rattle.mp_names.proofs.Listed.{opening_group, record_group, posted_group, group_cause, group_form}
use Rattle.mp_names.proofs.Steps.{Step, IsEven, IsDoneByAll, raised, even_each, each_even, applied_own}

-- a packet that left since

pub left_at : (log : Log) (j b s : ℕ) → left_since log j b s ≡ true → (m : ℕ) × (s < m) × In (Packet j b m) log.sent
left_at log j b s h = let r = any_at (is_packet_after j b s) log.sent h in found r.0 r.1 r.2
  where
    found : (x : Name) → In x log.sent → is_packet_after j b s x ≡ true → (m : ℕ) × (s < m) × In (Packet j b m) log.sent
    found (Packet i c m) g e =
        let p = and_parts (i == j) (c == b && nat_lt s m) e in
        let q = and_parts (c == b) (nat_lt s m) p.1 in
        (m, ltb-true s m q.1, subst (λ (i : ℕ). In (Packet i b m) log.sent) (eqb-true i j p.0) (subst (λ (c : ℕ). In (Packet i c m) log.sent) (eqb-true c b q.0) g))
    found _ g e = absurd (false≢true e)

pub left_from : (log : Log) (j b s m : ℕ) → s < m → In (Packet j b m) log.sent → left_since log j b s ≡ true
left_from log j b s m l h =
    any_from (is_packet_after j b s) (Packet j b m) log.sent h (and_from (j == j) (b == b && nat_lt s m) (eq-eqb j j refl) (and_from (b == b) (nat_lt s m) (eq-eqb b b refl) (lt-ltb s m l)))

-- a packet that is taken and brought the wake
abbrev pub Brought : Log → ℕ → ℕ → ℕ → ℕ → Type 0
Brought log j b s u = (m : ℕ) × (s < m) × (m ≤ u) × (left_since log j b m ≡ false) × In (Packet j b m) log.took

pub brought_at : (log : Log) (j b s u : ℕ) → list_any (brings_wake log j b s u) log.took ≡ true → Brought log j b s u
brought_at log j b s u h = let r = any_at (brings_wake log j b s u) log.took h in found r.0 r.1 r.2
  where
    found : (x : Name) → In x log.took → brings_wake log j b s u x ≡ true → Brought log j b s u
    found (Packet i c m) g e =
        let p = and_parts (i == j) (c == b && (nat_lt s m && (nat_le m u && not (left_since log j b m)))) e in
        let q = and_parts (c == b) (nat_lt s m && (nat_le m u && not (left_since log j b m))) p.1 in
        let r = and_parts (nat_lt s m) (nat_le m u && not (left_since log j b m)) q.1 in
        let z = and_parts (nat_le m u) (not (left_since log j b m)) r.1 in
        (m, ltb-true s m r.0, leb-true m u z.0, not-true (left_since log j b m) z.1, subst (λ (i : ℕ). In (Packet i b m) log.took) (eqb-true i j p.0) (subst (λ (c : ℕ). In (Packet i c m) log.took) (eqb-true c b q.0) g))
    found _ g e = absurd (false≢true e)

pub brought_from : (log : Log) (j b s u : ℕ) → Brought log j b s u → list_any (brings_wake log j b s u) log.took ≡ true
brought_from log j b s u r =
    let m = r.0 in
    let rest = not (left_since log j b m) in
    any_from (brings_wake log j b s u) (Packet j b m) log.took r.4
    (and_from (j == j) (b == b && (nat_lt s m && (nat_le m u && rest))) (eq-eqb j j refl)
    (and_from (b == b) (nat_lt s m && (nat_le m u && rest)) (eq-eqb b b refl)
    (and_from (nat_lt s m) (nat_le m u && rest) (lt-ltb s m r.1) (and_from (nat_le m u) rest (le-leb m u r.2) (not_from_false (left_since log j b m) r.3)))))

pub pending_new : (o : Outline) (w : ℕ) (log : Log) (j t k : ℕ) → is_pending o w log (Group j t k) ≡ true → has log.applied (Group j t k) ≡ false
pending_new o w log j t k e =
    not-true (has log.applied (Group j t k)) (and_parts (not (has log.applied (Group j t k))) (has_record log j t k || has_wake o w log j t k) e).0

-- an opening wake that is here is one, and its bin is the first owner's and hasn't left, or a packet brought it
abbrev pub IsOpeningHere : Outline → ℕ → Log → ℕ → ℕ → ℕ → Type 0
IsOpeningHere o w log j u k =
    In (Group j u k) (o.opening j) × (((o.first_owner j (o.bin_of k) ≡ w) × (left_since log j (o.bin_of k) 0 ≡ false)) ⊎ Brought log j (o.bin_of k) 0 u)

pub opening_at : (o : Outline) (w : ℕ) (log : Log) (j u k : ℕ) → is_opening_here o w log j u k ≡ true → IsOpeningHere o w log j u k
opening_at o w log j u k e =
    let b = o.bin_of k in
    let first = o.first_owner j b == w in
    let stayed = not (left_since log j b 0) in
    let brought = list_any (brings_wake log j b 0 u) log.took in
    let p = and_parts (has (o.opening j) (Group j u k)) (first && stayed || brought) e in (
      p.0,
      ⊎_elim
          (λ (d : (first && stayed) ≡ true). let q = and_parts first stayed d in inl (eqb-true (o.first_owner j b) w q.0, not-true (left_since log j b 0) q.1))
          (λ (d : brought ≡ true). inr (brought_at log j b 0 u d))
          (or_cases (first && stayed) brought p.1),
    )

pub opening_from : (o : Outline) (w : ℕ) (log : Log) (j u k : ℕ) → IsOpeningHere o w log j u k → is_opening_here o w log j u k ≡ true
opening_from o w log j u k h =
    let b = o.bin_of k in
    let first = o.first_owner j b == w in
    let stayed = not (left_since log j b 0) in
    let brought = list_any (brings_wake log j b 0 u) log.took in
    and_from (has (o.opening j) (Group j u k)) (first && stayed || brought) h.0
    (⊎_elim
    (λ (d : (o.first_owner j b ≡ w) × (left_since log j b 0 ≡ false)). or_left (first && stayed) brought (and_from first stayed (eq-eqb (o.first_owner j b) w d.0) (not_from_false (left_since log j b 0) d.1)))
    (λ (d : Brought log j b 0 u). or_right (first && stayed) brought (brought_from log j b 0 u d))
    h.1)

-- at the start nothing else is here

no_wake_posted : (o : Outline) (j u k : ℕ) → list_any (is_wake_here o empty_log j u k) (o.records j) ≡ true → ⊥
no_wake_posted o j u k h = let r = any_at (is_wake_here o empty_log j u k) (o.records j) h in none r.0 r.2
  where
    none : (x : Name) → is_wake_here o empty_log j u k x ≡ true → ⊥
    none (Rec i s l g) e = let p = and_parts (l == k) (is_posted o (Rec i s l g) u && false) e in false≢true (and_parts (is_posted o (Rec i s l g) u) false p.1).1
    none _ e = false≢true e

pub pending_first : (o : Outline) (w j u k : ℕ) → is_pending o w empty_log (Group j u k) ≡ true → In (Group j u k) (o.opening j) × (o.first_owner j (o.bin_of k) ≡ w)
pending_first o w j u k h =
    ⊎_elim
    (λ (e : is_opening_here o w empty_log j u k ≡ true).
    let r = opening_at o w empty_log j u k e in (
      r.0,
      ⊎_elim
          (λ (d : (o.first_owner j (o.bin_of k) ≡ w) × (left_since empty_log j (o.bin_of k) 0 ≡ false)). d.0)
          (λ (d : Brought empty_log j (o.bin_of k) 0 u). absurd (false≢true d.4))
          r.1,
    ))
    (λ (e : list_any (is_wake_here o empty_log j u k) (o.records j) ≡ true). absurd (no_wake_posted o j u k e))
    (or_cases (is_opening_here o w empty_log j u k) (list_any (is_wake_here o empty_log j u k) (o.records j)) h)

pub first_pending : (o : Outline) (w j u k : ℕ) → In (Group j u k) (o.opening j) × (o.first_owner j (o.bin_of k) ≡ w) → is_pending o w empty_log (Group j u k) ≡ true
first_pending o w j u k h =
    or_left (is_opening_here o w empty_log j u k) (list_any (is_wake_here o empty_log j u k) (o.records j)) (opening_from o w empty_log j u k (h.0, inl (h.1, refl)))

-- a wake that is here is an opening wake, or was posted
pub wake_woken : (o : Outline) (w : ℕ) (log : Log) (j t k : ℕ) → has_wake o w log j t k ≡ true → is_woken o j t k ≡ true
wake_woken o w log j t k h =
    let opening = has (o.opening j) (Group j t k) in
    let posted = list_any (wakes o t k) (o.records j) in
    ⊎_elim
    (λ (e : is_opening_here o w log j t k ≡ true). or_left opening posted (opening_at o w log j t k e).0)
    (λ (e : list_any (is_wake_here o log j t k) (o.records j) ≡ true).
    let r = any_at (is_wake_here o log j t k) (o.records j) e in
    or_right opening posted (any_from (wakes o t k) r.0 (o.records j) r.1 (one r.0 r.2)))
    (or_cases (is_opening_here o w log j t k) (list_any (is_wake_here o log j t k) (o.records j)) h)
  where
    one : (x : Name) → is_wake_here o log j t k x ≡ true → wakes o t k x ≡ true
    one (Rec i s l g) e =
        let here = has log.applied (Group j s k) && not (left_since log j (o.bin_of k) s) || list_any (brings_wake log j (o.bin_of k) s t) log.took in
        let p = and_parts (l == k) (is_posted o (Rec i s l g) t && here) e in
        let q = and_parts (is_posted o (Rec i s l g) t) here p.1 in
        and_from (l == k) (is_posted o (Rec i s l g) t) p.0 q.0
    one _ e = absurd (false≢true e)

-- a record of the key posts the time
abbrev pub IsPosted : Outline → ℕ → ℕ → ℕ → Type 0
IsPosted o j t k = (s : ℕ) × (g : Tag) × In (Rec j s k g) (o.records j) × (is_posted o (Rec j s k g) t ≡ true)

pub woken_at : (o : Outline) → OutlineIsSound o → (j t k : ℕ) → is_woken o j t k ≡ true → In (Group j t k) (o.opening j) ⊎ IsPosted o j t k
woken_at o ok j t k h =
    ⊎_elim
    (λ (e : In (Group j t k) (o.opening j)). inl e)
    (λ (e : list_any (wakes o t k) (o.records j) ≡ true). let r = any_at (wakes o t k) (o.records j) e in inr (found r.0 r.1 r.2))
    (or_cases (has (o.opening j) (Group j t k)) (list_any (wakes o t k) (o.records j)) h)
  where
    found : (x : Name) → In x (o.records j) → wakes o t k x ≡ true → IsPosted o j t k
    found (Rec i s l g) f e =
        let p = and_parts (l == k) (is_posted o (Rec i s l g) t) e in
        let e0 = eqb-true l k p.0 in
        let e1 = eqb-true i j (ok.records_are j (Rec i s l g) f).1 in (
          s,
          g,
          subst (λ (i : ℕ). In (Rec i s k g) (o.records j)) e1 (subst (λ (l : ℕ). In (Rec i s l g) (o.records j)) e0 f),
          subst (λ (i : ℕ). is_posted o (Rec i s k g) t ≡ true) e1 (subst (λ (l : ℕ). is_posted o (Rec i s l g) t ≡ true) e0 p.1),
        )
    found _ f e = absurd (false≢true e)

-- a group that is woken is there
pub woken_group : (o : Outline) → OutlineIsSound o → (j t k : ℕ) → is_woken o j t k ≡ true → In (Group j t k) (groups_of o j)
woken_group o ok j t k h =
    ⊎_elim (λ (e : In (Group j t k) (o.opening j)). opening_group o j (Group j t k) e) (λ (p : IsPosted o j t k). posted_group o j p.0 k t p.1 p.2 p.3) (woken_at o ok j t k h)

module _ (o : Outline) (ok : OutlineIsSound o) (w : ℕ) (log : Log) (good : LogIsLegal o w log) (j u : ℕ) where
  -- nothing left since the last move, while the group isn't applied
  none_left : (k s : ℕ) → Still (owner_before o j (o.bin_of k)) s u → group_owner o j u k ≡ w → In (Group j u k) (groups_of o j) → has log.applied (Group j u k) ≡ false → left_since log j (o.bin_of k) s ≡ false
  none_left k s still mine g h =
      false_from_ne_true (left_since log j (o.bin_of k) s) (λ e.
      let r = left_at log j (o.bin_of k) s e in
      let x = Packet j (o.bin_of k) r.0 in
      ⊎_elim
      (λ (q : u < r.0). both_ways (has log.applied (Group j u k)) h ((good.sent_given x r.2).1 u k q refl mine g))
      (λ (q : r.0 ≤ u). still r.0 r.1 q (good.sent_owed x r.2).0)
      (cases_lt u r.0))

  module _
      (mails : (s : ℕ) → s ≤ u → IsDoneBy o w log (Mail j) s) (states : (s : ℕ) → s ≤ u → IsDoneBy o w log (State j) s)
      (hosts : (s : ℕ) → s < u → IsDoneBy o w log (Host j) s) where
    -- an opening wake is here
    opening_here : (k : ℕ) → In (Group j u k) (o.opening j) → group_owner o j u k ≡ w → has log.applied (Group j u k) ≡ false → has_wake o w log j u k ≡ true
    opening_here k i mine h =
        let b = o.bin_of k in
        let group = opening_group o j (Group j u k) i in
        let first = opening_owner o ok j (Group j u k) i b in
        or_left (is_opening_here o w log j u k) (list_any (is_wake_here o log j u k) (o.records j))
        (opening_from o w log j u k (
          i,
          ⊎_elim
              (λ (r : (owner_before o j b 1 ≡ owner_before o j b (suc u)) × Still (owner_before o j b) 0 u). inl (sym first ∙ r.0 ∙ mine, none_left k 0 r.1 mine group h))
              (λ (r : LastMove (owner_before o j b) 0 u).
              let m = r.0 in
              inr (m, r.1, r.2, none_left k m r.5 mine group h, states m r.2 (Packet j b m) (r.3, r.4 ∙ mine) (eq-eqb j j refl) refl))
              (last_move (owner_before o j b) 0 u (omega arith)),
        ))

    -- a wake that was posted is here
    posted_here : (k s : ℕ) (g : Tag) → In (Rec j s k g) (o.records j) → is_posted o (Rec j s k g) u ≡ true → In (Group j u k) (groups_of o j) → group_owner o j u k ≡ w → has log.applied (Group j u k) ≡ false → has_wake o w log j u k ≡ true
    posted_here k s g i p group mine h =
        let b = o.bin_of k in
        let l : s < u = ok.posts_later j (Rec j s k g) u i p in
        let applied = has log.applied (Group j s k) && not (left_since log j b s) in
        let brought = list_any (brings_wake log j b s u) log.took in
        let wake : (applied || brought) ≡ true → has_wake o w log j u k ≡ true = λ e.
        or_right (is_opening_here o w log j u k) (list_any (is_wake_here o log j u k) (o.records j))
        (any_from (is_wake_here o log j u k) (Rec j s k g) (o.records j) i
        (and_from (k == k) (is_posted o (Rec j s k g) u && (applied || brought)) (eq-eqb k k refl) (and_from (is_posted o (Rec j s k g) u) (applied || brought) p e))) in
        ⊎_elim
        (λ (r : (owner_before o j b (suc s) ≡ owner_before o j b (suc u)) × Still (owner_before o j b) s u).
        let at = hosts s l (Group j s k) (record_group o j s k g i) (eq-eqb (group_owner o j s k) w (r.0 ∙ mine)) refl in
        wake (or_left applied brought (and_from (has log.applied (Group j s k)) (not (left_since log j b s)) at (not_from_false (left_since log j b s) (none_left k s r.1 mine group h)))))
        (λ (r : LastMove (owner_before o j b) s u).
        let m = r.0 in
        let at = states m r.2 (Packet j b m) (r.3, r.4 ∙ mine) (eq-eqb j j refl) refl in
        wake (or_right applied brought (brought_from log j b s u (m, r.1, r.2, none_left k m r.5 mine group h, at))))
        (last_move (owner_before o j b) s u (omega arith))

    -- the wake of a group of this worker that is woken is here until the group is applied
    pub wake_here : (k : ℕ) → is_woken o j u k ≡ true → group_owner o j u k ≡ w → has log.applied (Group j u k) ≡ false → has_wake o w log j u k ≡ true
    wake_here k e mine h =
        ⊎_elim
        (λ (i : In (Group j u k) (o.opening j)). opening_here k i mine h)
        (λ (p : IsPosted o j u k). posted_here k p.0 p.1 p.2 p.3 (woken_group o ok j u k e) mine h)
        (woken_at o ok j u k e)

    -- a group of this worker that isn't applied waits
    pub pending_until : (k : ℕ) → In (Group j u k) (groups_of o j) → group_owner o j u k ≡ w → has log.applied (Group j u k) ≡ false → is_pending o w log (Group j u k) ≡ true
    pending_until k group mine h =
        let record_here = has_record log j u k in
        let wake_is_here = has_wake o w log j u k in
        and_from (not (has log.applied (Group j u k))) (record_here || wake_is_here) (not_from_false (has log.applied (Group j u k)) h)
        (⊎_elim
        (λ (i : In (Group j u k) (o.opening j)). or_right record_here wake_is_here (opening_here k i mine h))
        (λ (c : IsMade o j u k).
        let s = c.0 in
        let g = c.1 in
        ⊎_elim
        (λ (e : s ≡ u).
        let i = subst (λ (v : ℕ). In (Rec j v k g) (o.records j)) e c.2 in
        let stage = (ok.records_are j (Rec j u k g) i).0 in
        or_left record_here wake_is_here
        (any_from (is_record_of j u k) (Rec j u k g) log.took (mails u (omega arith) (Rec j u k g) ((stage, i), mine) (eq-eqb j j refl) refl)
        (and_from (j == j) (u == u && k == k) (eq-eqb j j refl) (and_from (u == u) (k == k) (eq-eqb u u refl) (eq-eqb k k refl)))))
        (λ (e : is_posted o (Rec j s k g) u ≡ true). or_right record_here wake_is_here (posted_here k s g c.2 e group mine h))
        c.3)
        (group_cause o ok j u k group))

  -- only a group of this worker waits, where all that had to leave has left
  module _ (packets : (s : ℕ) → s ≤ u → SentAll o w log (is_packet j) s) where
    -- the bin was in hand at s, and nothing left since
    still_mine : (k s : ℕ) → s ≤ u → owner_at o j (o.bin_of k) s ≡ w → left_since log j (o.bin_of k) s ≡ false → group_owner o j u k ≡ w
    still_mine k s le mine none =
        let b = o.bin_of k in
        ⊎_elim
        (λ (e : owner_at o j b s ≡ owner_at o j b u). sym e ∙ mine)
        (λ (e : owner_at o j b s ≡ owner_at o j b u → ⊥).
        let r = leaves (owner_before o j b) s u le e in
        absurd (both_ways (left_since log j b s) none (left_from log j b s r.0 r.1 (packets r.0 r.2 (Packet j b r.0) (r.4, r.3 ∙ mine) (eq-eqb j j refl) refl))))
        (cases_eq (owner_at o j b s) (owner_at o j b u))

    by_record : (k : ℕ) → has_record log j u k ≡ true → group_owner o j u k ≡ w
    by_record k h = let r = any_at (is_record_of j u k) log.took h in found r.0 r.1 r.2
      where
        found : (x : Name) → In x log.took → is_record_of j u k x ≡ true → group_owner o j u k ≡ w
        found (Rec i s l g) f e =
            let p = and_parts (i == j) (s == u && l == k) e in
            let q = and_parts (s == u) (l == k) p.1 in
            let e3 : group_owner o i s l ≡ w = (good.took_owed (Rec i s l g) f).1 in
            subst (λ (v : ℕ). group_owner o v u k ≡ w) (eqb-true i j p.0) (subst (λ (v : ℕ). group_owner o i v k ≡ w) (eqb-true s u q.0) (subst (λ (v : ℕ). group_owner o i s v ≡ w) (eqb-true l k q.1) e3))
        found _ f e = absurd (false≢true e)

    by_opening : (k : ℕ) → is_opening_here o w log j u k ≡ true → group_owner o j u k ≡ w
    by_opening k h =
        let b = o.bin_of k in
        let r = opening_at o w log j u k h in
        ⊎_elim
        (λ (d : (o.first_owner j b ≡ w) × (left_since log j b 0 ≡ false)). still_mine k 0 (omega arith) (opening_owner o ok j (Group j u k) r.0 b ∙ d.0) d.1)
        (λ (d : Brought log j b 0 u). still_mine k d.0 d.2 (good.took_owed (Packet j b d.0) d.4).1 d.3)
        r.1

    by_posted : (k : ℕ) → list_any (is_wake_here o log j u k) (o.records j) ≡ true → group_owner o j u k ≡ w
    by_posted k h = let r = any_at (is_wake_here o log j u k) (o.records j) h in found r.0 r.1 r.2
      where
        found : (x : Name) → In x (o.records j) → is_wake_here o log j u k x ≡ true → group_owner o j u k ≡ w
        found (Rec i s l g) f e =
            let b = o.bin_of k in
            let applied = has log.applied (Group j s k) && not (left_since log j b s) in
            let brought = list_any (brings_wake log j b s u) log.took in
            let p = and_parts (l == k) (is_posted o (Rec i s l g) u && (applied || brought)) e in
            let q = and_parts (is_posted o (Rec i s l g) u) (applied || brought) p.1 in
            let less : s < u = ok.posts_later j (Rec i s l g) u f q.0 in
            ⊎_elim
            (λ (d : applied ≡ true).
            let v = and_parts (has log.applied (Group j s k)) (not (left_since log j b s)) d in
            still_mine k s (omega arith) (applied_own o w log good j s k v.0).1 (not-true (left_since log j b s) v.1))
            (λ (d : brought ≡ true). let v = brought_at log j b s u d in still_mine k v.0 v.2 (good.took_owed (Packet j b v.0) v.4).1 v.3)
            (or_cases applied brought q.1)
        found _ f e = absurd (false≢true e)

    by_wake : (k : ℕ) → has_wake o w log j u k ≡ true → group_owner o j u k ≡ w
    by_wake k h =
        ⊎_elim
        (λ (e : is_opening_here o w log j u k ≡ true). by_opening k e)
        (λ (e : list_any (is_wake_here o log j u k) (o.records j) ≡ true). by_posted k e)
        (or_cases (is_opening_here o w log j u k) (list_any (is_wake_here o log j u k) (o.records j)) h)

    pub pending_mine : (k : ℕ) → is_pending o w log (Group j u k) ≡ true → group_owner o j u k ≡ w
    pending_mine k e =
        let p = and_parts (not (has log.applied (Group j u k))) (has_record log j u k || has_wake o w log j u k) e in
        ⊎_elim (λ (f : has_record log j u k ≡ true). by_record k f) (λ (f : has_wake o w log j u k ≡ true). by_wake k f) (or_cases (has_record log j u k) (has_wake o w log j u k) p.1)

-- all logs together
module _
    (o : Outline) (logs : ℕ → Log) (ok : OutlineIsSound o) (good : LogsAreLegal o logs) (j u : ℕ)
    (mails : (s : ℕ) → s ≤ u → IsDoneByAll o logs (Mail j) s) (states : (s : ℕ) → s ≤ u → IsDoneByAll o logs (State j) s)
    (moves : (s : ℕ) → s ≤ u → IsDoneByAll o logs (Move j) s) (hosts : (s : ℕ) → s < u → IsDoneByAll o logs (Host j) s) where
  applied_from_even : IsEven o logs (Host j) u → IsDoneByAll o logs (Host j) u
  applied_from_even z w l x g mine e =
      let n = none_counted (λ y. is_pending o w (logs w) y && time_of o y == u) (groups_of o j) (even_each o.workers (λ w. raised o w (logs w) (Host j) u) z w l) in
      group_form o ok (λ x. is_owned o w x ≡ true → In x (logs w).applied) j u
      (λ k g mine.
      ⊎_elim
      (λ (q : has (logs w).applied (Group j u k) ≡ true). q)
      (λ (q : has (logs w).applied (Group j u k) ≡ false).
      let p = pending_until o ok w (logs w) (good w l) j u (λ s k. mails s k w l) (λ s k. states s k w l) (λ s k. hosts s k w l) k g (eqb-true (group_owner o j u k) w mine) q in
      absurd (both_ways (is_pending o w (logs w) (Group j u k) && u == u) (n (Group j u k) g) (and_from (is_pending o w (logs w) (Group j u k)) (u == u) p (eq-eqb u u refl))))
      (cases_Bool (has (logs w).applied (Group j u k))))
      x g e mine

  even_from_applied : IsDoneByAll o logs (Host j) u → IsEven o logs (Host j) u
  even_from_applied done =
      each_even o.workers (λ w. raised o w (logs w) (Host j) u) (λ w l.
      count_none (λ y. is_pending o w (logs w) y && time_of o y == u) (groups_of o j) (λ x g. false_from_ne_true (is_pending o w (logs w) x && time_of o x == u) (λ e.
      let p = and_parts (is_pending o w (logs w) x) (time_of o x == u) e in
      group_form o ok (λ x. is_pending o w (logs w) x ≡ true → ⊥) j u
      (λ k g q.
      let mine = pending_mine o ok w (logs w) (good w l) j u (λ s h. (moves s h w l).1) k q in
      both_ways (has (logs w).applied (Group j u k)) (pending_new o w (logs w) j u k q) (done w l (Group j u k) g (eq-eqb (group_owner o j u k) w mine) refl))
      x g (eqb-true (time_of o x) u p.1) p.0)))

  pub step_host : Step o logs (Host j) u
  step_host = (applied_from_even, even_from_applied)
