-- Several records that are received one after the other: what the log tells of them, and how many groups they begin.
use Rattle.std.proofs.Common.{◌≡◌, ℕ, zero, suc, ◌+◌, ◌<◌, ◌≤◌, ◌||◌, Bool, true, false, not, cond, List, [], ◌∷◌, ◌++◌, append_assoc, drop, get_or, length, map, reverse, take, refl, sym, ap, ◌∙◌, subst, ⊎_elim, arith}
use Rattle.std.specs.List.{list_any}
use Rattle.std.proofs.lemmas.Bool.{and_from, both_ways, cases_Bool, eq-eqb, false_from_ne_true, false≢true, not_from_false, or_left, or_right}
use Rattle.std.proofs.lemmas.List.{reverse-append, reverse-reverse}
use Rattle.std.proofs.Math.ListN.{take-append-drop}
use Rattle.std.proofs.lemmas.List.{drop_more, map-append, take_more}
use Rattle.mp_names.specs.declared.names.Name.{Name}
use Rattle.mp_names.specs.declared.names.Name.TheVariants.{Group}
use Rattle.mp_names.specs.Logs.{Log, LogIsLegal, brings_wake, has_record, has_wake, is_pending, is_record_of, with_took}
use Rattle.mp_names.specs.Names.{Distinct, In, has}
use Rattle.mp_names.specs.Outlines.{Outline}
use Rattle.mp_names.proofs.Lists.{In_append, In_cases, In_here, In_later, In_right}
use Rattle.mp_names.proofs.Keeps.{took_keeps}
use Rattle.mp_model.specs.declared.record.Rec.{Rec}
use Rattle.mp_model.specs.Facts.{JobFacts, QueryFacts}
use Rattle.mp_outline.specs.JobOutline.{name_of_record}
use Rattle.mp_rows_laws.specs.Changes.{group_of, new_groups}
use Rattle.mp_rows_laws.proofs.Pushes.{any_push, or_false}
use Rattle.mp_rows_laws.proofs.Took.{group_kept}
use Rattle.mp_host_laws.specs.Hosted.{Hosted, is_of, waits_at}
use Rattle.mp_host_laws.specs.HostOf.{IsHostOf}
use Rattle.mp_host.specs.Receiving.{AreToCome, begins_group, groups_begun, with_all_taken}

-- of two lists without a common name each name of the second isn't in the first
apart : (xs ys : List Name) → Distinct (xs ++ ys) → (z : Name) → In z ys → has xs z ≡ false
apart [] ys d z i = refl
apart (x ∷ xs) ys d z i =
    false_from_ne_true (has (x ∷ xs) z) (λ k.
    ⊎_elim
    (λ (e : x ≡ z). both_ways (has (xs ++ ys) x) d.0 (subst (λ (u : Name). In u (xs ++ ys)) (sym e) (In_right z xs ys i)))
    (λ (m : In z xs). both_ways (has xs z) (apart xs ys d.1 z i) m)
    (In_cases z x xs k))

module _ (o : Outline) (w j : ℕ) where
  abbrev f : Rec → Name
  f r = name_of_record j r

  -- one more of those that are to come
  module _ (log : Log) (rs : List Rec) (i : ℕ) (r : Rec) (l : i < length rs) (is : r ≡ get_or rs i r) (c : AreToCome o log w (map (name_of_record j) rs)) where
    abbrev front : List Name
    front = map (name_of_record j) (take i rs)

    split : map (name_of_record j) rs ≡ front ++ f r ∷ map (name_of_record j) (drop (i + 1) rs)
    split =
        ap (map (name_of_record j)) (sym (take-append-drop i rs))
        ∙ map-append (name_of_record j) (take i rs) (drop i rs)
        ∙ ap (λ (ys : List Rec). front ++ map (name_of_record j) ys) (drop_more rs i r l ∙ ap (λ (s : Rec). s ∷ drop (i + 1) rs) (sym is))

    listed : In (f r) (map (name_of_record j) rs)
    listed = subst (In (f r)) (sym split) (In_right (f r) front (f r ∷ map (name_of_record j) (drop (i + 1) rs)) (In_here (f r) (map (name_of_record j) (drop (i + 1) rs))))

    pub still_fresh : has (with_all_taken log front).took (f r) ≡ false
    still_fresh =
        false_from_ne_true (has (log.took ++ front) (f r)) (λ k.
        ⊎_elim
        (λ (m : In (f r) log.took). both_ways (has log.took (f r)) (c.fresh (f r) listed) m)
        (λ (m : In (f r) front). both_ways (has front (f r)) (apart front (f r ∷ map (name_of_record j) (drop (i + 1) rs)) (subst Distinct split c.once) (f r) (In_here (f r) (map (name_of_record j) (drop (i + 1) rs)))) m)
        (In_append (f r) log.took front k))

    pub one_longer : with_took (with_all_taken log front) (f r) ≡ with_all_taken log (map (name_of_record j) (take (i + 1) rs))
    one_longer =
        ap (λ (ys : List Name). record log { took = ys })
        (append_assoc log.took front (f r ∷ [])
        ∙ ap (λ (ys : List Name). log.took ++ ys) (sym (ap (map (name_of_record j)) (take_more rs i r l ∙ ap (λ (s : Rec). take i rs ++ s ∷ []) (sym is)) ∙ map-append (name_of_record j) (take i rs) (r ∷ []))))

    pub still_legal : LogIsLegal o w (with_all_taken log front) → LogIsLegal o w (with_took (with_all_taken log front) (f r))
    still_legal good = took_keeps o w (with_all_taken log front) good (f r) still_fresh (c.owed (f r) listed)

-- a group waits once a record of it is taken, and others wait as before
pending_step : (o : Outline) (w : ℕ) (log : Log) (j t k : ℕ) (x : Name) → ((i b s u : ℕ) → brings_wake log i b s u x ≡ false) → has log.applied (Group j t k) ≡ false → is_pending o w (with_took log x) (Group j t k) ≡ (is_pending o w log (Group j t k) || is_record_of j t k x)
pending_step o w log j t k x no_packet n = ⊎_elim there (λ (e : is_record_of j t k x ≡ false). group_kept o w log x no_packet j t k e ∙ sym (or_false (is_pending o w log (Group j t k))) ∙ ap (λ (b : Bool). is_pending o w log (Group j t k) || b) (sym e)) (cases_Bool (is_record_of j t k x))
  where
    there : is_record_of j t k x ≡ true → is_pending o w (with_took log x) (Group j t k) ≡ (is_pending o w log (Group j t k) || is_record_of j t k x)
    there e =
        let new = with_took log x in
        and_from (not (has log.applied (Group j t k))) (has_record new j t k || has_wake o w new j t k)
        (not_from_false (has log.applied (Group j t k)) n)
        (or_left (has_record new j t k) (has_wake o w new j t k) (any_push (is_record_of j t k) log.took x ∙ or_right (list_any (is_record_of j t k) log.took) (is_record_of j t k x) e))
        ∙ sym (or_right (is_pending o w log (Group j t k)) (is_record_of j t k x) e)

any_push_rec : (p : Rec → Bool) (rs : List Rec) (r : Rec) → list_any p (rs ++ r ∷ []) ≡ (list_any p rs || p r)
any_push_rec p [] r = or_false (p r)
any_push_rec p (s ∷ ss) r = ap (λ (b : Bool). p s || b) (any_push_rec p ss r) ∙ three (p s) (list_any p ss) (p r)
  where
    three : (a b c : Bool) → (a || (b || c)) ≡ ((a || b) || c)
    three true b c = refl
    three false b c = refl

module _ {Cell : Type 0} (o : Outline) (w j : ℕ) (h : Hosted Cell) where
  -- as many groups begin by the host as by the log
  pub begun_is_new : (rs done : List Rec) (log : Log) → ((r : Rec) → In (name_of_record j r) (map (name_of_record j) rs) → has log.applied (Group j r.time r.key) ≡ false)
      → ((t k : ℕ) → has log.applied (Group j t k) ≡ false → is_pending o w log (Group j t k) ≡ (waits_at h t k || list_any (is_of t k) done))
      → groups_begun h done rs ≡ new_groups o w log (map (name_of_record j) rs)
  begun_is_new [] done log n p = refl
  begun_is_new (r ∷ rs) done log n p =
      let x = name_of_record j r in
      let names = map (name_of_record j) rs in
      let here = p r.time r.key (n r (In_here x names)) in
      let rest = begun_is_new rs (done ++ r ∷ []) (with_took log x) (λ s i. n s (In_later (name_of_record j s) x names i)) next in
      first (is_pending o w log (group_of x)) (waits_at h r.time r.key || list_any (is_of r.time r.key) done) here (groups_begun h (done ++ r ∷ []) rs) (new_groups o w (with_took log x) names) rest
    where
      first : (a b : Bool) → a ≡ b → (n m : ℕ) → n ≡ m → cond (not b) 1 0 + n ≡ cond a 0 1 + m
      first true true e n m f = omega (arith, f)
      first false false e n m f = omega (arith, f)
      first true false e n m f = absurd (false≢true (sym e))
      first false true e n m f = absurd (false≢true e)

      three : (a b c : Bool) → ((a || b) || c) ≡ (a || (b || c))
      three true b c = refl
      three false b c = refl

      of_this : (t k : ℕ) → is_record_of j t k (name_of_record j r) ≡ is_of t k r
      of_this t k = rw (eq-eqb j j refl) refl

      next : (t k : ℕ) → has log.applied (Group j t k) ≡ false → is_pending o w (with_took log (name_of_record j r)) (Group j t k) ≡ (waits_at h t k || list_any (is_of t k) (done ++ r ∷ []))
      next t k m =
          pending_step o w log j t k (name_of_record j r) (λ i b s u. refl) m
          ∙ ap (λ (b : Bool). b || is_record_of j t k (name_of_record j r)) (p t k m)
          ∙ ap (λ (b : Bool). (waits_at h t k || list_any (is_of t k) done) || b) (of_this t k)
          ∙ three (waits_at h t k) (list_any (is_of t k) done) (is_of t k r)
          ∙ ap (λ (b : Bool). waits_at h t k || b) (sym (any_push_rec (is_of t k) done r))

  -- one more record that begins a group, or that doesn't
  pub one_more_begun : (rs : List Rec) (i count : ℕ) (r : Rec) → i < length rs → r ≡ get_or rs i r → (b : Bool) → begins_group h (take i rs) r ≡ b → count + groups_begun h (take i rs) (drop i rs) ≡ (count + cond b 1 0) + groups_begun h (take (i + 1) rs) (drop (i + 1) rs)
  one_more_begun rs i count r l is b e =
      let rest = drop_more rs i r l ∙ ap (λ (s : Rec). s ∷ drop (i + 1) rs) (sym is) in
      let front = take_more rs i r l ∙ ap (λ (s : Rec). take i rs ++ s ∷ []) (sym is) in
      let one : groups_begun h (take i rs) (drop i rs) ≡ cond b 1 0 + groups_begun h (take (i + 1) rs) (drop (i + 1) rs) =
      ap (groups_begun h (take i rs)) rest
      ∙ ap (λ (c : Bool). cond c 1 0 + groups_begun h (take i rs ++ r ∷ []) (drop (i + 1) rs)) e
      ∙ ap (λ (ys : List Rec). cond b 1 0 + groups_begun h ys (drop (i + 1) rs)) (sym front) in
      omega (arith, one)

-- what is taken last of those that are left, the last one first
pub last_is : {X : Type 0} (rs : List X) (i : ℕ) (r : X) (left : List X) → i < length rs → reverse (drop i rs) ≡ left ++ r ∷ [] → (r ≡ get_or rs i r) × (left ≡ reverse (drop (i + 1) rs))
last_is rs i r left l e =
    let back : drop i rs ≡ r ∷ reverse left = sym (reverse-reverse (drop i rs)) ∙ ap reverse e ∙ reverse-append left (r ∷ []) in
    let m = sym back ∙ drop_more rs i r l in
    (first_is r (get_or rs i r) (reverse left) (drop (i + 1) rs) m, sym (reverse-reverse left) ∙ ap reverse (rest_is r (get_or rs i r) (reverse left) (drop (i + 1) rs) m))
  where
    first_is : {Y : Type 0} (x y : Y) (xs ys : List Y) → x ∷ xs ≡ y ∷ ys → x ≡ y
    first_is x y xs ys e = cc

    rest_is : {Y : Type 0} (x y : Y) (xs ys : List Y) → x ∷ xs ≡ y ∷ ys → xs ≡ ys
    rest_is x y xs ys e = cc

-- how much room there is doesn't matter to what is held
pub same_host : {Cell : Type 0} (q : QueryFacts Cell) (job : JobFacts) (log : Log) (old new : Hosted Cell) → new.stage ≡ old.stage → new.worker ≡ old.worker → new.records ≡ old.records → new.held ≡ old.held → IsHostOf q job log old → IsHostOf q job log new
same_host q job log old new a b c d h = record {
  moves = rw (a, b) h.moves;
  records = rw (a, c) h.records;
  once = rw c h.once;
  held = rw (a, b, d) h.held;
  held_once = rw d h.held_once;
  states = rw (a, d) h.states;
}

pub element_at : {X : Type 0} (xs : List X) (i : ℕ) → i < length xs → (x : X) × (x ≡ get_or xs i x)
element_at [] i l = absurd (omega arith)
element_at (x ∷ xs) zero l = (x, refl)
element_at (x ∷ xs) (suc i) l = element_at xs i (omega arith)

-- once all are counted as many groups begin
pub all_begun : {Cell : Type 0} (h : Hosted Cell) (rs : List Rec) (n count : ℕ) → length rs ≤ n → count + groups_begun h (take n rs) (drop n rs) ≡ groups_begun h [] rs → count ≡ groups_begun h [] rs
all_begun h rs n count l e = let none = ap (groups_begun h (take n rs)) (none_left rs n l) in omega (arith, none, e)
  where
    none_left : (ys : List Rec) (m : ℕ) → length ys ≤ m → drop m ys ≡ []
    none_left [] zero l = refl
    none_left [] (suc m) l = refl
    none_left (y ∷ ys) zero l = absurd (omega arith)
    none_left (y ∷ ys) (suc m) l = none_left ys m (omega arith)
