-- How many groups more wait by one log than by another: as many as a list of those groups has.
use Rattle.std.proofs.Common.{◌≡◌, ◌≢◌, ◌↔◌, ℕ, zero, suc, ◌+◌, ◌<◌, ◌&&◌, ◌==◌, Bool, true, false, cond, List, [], ◌∷◌, count_by, length, map, slice_index_or, refl, sym, ap, ◌∙◌, subst, ⊎_elim, arith}
use Rattle.std.specs.List.{AllPairs, Contains, list_any}
use Rattle.std.proofs.lemmas.Bool.{false≢true, eqb-true, false_from_ne_true, or_left, or_parts}
use Rattle.std.proofs.lemmas.List.Elements.{All-contains}
use Rattle.std.proofs.lemmas.List.Sums.{sum_by-cons}
use Rattle.mp_names.specs.declared.names.Name.{Name}
use Rattle.mp_names.specs.declared.names.Name.TheVariants.{Rec, Packet, Group}
use Rattle.mp_names.specs.declared.names.Tag.{Tag}
use Rattle.mp_names.specs.Logs.{Log, LogIsLegal, brings_wake, is_packet_after, is_pending, is_record_of, left_since, with_sent, with_took}
use Rattle.mp_names.specs.Names.{has, In, Distinct}
use Rattle.mp_names.specs.Outlines.{Outline, OutlineIsSound, groups_of, time_of}
use Rattle.mp_names.proofs.Listed.{groups_are}
use Rattle.mp_names.proofs.Lists.{In_cases, In_here, In_later, In_push, count_inside, counted}
use Rattle.mp_ordered.proofs.Placing.{pairs_head, pairs_tail}
use Rattle.mp_rows_laws.specs.Changes.{waiting_at}
use Rattle.mp_rows_laws.proofs.Grown.{brought_grows, waiting_group, waiting_grows}
use Rattle.mp_rows_laws.proofs.Places.{groups_once}
use Rattle.mp_rows_laws.proofs.Pushes.{any_push}

abbrev one : Bool → ℕ
one b = cond b 1 0

-- a count is the sum of two, by the names of the list
count_two : (p q r : Name → Bool) (xs : List Name) → ((x : Name) → In x xs → one (p x) ≡ one (q x) + one (r x)) → count_by p xs ≡ count_by q xs + count_by r xs
count_two p q r [] h = refl
count_two p q r (y ∷ ys) h =
    let e = counted p y ys in
    let f = counted q y ys in
    let g = counted r y ys in
    let a = h y (In_here y ys) in
    let b = count_two p q r ys (λ x i. h x (In_later x y ys i)) in
    omega arith

-- waits by the greater log, by the lesser, or is listed
one_of_two : (more fewer listed now : Bool) → (listed ≡ true → (more ≡ true) × (fewer ≡ false)) → (more ≡ true → fewer ≡ false → listed ≡ true) → (fewer ≡ true → more ≡ true) → one (more && now) ≡ one (fewer && now) + one (now && listed)
one_of_two true true true now f g h = absurd (false≢true (sym (f refl).1))
one_of_two true true false true f g h = refl
one_of_two true true false false f g h = refl
one_of_two true false true true f g h = refl
one_of_two true false true false f g h = refl
one_of_two true false false now f g h = absurd (false≢true (g refl refl))
one_of_two false true l now f g h = absurd (false≢true (h refl))
one_of_two false false true now f g h = absurd (false≢true (f refl).0)
one_of_two false false false true f g h = refl
one_of_two false false false false f g h = refl

-- a list of times and keys as names of groups

same_pair : (f g : ℕ × ℕ) → f.0 ≡ g.0 → f.1 ≡ g.1 → f ≡ g
same_pair f g a b = ap (λ (n : ℕ). (n, f.1)) a ∙ ap (λ (n : ℕ). (g.0, n)) b

module _ (j : ℕ) where
  abbrev names_of : List (ℕ × ℕ) → List Name
  names_of gs = map (λ g. Group j g.0 g.1) gs

  named_at : (gs : List (ℕ × ℕ)) (x : Name) → In x (names_of gs) → (g : ℕ × ℕ) × Contains gs g × (Group j g.0 g.1 ≡ x)
  named_at [] x i = absurd (false≢true i)
  named_at (f ∷ fs) x i =
      ⊎_elim
      (λ (e : Group j f.0 f.1 ≡ x). (f, (0, omega arith, refl), e))
      (λ (h : In x (names_of fs)). let r = named_at fs x h in let c = r.1 in (r.0, (suc c.0, (let l = c.1 in omega arith), c.2), r.2))
      (In_cases x (Group j f.0 f.1) (names_of fs) i)

  named : (gs : List (ℕ × ℕ)) (g : ℕ × ℕ) → Contains gs g → In (Group j g.0 g.1) (names_of gs)
  named [] g c = absurd (let l = c.1 in omega arith)
  named (f ∷ fs) g c = by_place (λ d. named fs g d) c.0 c.1 c.2
    where
      by_place : (Contains fs g → In (Group j g.0 g.1) (names_of fs)) → (n : ℕ) → n < length (f ∷ fs) → slice_index_or (f ∷ fs) n g ≡ g → In (Group j g.0 g.1) (names_of (f ∷ fs))
      by_place rest zero l e = subst (λ (p : ℕ × ℕ). In (Group j p.0 p.1) (names_of (f ∷ fs))) e (In_here (Group j f.0 f.1) (names_of fs))
      by_place rest (suc n) l e = In_later (Group j g.0 g.1) (Group j f.0 f.1) (names_of fs) (rest (n, omega arith, e))

  listed : (gs : List (ℕ × ℕ)) (u k : ℕ) → In (Group j u k) (names_of gs) → Contains gs (u, k)
  listed gs u k i =
      let r = named_at gs (Group j u k) i in
      subst (λ (p : ℕ × ℕ). Contains gs p) (same_pair r.0 (u, k) (time r.0 r.2) (key r.0 r.2)) r.1
    where
      time : (g : ℕ × ℕ) → Group j g.0 g.1 ≡ Group j u k → g.0 ≡ u
      time g e = cc

      key : (g : ℕ × ℕ) → Group j g.0 g.1 ≡ Group j u k → g.1 ≡ k
      key g e = cc

  names_once : (gs : List (ℕ × ℕ)) → AllPairs (λ f g. f ≢ g) gs → Distinct (names_of gs)
  names_once [] h = tt
  names_once (f ∷ fs) h = (
    false_from_ne_true (has (names_of fs) (Group j f.0 f.1)) (λ i. All-contains (λ g. f ≢ g) fs f (pairs_head (λ f g. f ≢ g) f fs h) (listed fs f.0 f.1 i) refl),
    names_once fs (pairs_tail (λ f g. f ≢ g) f fs h),
  )

  names_counted : (o : Outline) (u : ℕ) (gs : List (ℕ × ℕ)) → count_by (λ y. time_of o y == u) (names_of gs) ≡ count_by (λ g. g.0 == u) gs
  names_counted o u [] = refl
  names_counted o u (f ∷ fs) =
      let a = counted (λ y. time_of o y == u) (Group j f.0 f.1) (names_of fs) in
      let b = sum_by-cons (λ g. cond (g.0 == u) 1 0) f fs in
      let c = names_counted o u fs in
      omega arith

module _
    (o : Outline) (ok : OutlineIsSound o) (w : ℕ) (fewer more : Log) (j : ℕ) (gs : List (ℕ × ℕ)) (known : (i s l : ℕ) (g : Tag) → In (Rec i s l g) more.took → In (Rec i s l g) (o.records i))
    (grows : (u k : ℕ) → is_pending o w fewer (Group j u k) ≡ true → is_pending o w more (Group j u k) ≡ true)
    (once : AllPairs (λ f g. f ≢ g) gs)
    (are : (u k : ℕ) → (Contains gs (u, k) ↔ ((is_pending o w more (Group j u k) ≡ true) × (is_pending o w fewer (Group j u k) ≡ false)))) where
  each_group : (u : ℕ) (y : Name) → In y (groups_of o j) → one (is_pending o w more y && time_of o y == u) ≡ one (is_pending o w fewer y && time_of o y == u) + one (time_of o y == u && has (names_of j gs) y)
  each_group u (Group i s k) h =
      subst (λ (n : ℕ). one (is_pending o w more (Group n s k) && s == u) ≡ one (is_pending o w fewer (Group n s k) && s == u) + one (s == u && has (names_of j gs) (Group n s k))) (sym (eqb-true i j (groups_are o ok j (Group i s k) h).1))
      (one_of_two (is_pending o w more (Group j s k)) (is_pending o w fewer (Group j s k)) (has (names_of j gs) (Group j s k)) (s == u)
      (λ e. (are s k).0 (listed j gs s k e))
      (λ e f. named j gs (s, k) ((are s k).1 (e, f)))
      (grows s k))
  each_group u y h = absurd (false≢true (groups_are o ok j y h).1)

  pub more_waiting : (u : ℕ) → waiting_at o w more j u ≡ waiting_at o w fewer j u + count_by (λ g. g.0 == u) gs
  more_waiting u =
      let a = count_two (λ y. is_pending o w more y && time_of o y == u) (λ y. is_pending o w fewer y && time_of o y == u) (λ y. time_of o y == u && has (names_of j gs) y) (groups_of o j) (each_group u) in
      let b = count_inside (λ y. time_of o y == u) (names_of j gs) (groups_of o j) (names_once j gs once) (groups_once o ok j) (λ x i e. in_stage x i) in
      let c = names_counted j o u gs in
      omega arith
    where
      in_stage : (x : Name) → In x (names_of j gs) → In x (groups_of o j)
      in_stage x i =
          let r = named_at j gs x i in
          subst (λ (y : Name). In y (groups_of o j)) r.2 (waiting_group o ok w more known j r.0.0 r.0.1 ((are r.0.0 r.0.1).0 r.1).0)

module _ (o : Outline) (w : ℕ) (log : Log) (ok : OutlineIsSound o) (good : LogIsLegal o w log) (j b t : ℕ) where
  abbrev packet : Name
  packet = Packet j b t

  -- a packet that is sent takes wakes away

  abbrev sent : Log
  sent = with_sent log packet

  sent_grows : (u k : ℕ) → is_pending o w sent (Group j u k) ≡ true → is_pending o w log (Group j u k) ≡ true
  sent_grows u k = waiting_grows o sent log w j u k (λ s i. i) left (λ s. brought_grows o sent log j (o.bin_of k) s u left log.took) refl (λ h. h)
    where
      left : (m : ℕ) → left_since sent j (o.bin_of k) m ≡ false → left_since log j (o.bin_of k) m ≡ false
      left m e =
          let p = is_packet_after j (o.bin_of k) m in
          (or_parts (list_any p log.sent) (p packet) (sym (any_push p log.sent packet) ∙ e)).0

  pub groups_leave : (gs : List (ℕ × ℕ)) → AllPairs (λ f g. f ≢ g) gs → ((u k : ℕ) → (Contains gs (u, k) ↔ ((is_pending o w log (Group j u k) ≡ true) × (is_pending o w sent (Group j u k) ≡ false)))) → (u : ℕ) → waiting_at o w log j u ≡ waiting_at o w sent j u + count_by (λ g. g.0 == u) gs
  groups_leave gs once are = more_waiting o ok w sent log j gs (λ i s l g h. (good.took_owed (Rec i s l g) h).0.1) sent_grows once are

  -- a packet that is taken brings some

  abbrev took : Log
  took = with_took log packet

  took_grows : (u k : ℕ) → is_pending o w log (Group j u k) ≡ true → is_pending o w took (Group j u k) ≡ true
  took_grows u k =
      waiting_grows o log took w j u k (λ s i. i) (λ m e. e)
      (λ s e. stays (brings_wake took j (o.bin_of k) s u) (brought_grows o log took j (o.bin_of k) s u (λ m f. f) log.took e))
      refl
      (stays (is_record_of j u k))
    where
      stays : (p : Name → Bool) → list_any p log.took ≡ true → list_any p took.took ≡ true
      stays p e = any_push p log.took packet ∙ or_left (list_any p log.took) (p packet) e

  pub groups_come : (gs : List (ℕ × ℕ)) → AllPairs (λ f g. f ≢ g) gs → ((u k : ℕ) → (Contains gs (u, k) ↔ ((is_pending o w took (Group j u k) ≡ true) × (is_pending o w log (Group j u k) ≡ false)))) → (u : ℕ) → waiting_at o w took j u ≡ waiting_at o w log j u + count_by (λ g. g.0 == u) gs
  groups_come gs once are = more_waiting o ok w log took j gs known took_grows once are
    where
      known : (i s l : ℕ) (g : Tag) → In (Rec i s l g) took.took → In (Rec i s l g) (o.records i)
      known i s l g h = ⊎_elim (λ (f : In (Rec i s l g) log.took). (good.took_owed (Rec i s l g) f).0.1) (λ (e : packet ≡ Rec i s l g). absurd (no_record e)) (In_push (Rec i s l g) packet log.took h)
        where
          no_record : Packet j b t ≡ Rec i s l g → ⊥
          no_record e = cc
