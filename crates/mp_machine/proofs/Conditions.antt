-- The tests say what the conditions say.
use Rattle.std.proofs.Common.{◌≡◌, ℕ, ◌<◌, ◌⊎◌, ◌==◌, nat_lt, Bool, true, ◌&&◌, List, [], ◌∷◌, filter, refl, sym, ap, ◌∙◌, subst, inl, inr, ⊎_elim, arith}
use Rattle.std.proofs.lemmas.Bool.{false≢true, eqb-true, eq-eqb, ltb-true, lt-ltb, leb-true, le-leb, and_parts, and_from}
use Rattle.mp_names.specs.declared.names.Name.{Name}
use Rattle.mp_names.specs.declared.names.Name.TheVariants.{Packet}
use Rattle.mp_names.specs.declared.locations.Frontier.{Frontier}
use Rattle.mp_names.specs.declared.locations.Frontier.TheVariants.{At, Done}
use Rattle.mp_names.specs.declared.kinds.Kind.{Kind}
use Rattle.mp_names.specs.declared.kinds.Kind.TheVariants.{Route, Receive, Extract, Settle, Apply}
use Rattle.mp_names.specs.Names.{has, In, IsAscending, Less}
use Rattle.mp_names.specs.Outlines.{Outline, owner_before, IsMove, packets_of}
use Rattle.mp_names.specs.Logs.{Log, InHandBefore}
use Rattle.mp_names.specs.Frontiers.{HasPassed, HasReached}
use Rattle.mp_names.proofs.Lists.{In_here, In_later, In_cases, In_filter, filter_In}
use Rattle.mp_names.proofs.Orders.{less_irreflexive, less_trans, filter_ascends}
use Rattle.mp_names.proofs.Listed.{packets_ascend, packet_In, packet_is}
use Rattle.mp_machine.specs.Steps.{KindFits}
use Rattle.mp_machine.specs.Tests.{kind_fits, has_passed, has_reached, is_move_below, last_taken, is_in_hand_before}

pub fits : (o : Outline) (kind : Kind) → kind_fits o kind ≡ true → KindFits o kind
fits o (Route j) h = ltb-true j o.stages h
fits o (Receive v) h = ltb-true v o.workers h
fits o (Extract j) h = ltb-true j o.stages h
fits o (Settle j) h = ltb-true j o.stages h
fits o (Apply j) h = ltb-true j o.stages h
fits o _ h = tt

pub fits_back : (o : Outline) (kind : Kind) → KindFits o kind → kind_fits o kind ≡ true
fits_back o (Route j) h = lt-ltb j o.stages h
fits_back o (Receive v) h = lt-ltb v o.workers h
fits_back o (Extract j) h = lt-ltb j o.stages h
fits_back o (Settle j) h = lt-ltb j o.stages h
fits_back o (Apply j) h = lt-ltb j o.stages h
fits_back o _ h = refl

pub passed : (f : Frontier) (t : ℕ) → has_passed f t ≡ true → HasPassed f t
passed (At u) t h = ltb-true t u h
passed Done t h = tt

pub passed_back : (f : Frontier) (t : ℕ) → HasPassed f t → has_passed f t ≡ true
passed_back (At u) t h = lt-ltb t u h
passed_back Done t h = refl

pub reached : (f : Frontier) (t : ℕ) → has_reached f t ≡ true → HasReached f t
reached (At u) t h = leb-true t u h
reached Done t h = tt

pub reached_back : (f : Frontier) (t : ℕ) → HasReached f t → has_reached f t ≡ true
reached_back (At u) t h = le-leb t u h
reached_back Done t h = refl

-- the last of a list

abbrev pub HasLast : List Name → Type 0
HasLast xs = (z : Name) × In z xs × ((y : Name) → In y xs → Less z y → ⊥) × ((took : List Name) (before : Bool) → last_taken took before xs ≡ has took z)

pub last_of : (xs : List Name) → IsAscending xs → (xs ≡ []) ⊎ HasLast xs
last_of [] h = inl refl
last_of (x ∷ xs) h =
    inr (⊎_elim
    (λ (e : xs ≡ []). alone xs e)
    (λ (r : HasLast xs). (r.0, In_later r.0 x xs r.1, (λ y i l. ⊎_elim (λ (q : x ≡ y). less_irreflexive x (less_trans x r.0 x (h.0 r.0 r.1) (subst (λ (u : Name). Less r.0 u) (sym q) l))) (λ (q : In y xs). r.2 y q l) (In_cases y x xs i)), (λ took before. r.3 took (has took x))))
    (last_of xs h.1))
  where
    alone : (xs : List Name) → xs ≡ [] → HasLast (x ∷ xs)
    alone xs e = subst (λ (ys : List Name). HasLast (x ∷ ys)) (sym e) (x, In_here x [], (λ y i l. ⊎_elim (λ (q : x ≡ y). less_irreflexive x (subst (λ (u : Name). Less x u) (sym q) l)) (λ (q : In y []). false≢true q) (In_cases y x [] i)), (λ took before. refl))

-- the bin in hand

module _ (o : Outline) (w : ℕ) (log : Log) (j b t : ℕ) where
  below : List Name
  below = filter (is_move_below j b t) (packets_of o)

  below_In : (m : ℕ) → m < t → IsMove o j b m → In (Packet j b m) below
  unfolding below
  below_In m l h = filter_In (is_move_below j b t) (Packet j b m) (packets_of o) (packet_In o j b m h) (and_from (j == j) (b == b && nat_lt m t) (eq-eqb j j refl) (and_from (b == b) (nat_lt m t) (eq-eqb b b refl) (lt-ltb m t l)))

  below_is : (x : Name) → In x below → (m : ℕ) × (x ≡ Packet j b m) × (m < t) × IsMove o j b m
  unfolding below
  below_is x h = let r = In_filter (is_move_below j b t) x (packets_of o) h in found x r.0 r.1
    where
      found : (x : Name) → In x (packets_of o) → is_move_below j b t x ≡ true → (m : ℕ) × (x ≡ Packet j b m) × (m < t) × IsMove o j b m
      found (Packet i c m) h e =
          let p = and_parts (i == j) (c == b && nat_lt m t) e in
          let q = and_parts (c == b) (nat_lt m t) p.1 in
          let e0 = eqb-true i j p.0 in
          let e1 = eqb-true c b q.0 in
          let e2 : Packet i c m ≡ Packet j b m = cc in
          (m, e2, ltb-true m t q.1, packet_is o j b m (subst (λ (y : Name). In y (packets_of o)) e2 h))
      found _ h e = absurd (false≢true e)

  below_ascends : IsAscending below
  unfolding below
  below_ascends = filter_ascends (is_move_below j b t) (packets_of o) (packets_ascend o)

  in_hand_test : is_in_hand_before o w log j b t ≡ true → (owner_before o j b t ≡ w) × (last_taken log.took true below ≡ true)
  unfolding below
  in_hand_test h = let p = and_parts (owner_before o j b t == w) (last_taken log.took true (filter (is_move_below j b t) (packets_of o))) h in (eqb-true (owner_before o j b t) w p.0, p.1)

  pub in_hand : is_in_hand_before o w log j b t ≡ true → InHandBefore o w log j b t
  in_hand h =
      let p = in_hand_test h in (
        p.0,
        ⊎_elim
            (λ (e : below ≡ []). inl (λ m l n. false≢true (subst (λ (xs : List Name). In (Packet j b m) xs) e (below_In m l n))))
            (λ (r : HasLast below).
            let f = below_is r.0 r.1 in
            inr (f.0, f.2, f.3, (λ n l k v. r.2 (Packet j b n) (below_In n k v) (subst (λ (x : Name). Less x (Packet j b n)) (sym f.1) (inr (refl, inl l)))), subst (λ (x : Name). In x log.took) f.1 (sym (r.3 log.took true) ∙ p.1)))
            (last_of below below_ascends),
      )

  last_is_taken : ((m : ℕ) → m < t → IsMove o j b m → ⊥) ⊎ ((m : ℕ) × (m < t) × IsMove o j b m × ((n : ℕ) → m < n → n < t → IsMove o j b n → ⊥) × In (Packet j b m) log.took) → last_taken log.took true below ≡ true
  last_is_taken h =
      ⊎_elim
      (λ (e : below ≡ []). ap (λ (xs : List Name). last_taken log.took true xs) e)
      (λ (r : HasLast below).
      let f = below_is r.0 r.1 in
      ⊎_elim
      (λ (n : (m : ℕ) → m < t → IsMove o j b m → ⊥). absurd (n f.0 f.2 f.3))
      (λ (k : (m : ℕ) × (m < t) × IsMove o j b m × ((n : ℕ) → m < n → n < t → IsMove o j b n → ⊥) × In (Packet j b m) log.took).
      let same : f.0 ≡ k.0 = same_time f.0 k.0 (λ l. r.2 (Packet j b k.0) (below_In k.0 k.1 k.2) (subst (λ (x : Name). Less x (Packet j b k.0)) (sym f.1) (inr (refl, inl l)))) (λ l. k.3 f.0 l f.2 f.3) in
      r.3 log.took true ∙ subst (λ (x : Name). In x log.took) (sym f.1) (subst (λ (m : ℕ). In (Packet j b m) log.took) (sym same) k.4))
      h)
      (last_of below below_ascends)
    where
      same_time : (m n : ℕ) → (m < n → ⊥) → (n < m → ⊥) → m ≡ n
      same_time m n f g = grind arith

  pub in_hand_back : InHandBefore o w log j b t → is_in_hand_before o w log j b t ≡ true
  unfolding below
  in_hand_back h = and_from (owner_before o j b t == w) (last_taken log.took true (filter (is_move_below j b t) (packets_of o))) (eq-eqb (owner_before o j b t) w h.0) (last_is_taken h.1)
