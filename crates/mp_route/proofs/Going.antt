-- The first record held is the least that is unsent by the log.
use Rattle.std.proofs.Common.{◌≡◌, ◌⊎◌, ℕ, ◌<◌, IsTrue, true, false, List, [], ◌∷◌, All, Contains, get_or, map, refl, sym, ap, subst, inl, inr, ⊎_elim, arith}
use Rattle.std.specs.Prelude.{IsSomeAnd, Some, slice_get}
use Rattle.std.proofs.lemmas.Bool.{both_ways, false≢true, false_from_ne_true}
use Rattle.std.proofs.lemmas.List.Elements.{All-contains, All-head, Contains-get_or}
use Rattle.std.proofs.lemmas.Option.{none-some, same_Some}
use Rattle.mp_names.specs.declared.locations.Loc.TheVariants.{CtlMail}
use Rattle.mp_names.specs.declared.locations.Frontier.{Frontier}
use Rattle.mp_names.specs.declared.names.Name.{Name}
use Rattle.mp_names.specs.Frontiers.{HasPassed}
use Rattle.mp_names.specs.Logs.{Log}
use Rattle.mp_names.specs.Outlines.{time_of}
use Rattle.mp_names.specs.Names.{IsBefore, IsLeast, Less, is_before}
use Rattle.mp_names.proofs.Orders.{before_is, is_before-from, least_unique}
use Rattle.mp_names.proofs.Lists.{In_here, same_tag}
use Rattle.mp_stamps.specs.declared.seen.Seen.{Seen}
use Rattle.mp_stamps.specs.Seen.{seen_at}
use Rattle.mp_model.specs.declared.record.Rec.{Rec}
use Rattle.mp_model.specs.Facts.{JobFacts, QueryFacts}
use Rattle.mp_job.proofs.Members.{Contains-cases}
use Rattle.mp_ordered.specs.InOrder.{InOrder, IsInOrder}
use Rattle.mp_ordered.proofs.Placing.{pairs_head}
use Rattle.mp_outline.specs.JobOutline.{name_of_record, outline_of}
use Rattle.mp_outline.proofs.Named.{In_named}
use Rattle.mp_outline.proofs.Records.{same_record}
use Rattle.mp_msg.specs.Contents.{IsRecordOf}
use Rattle.mp_route.specs.Routed.{IsLeastHeld, tag_rank}
use Rattle.mp_route.specs.Unsent.{HoldsUnsent, IsUnsent, MayGo}
use Rattle.mp_route.proofs.Holding.{routed}

-- of two names of a stage the first comes first by time and tag, or by the key alone
by_rank_or_key : (j t a b k u c d l : ℕ) → IsBefore (1 ∷ t ∷ j ∷ a ∷ b ∷ k ∷ []) (1 ∷ u ∷ j ∷ c ∷ d ∷ l ∷ []) → IsBefore (t ∷ a ∷ b ∷ []) (u ∷ c ∷ d ∷ []) ⊎ ((t ≡ u) × (a ≡ c) × (b ≡ d) × (k < l))
by_rank_or_key j t a b k u c d l h = ⊎_elim (λ (e : 1 < 1). absurd (omega arith)) (λ (p : (1 ≡ 1) × IsBefore (t ∷ j ∷ a ∷ b ∷ k ∷ []) (u ∷ j ∷ c ∷ d ∷ l ∷ [])). by_time p.1) h
  where
    by_key : t ≡ u → a ≡ c → b ≡ d → IsBefore (k ∷ []) (l ∷ []) → IsBefore (t ∷ a ∷ b ∷ []) (u ∷ c ∷ d ∷ []) ⊎ ((t ≡ u) × (a ≡ c) × (b ≡ d) × (k < l))
    by_key e f g i = ⊎_elim (λ (m : k < l). inr (e, f, g, m)) (λ (p : (k ≡ l) × ⊥). absurd p.1) i

    by_place : t ≡ u → a ≡ c → IsBefore (b ∷ k ∷ []) (d ∷ l ∷ []) → IsBefore (t ∷ a ∷ b ∷ []) (u ∷ c ∷ d ∷ []) ⊎ ((t ≡ u) × (a ≡ c) × (b ≡ d) × (k < l))
    by_place e f i = ⊎_elim (λ (m : b < d). inl (inr (e, inr (f, inl m)))) (λ (p : (b ≡ d) × IsBefore (k ∷ []) (l ∷ [])). by_key e f p.0 p.1) i

    by_tag : t ≡ u → IsBefore (a ∷ b ∷ k ∷ []) (c ∷ d ∷ l ∷ []) → IsBefore (t ∷ a ∷ b ∷ []) (u ∷ c ∷ d ∷ []) ⊎ ((t ≡ u) × (a ≡ c) × (b ≡ d) × (k < l))
    by_tag e i = ⊎_elim (λ (m : a < c). inl (inr (e, inl m))) (λ (p : (a ≡ c) × IsBefore (b ∷ k ∷ []) (d ∷ l ∷ [])). by_place e p.0 p.1) i

    by_stage : t ≡ u → IsBefore (j ∷ a ∷ b ∷ k ∷ []) (j ∷ c ∷ d ∷ l ∷ []) → IsBefore (t ∷ a ∷ b ∷ []) (u ∷ c ∷ d ∷ []) ⊎ ((t ≡ u) × (a ≡ c) × (b ≡ d) × (k < l))
    by_stage e i = ⊎_elim (λ (m : j < j). absurd (omega arith)) (λ (p : (j ≡ j) × IsBefore (a ∷ b ∷ k ∷ []) (c ∷ d ∷ l ∷ [])). by_tag e p.1) i

    by_time : IsBefore (t ∷ j ∷ a ∷ b ∷ k ∷ []) (u ∷ j ∷ c ∷ d ∷ l ∷ []) → IsBefore (t ∷ a ∷ b ∷ []) (u ∷ c ∷ d ∷ []) ⊎ ((t ≡ u) × (a ≡ c) × (b ≡ d) × (k < l))
    by_time i = ⊎_elim (λ (m : t < u). inl (inl m)) (λ (p : (t ≡ u) × IsBefore (j ∷ a ∷ b ∷ k ∷ []) (j ∷ c ∷ d ∷ l ∷ [])). by_stage p.0 p.1) i

-- no list of numbers comes before itself
itself : (xs : List ℕ) → is_before xs xs ≡ false
itself xs = false_from_ne_true (is_before xs xs) (λ h. never xs (before_is xs xs h))
  where
    never : (xs : List ℕ) → IsBefore xs xs → ⊥
    never [] h = h
    never (x ∷ xs) h = ⊎_elim (λ (e : x < x). omega arith) (λ (e : (x ≡ x) × IsBefore xs xs). never xs e.1) h

-- the first record of a list in order comes after none
pub none_before_first : (r : Rec) (rest : List Rec) → IsInOrder tag_rank (r ∷ rest) → (s : Rec) → Contains (r ∷ rest) s → is_before (tag_rank s) (tag_rank r) ≡ false
none_before_first r rest order s i =
    ⊎_elim
    (λ (e : r ≡ s). subst (λ (u : Rec). is_before (tag_rank u) (tag_rank r) ≡ false) e (itself (tag_rank r)))
    (λ (k : Contains rest s). All-contains (λ u. is_before (tag_rank u) (tag_rank r) ≡ false) rest s (pairs_head (λ u v. is_before (tag_rank v) (tag_rank u) ≡ false) r rest order) k)
    (Contains-cases r s rest i)

module _ {Cell : Type 0} (q : QueryFacts Cell) (job : JobFacts) where
  -- of two records of a stage the name of the one that isn't before isn't less
  pub not_less : (j : ℕ) (s r : Rec) → IsRecordOf q job j s → IsRecordOf q job j r → is_before (tag_rank s) (tag_rank r) ≡ false → Less (name_of_record j s) (name_of_record j r) → ⊥
  not_less j s r a b n h =
      ⊎_elim
      (λ (e : IsBefore (tag_rank s) (tag_rank r)). both_ways (is_before (tag_rank s) (tag_rank r)) n (is_before-from (tag_rank s) (tag_rank r) e))
      (λ (e : (s.time ≡ r.time) × (s.tag.0 ≡ r.tag.0) × (s.tag.1 ≡ r.tag.1) × (s.key < r.key)).
      let one : s ≡ r = same_record q job.events j s r a.1 b.1 e.0 (same_tag s.tag r.tag e.1 e.2) in
      let key : s.key ≡ r.key = ap (λ (u : Rec). u.key) one in
      let less : s.key < r.key = e.3 in
      omega arith)
      (by_rank_or_key j s.time s.tag.0 s.tag.1 s.key r.time r.tag.0 r.tag.1 r.key h)

  module _ (w : ℕ) (log : Log) (j : ℕ) (r : Rec) (rest : List Rec) (room : ℕ) (content : All (IsRecordOf q job j) (r ∷ rest)) (order : IsInOrder tag_rank (r ∷ rest)) (h : HoldsUnsent q job w log (record { stage = j; held = r ∷ rest; room = room })) where
    -- the first record's name is the least that is unsent
    pub first_least : IsLeast (IsUnsent q job w log j) (name_of_record j r)
    first_least = (
      (h.unsent (name_of_record j r)).0 (In_here (name_of_record j r) (map (name_of_record j) rest)),
      (λ y u less.
          let a = In_named (name_of_record j) (r ∷ rest) y ((h.unsent y).1 u) in
          not_less j a.0 r (All-contains (IsRecordOf q job j) (r ∷ rest) a.0 content a.1) (All-head (IsRecordOf q job j) r rest content) (none_before_first r rest order a.0 a.1) (subst (λ (z : Name). Less z (name_of_record j r)) (sym a.2) less)),
    )

    -- so no other name may go
    pub only_first_may_go : (seen : Seen) (x : Name) → MayGo q job w log j seen x → HasPassed (seen_at seen CtlMail) r.time
    only_first_may_go seen x m = subst (λ (y : Name). HasPassed (seen_at seen CtlMail) (time_of (outline_of q job) y)) (least_unique (IsUnsent q job w log j) x (name_of_record j r) m.0 first_least) m.1

-- the first of a list
pub starts : (xs : List Rec) (r : Rec) → slice_get xs 0 ≡ Some r → (rest : List Rec) × (r ∷ rest ≡ xs)
starts [] r e = absurd (none-some r e)
starts (x ∷ xs) r e = (xs, ap (λ (y : Rec). y ∷ xs) (sym (same_Some x r e)))

-- The same of a router whose first record is known

module _ (j : ℕ) (records : InOrder Rec) (r : Rec) (first : slice_get records.items 0 ≡ Some r) (order : IsInOrder tag_rank records.items) where
  pub is_least_held : IsLeastHeld (routed j records) (name_of_record j r)
  is_least_held = go (starts records.items r first).0 (starts records.items r first).1
    where
      go : (rest : List Rec) → r ∷ rest ≡ records.items → IsLeastHeld (routed j records) (name_of_record j r)
      go rest e = subst (λ (items : List Rec). IsLeastHeld (record { stage = j; held = items; room = records.room }) (name_of_record j r)) e (refl, all rest (subst (IsInOrder tag_rank) (sym e) order))
        where
          all : (rest : List Rec) → IsInOrder tag_rank (r ∷ rest) → All (λ s. is_before (tag_rank s) (tag_rank r) ≡ false) (r ∷ rest)
          all rest o k d l = none_before_first r rest o (get_or (r ∷ rest) k d) (Contains-get_or (r ∷ rest) k d l)

  module _ {Cell : Type 0} (q : QueryFacts Cell) (job : JobFacts) (content : All (IsRecordOf q job j) records.items) (w : ℕ) (log : Log) (h : HoldsUnsent q job w log (routed j records)) where
    pub first_may_go : (seen : Seen) → HasPassed (seen_at seen CtlMail) r.time → MayGo q job w log j seen (name_of_record j r)
    first_may_go seen p = let s = starts records.items r first in (first_least q job w log j r s.0 records.room (subst (All (IsRecordOf q job j)) (sym s.1) content) (subst (IsInOrder tag_rank) (sym s.1) order) (held s.0 s.1), p)
      where
        held : (rest : List Rec) → r ∷ rest ≡ records.items → HoldsUnsent q job w log (record { stage = j; held = r ∷ rest; room = records.room })
        held rest e = subst (λ (items : List Rec). HoldsUnsent q job w log (record { stage = j; held = items; room = records.room })) (sym e) h

    pub may_go_first : (seen : Seen) (x : Name) → MayGo q job w log j seen x → HasPassed (seen_at seen CtlMail) r.time
    may_go_first seen x m = let s = starts records.items r first in only_first_may_go q job w log j r s.0 records.room (subst (All (IsRecordOf q job j)) (sym s.1) content) (subst (IsInOrder tag_rank) (sym s.1) order) (subst (λ (items : List Rec). HoldsUnsent q job w log (record { stage = j; held = items; room = records.room })) (sym s.1) h) seen x m

-- How the code knows it

module _ (seen : Seen) (f : Frontier) (t : ℕ) (e : f ≡ seen_at seen CtlMail) where
  pub is_passed : (IsTrue true → HasPassed f t) → HasPassed (seen_at seen CtlMail) t
  is_passed h = subst (λ (g : Frontier). HasPassed g t) e (h refl)

  pub not_passed : (HasPassed f t → IsTrue false) → HasPassed (seen_at seen CtlMail) t → ⊥
  not_passed h p = false≢true (h (subst (λ (g : Frontier). HasPassed g t) (sym e) p))

-- what holds of the first record and its name
pub first_is : (items : List Rec) (r : Rec) (x : Name) (j : ℕ) → slice_get items 0 ≡ Some r → (P : Rec → Type 0) → IsSomeAnd (slice_get items 0) (λ s. (name_of_record j s ≡ x) × P s) → (name_of_record j r ≡ x) × P r
first_is items r x j first P h = subst (λ o. IsSomeAnd o (λ s. (name_of_record j s ≡ x) × P s)) first h
