-- The least record that a worker holds, and those that go with it.
use Rattle.std.proofs.Common.{◌≡◌, ◌↔◌, ◌⊎◌, ℕ, ◌<◌, ◌≤◌, min, ◌==◌, ◌&&◌, Bool, true, false, List, [], ◌∷◌, ◌++◌, length, filter, take, drop, get_or, set, Some, refl, sym, ap, ◌∙◌, subst, inl, ⊎_elim, arith}
use Rattle.std.proofs.lemmas.Bool.{false≢true, both_ways, and_parts, and_from, eqb-true, eq-eqb, cases_lt, cases_eq}
use Rattle.std.proofs.lemmas.List.{take-append-drop, drop-map, get_or_past, get_or-set_same, get_or-set_other, length-set}
use Rattle.std.specs.List.{slice_get, prefix_len}
use Rattle.mp_names.specs.declared.names.Name.{Name}
use Rattle.mp_names.specs.declared.kinds.Kind.TheVariants.{Route}
use Rattle.mp_names.specs.Names.{In, IsAscending, Less, IsLeast, is_before, is_rec}
use Rattle.mp_names.specs.Outlines.{Outline, OutlineIsSound, time_of, receiver}
use Rattle.mp_names.specs.Logs.{Log, LogIsLegal}
use Rattle.mp_names.specs.Frontiers.{is_held}
use Rattle.mp_names.specs.Keeping.{IsHeld}
use Rattle.mp_names.proofs.Lists.{In_here, In_cases, In_left, In_right, In_append, In_filter, filter_In}
use Rattle.mp_names.proofs.Orders.{less_connected, less_irreflexive, less_trans, ascending_ascends, In_ascending, ascending_In, filter_ascends, before_rest, ascending_unique}
use Rattle.mp_machine.specs.Worlds.{Worker, World}
use Rattle.mp_machine.specs.Messages.{bundle_of, goes_with}
use Rattle.mp_machine.specs.Steps.{CanStep}
use Rattle.mp_machine.proofs.Candidates.{rec_into, rec_back}
use Rattle.mp_player_laws.proofs.Held.{held_changes}
use Rattle.mp_chart.specs.declared.entry.Entry.{Entry}
use Rattle.mp_chart.specs.Entries.{entry_of, entries_of}
use Rattle.mp_standing.specs.Held.{rank_of_record, rank_of_entry, IsLeastFirst}
use Rattle.mp_standing.specs.Standings.{AreHeld}
use Rattle.mp_standing.proofs.Holding.{filter_alike, before_from}
use Rattle.mp_standing.proofs.Giving.{all, all_records, to_worker}
use Rattle.mp_standing.proofs.After.{after}
use Rattle.mp_player.specs.Routing.{records_to, run_of}
use Rattle.mp_player.proofs.Runs.{filter_twice, take_twice, at_time, less_earlier, run_is, runs_alike, run_long}

-- what stands first among entries is the entry of a name that stands first
head_of : (o : Outline) (xs : List Name) (e : Entry) → slice_get (entries_of o xs) 0 ≡ Some e → (x : Name) × (rest : List Name) × (xs ≡ x ∷ rest) × (e ≡ entry_of o x)
head_of o [] e f = absurd (cc)
head_of o (x ∷ xs) e f = let same : e ≡ entry_of o x = cc in (x, xs, refl, same)

some_head : (o : Outline) (xs : List Name) (y : Name) → In y xs → (x : Name) × (rest : List Name) × (xs ≡ x ∷ rest) × (slice_get (entries_of o xs) 0 ≡ Some (entry_of o x))
some_head o [] y i = absurd (false≢true i)
some_head o (x ∷ xs) y i = (x, xs, refl, refl)

right_ascends : (xs ys : List Name) → IsAscending (xs ++ ys) → IsAscending ys
right_ascends [] ys a = a
right_ascends (x ∷ xs) ys a = right_ascends xs ys a.1

module _ (o : Outline) (ok : OutlineIsSound o) (w : ℕ) (worker : Worker) (j : ℕ) where
  abbrev held_to : ℕ → Name → Bool
  held_to v y = is_held o w worker.log y && receiver o y == v

  -- the records that the worker holds to route to another
  abbrev pub mine : ℕ → List Name
  mine v = filter (held_to v) (all o ok j)

  mine_ascends : (v : ℕ) → IsAscending (mine v)
  mine_ascends v = filter_ascends (held_to v) (all o ok j) (ascending_ascends (o.records j))

  mine_held : (v : ℕ) (y : Name) → In y (mine v) → IsHeld o w worker.log (is_rec j) y × (receiver o y ≡ v)
  mine_held v y i =
      let f = In_filter (held_to v) y (all o ok j) i in
      let p = and_parts (is_held o w worker.log y) (receiver o y == v) f.1 in
      (rec_back o ok w worker j y (In_ascending y (o.records j) f.0) p.0, eqb-true (receiver o y) v p.1)

  held_mine : (y : Name) → IsHeld o w worker.log (is_rec j) y → In y (mine (receiver o y)) × (receiver o y < o.workers)
  held_mine y h =
      let i = rec_into o ok w worker j y h in
      let a = ascending_In y (o.records j) i.0 in
      (filter_In (held_to (receiver o y)) y (all o ok j) a (and_from (is_held o w worker.log y) (receiver o y == receiver o y) i.1 (eq-eqb (receiver o y) (receiver o y) refl)), to_worker o ok j y a)

  module _ (held : List (List Entry)) (are : AreHeld o w worker.log j held) where
    there : (v : ℕ) (e : Entry) → slice_get (records_to held v) 0 ≡ Some e → v < o.workers
    there v e f =
        ⊎_elim
        (λ (l : v < o.workers). l)
        (λ (l : o.workers ≤ v). let long = are.receivers in let none = ap (λ (es : List Entry). slice_get es 0) (get_or_past held v [] (omega arith)) in absurd (cc))
        (cases_lt v o.workers)

    -- the least entry is that of the least record
    pub least_held : (e : Entry) → IsLeastFirst held e → (x : Name) × (e ≡ entry_of o x) × IsLeast (IsHeld o w worker.log (is_rec j)) x
    least_held e least =
        let v = least.0.0 in
        let low = there v e least.0.1 in
        let h = head_of o (mine v) e (ap (λ (es : List Entry). slice_get es 0) (sym (are.records v low)) ∙ least.0.1) in
        let x = h.0 in
        let is = mine_held v x (subst (In x) (sym h.2) (In_here x h.1)) in
        (x, h.3, (is.0, (λ y k less. not_less x is.0 h.3 y k less)))
      where
        not_less : (x : Name) → IsHeld o w worker.log (is_rec j) x → e ≡ entry_of o x → (y : Name) → IsHeld o w worker.log (is_rec j) y → Less y x → ⊥
        not_less x is same y k less =
            let m = held_mine y k in
            let f = some_head o (mine (receiver o y)) y m.0 in
            let z = f.0 in
            let first : slice_get (records_to held (receiver o y)) 0 ≡ Some (entry_of o z) = ap (λ (es : List Entry). slice_get es 0) (are.records (receiver o y) m.1) ∙ f.3 in
            let not_before : is_before (rank_of_record z) (rank_of_record x) ≡ false = subst (λ (g : Entry). is_before (rank_of_record z) (rank_of_entry g) ≡ false) same (least.1 (receiver o y) (entry_of o z) first) in
            let here = mine_held (receiver o y) z (subst (In z) (sym f.2) (In_here z f.1)) in
            let up = subst IsAscending f.2 (mine_ascends (receiver o y)) in
            let lower : Less z x =
            ⊎_elim
            (λ (s : z ≡ y). subst (λ (u : Name). Less u x) (sym s) less)
            (λ (i : In y f.1). less_trans z y x (up.0 y i) less)
            (In_cases y z f.1 (subst (In y) f.2 m.0)) in
            both_ways (is_before (rank_of_record z) (rank_of_record x)) not_before (before_from j z x here.0.0 is.0 lower)

    -- where there is no entry there is no record
    pub none_held : ((v : ℕ) → records_to held v ≡ []) → (y : Name) → IsHeld o w worker.log (is_rec j) y → ⊥
    none_held none y h =
        let m = held_mine y h in
        let f = some_head o (mine (receiver o y)) y m.0 in
        let e = none (receiver o y) in
        let first = ap (λ (es : List Entry). slice_get es 0) (sym e ∙ are.records (receiver o y) m.1) ∙ f.3 in
        absurd (cc)

  module _ (x : Name) (least : IsLeast (IsHeld o w worker.log (is_rec j)) x) where
    abbrev t : ℕ
    t = time_of o x

    abbrev r : ℕ
    r = receiver o x

    abbrev pub number : ℕ
    number = min o.bundle (prefix_len (at_time o j t) (mine r))

    none_earlier : (y : Name) → In y (mine r) → t ≤ time_of o y
    none_earlier y i =
        let h = (mine_held r y i).0 in
        ⊎_elim
        (λ (e : x ≡ y). let same : t ≡ time_of o y = ap (time_of o) e in omega arith)
        (λ (c : Less x y ⊎ Less y x). ⊎_elim (λ (l : Less x y). less_earlier o j x y least.0.0 h.0 l) (λ (l : Less y x). absurd (least.1 y h l)) c)
        (less_connected x y)

    goes : (y : Name) → (is_held o w worker.log y && (time_of o y == t && receiver o y == r)) ≡ ((is_held o w worker.log y && receiver o y == r) && time_of o y == t)
    goes y = swap (is_held o w worker.log y) (time_of o y == t) (receiver o y == r)
      where
        swap : (a b c : Bool) → (a && (b && c)) ≡ ((a && c) && b)
        swap true true true = refl
        swap true true false = refl
        swap true false true = refl
        swap true false false = refl
        swap false b c = refl

    -- what goes in one message are the first so many to the receiver
    pub bundle_is : bundle_of o w worker.log j x ≡ take number (mine r)
    bundle_is =
        ap (take o.bundle)
        (filter_alike (λ y. is_held o w worker.log y && goes_with o x y) (λ y. held_to r y && at_time o j t y) (all o ok j) (λ y i. goes y)
        ∙ sym (filter_twice (held_to r) (at_time o j t) (all o ok j))
        ∙ run_is o j t (mine r) (mine_ascends r) (λ y i. (mine_held r y i).0.0) none_earlier)
        ∙ take_twice o.bundle (prefix_len (at_time o j t) (mine r)) (mine r)

    pub bundle_long : length (bundle_of o w worker.log j x) ≡ number
    bundle_long = ap length bundle_is ∙ run_long o j o.bundle t (mine r)

    -- and so many are counted
    pub counted : (held : List (List Entry)) → AreHeld o w worker.log j held → (most : ℕ) → most ≡ o.bundle → r < o.workers → run_of (records_to held r) t most ≡ length (bundle_of o w worker.log j x)
    counted held are most e low =
        ap (λ (n : ℕ). min n (prefix_len (λ (f : Entry). f.time == t) (records_to held r))) e
        ∙ ap (λ (es : List Entry). min o.bundle (prefix_len (λ (f : Entry). f.time == t) es)) (are.records r low)
        ∙ ap (min o.bundle) (runs_alike o j t (mine r))
        ∙ sym bundle_long

    pub inside : r < o.workers
    inside = (held_mine x least.0).1

    pub in_bundle : (y : Name) → In y (bundle_of o w worker.log j x) → In y (mine r)
    in_bundle y i = subst (In y) (take-append-drop number (mine r)) (In_left y (take number (mine r)) (drop number (mine r)) (subst (In y) bundle_is i))

-- after the step

module _ (o : Outline) (ok : OutlineIsSound o) (depth : ℕ) (world : World) (w : ℕ) (good : LogIsLegal o w (world.worker w).log) (j : ℕ) (x : Name) (can : CanStep o depth world w (Route j) x) where
  abbrev new : Log
  new = after o ok depth world w good (Route j) x

  abbrev bundle : List Name
  bundle = bundle_of o w (world.worker w).log j x

  abbrev was : ℕ → List Name
  was v = mine o ok w (world.worker w) j v

  abbrev now_to : ℕ → Name → Bool
  now_to v y = is_held o w new y && receiver o y == v

  abbrev kept : ℕ → List Name
  kept v = filter (now_to v) (all o ok j)

  abbrev count : ℕ
  count = number o ok w (world.worker w) j x can.1

  changes : (y : Name) → In y (all o ok j) → (is_held o w new y ≡ true) ↔ (((is_held o w (world.worker w).log y ≡ true) × (In y bundle → ⊥)) ⊎ ⊥)
  changes y i = held_changes o ok depth world w good (Route j) x can j y (all_records o ok j y i)

  still : (v : ℕ) (y : Name) → In y (kept v) → In y (was v) × (In y bundle → ⊥)
  still v y i =
      let f = In_filter (now_to v) y (all o ok j) i in
      let p = and_parts (is_held o w new y) (receiver o y == v) f.1 in
      ⊎_elim
      (λ (h : (is_held o w (world.worker w).log y ≡ true) × (In y bundle → ⊥)).
      (filter_In (λ z. is_held o w (world.worker w).log z && receiver o z == v) y (all o ok j) f.0 (and_from (is_held o w (world.worker w).log y) (receiver o y == v) h.0 p.1), h.1))
      (λ (h : ⊥). absurd h)
      ((changes y f.0).0 p.0)

  stays : (v : ℕ) (y : Name) → In y (was v) → (In y bundle → ⊥) → In y (kept v)
  stays v y i n =
      let f = In_filter (λ z. is_held o w (world.worker w).log z && receiver o z == v) y (all o ok j) i in
      let p = and_parts (is_held o w (world.worker w).log y) (receiver o y == v) f.1 in
      filter_In (now_to v) y (all o ok j) f.0 (and_from (is_held o w new y) (receiver o y == v) ((changes y f.0).1 (inl (p.0, n))) p.1)

  kept_ascends : (v : ℕ) → IsAscending (kept v)
  kept_ascends v = filter_ascends (now_to v) (all o ok j) (ascending_ascends (o.records j))

  -- to another receiver all stay
  kept_other : (v : ℕ) → (v ≡ receiver o x → ⊥) → was v ≡ kept v
  kept_other v n =
      ascending_unique (was v) (kept v) (mine_ascends o ok w (world.worker w) j v) (kept_ascends v)
      (λ y i. stays v y i (λ b. n (sym (mine_held o ok w (world.worker w) j v y i).1 ∙ (mine_held o ok w (world.worker w) j (receiver o x) y (in_bundle o ok w (world.worker w) j x can.1 y b)).1)))
      (λ y i. (still v y i).0)

  -- to its own the first go
  kept_here : drop count (was (receiver o x)) ≡ kept (receiver o x)
  kept_here =
      let r = receiver o x in
      let parts : take count (was r) ++ drop count (was r) ≡ was r = take-append-drop count (was r) in
      let up : IsAscending (take count (was r) ++ drop count (was r)) = subst IsAscending (sym parts) (mine_ascends o ok w (world.worker w) j r) in
      let first : bundle ≡ take count (was r) = bundle_is o ok w (world.worker w) j x can.1 in
      ascending_unique (drop count (was r)) (kept r) (right_ascends (take count (was r)) (drop count (was r)) up) (kept_ascends r)
      (λ y i.
      stays r y (subst (In y) parts (In_right y (take count (was r)) (drop count (was r)) i))
      (λ b. less_irreflexive y (before_rest (take count (was r)) (drop count (was r)) up y y (subst (In y) first b) i)))
      (λ y i.
      let s = still r y i in
      ⊎_elim
      (λ (b : In y (take count (was r))). absurd (s.1 (subst (In y) (sym first) b)))
      (λ (b : In y (drop count (was r))). b)
      (In_append y (take count (was r)) (drop count (was r)) (subst (In y) (sym parts) s.0)))

  abbrev left_of : List (List Entry) → List Entry
  left_of held = drop (length bundle) (records_to held (receiver o x))

  left_here : (held : List (List Entry)) → AreHeld o w (world.worker w).log j held → get_or (set held (receiver o x) (left_of held)) (receiver o x) [] ≡ entries_of o (kept (receiver o x))
  left_here held are =
      let low = inside o ok w (world.worker w) j x can.1 in
      let long : receiver o x < length held = let e = are.receivers in omega arith in
      get_or-set_same held (receiver o x) (left_of held) [] long
      ∙ ap (drop (length bundle)) (are.records (receiver o x) low)
      ∙ ap (λ (n : ℕ). drop n (entries_of o (was (receiver o x)))) (bundle_long o ok w (world.worker w) j x can.1)
      ∙ drop-map (entry_of o) count (was (receiver o x))
      ∙ ap (entries_of o) kept_here

  pub routed_held : (held : List (List Entry)) → AreHeld o w (world.worker w).log j held → AreHeld o w new j (set held (receiver o x) (left_of held))
  routed_held held are =
      record {
        receivers = length-set held (receiver o x) _ ∙ are.receivers;
        records = λ v l. pick v l (cases_eq v (receiver o x));
      }
    where
      pick : (v : ℕ) → v < o.workers → (v ≡ receiver o x) ⊎ (v ≡ receiver o x → ⊥) → get_or (set held (receiver o x) (left_of held)) v [] ≡ entries_of o (kept v)
      pick v l c =
          ⊎_elim
          (λ (e : v ≡ receiver o x). subst (λ (u : ℕ). get_or (set held (receiver o x) (left_of held)) u [] ≡ entries_of o (kept u)) (sym e) (left_here held are))
          (λ (n : v ≡ receiver o x → ⊥). get_or-set_other held (receiver o x) v (left_of held) [] n ∙ are.records v l ∙ ap (entries_of o) (kept_other v n))
          c
