-- A standing after a step along a list.
use Rattle.std.proofs.Common.{◌≡◌, ◌↔◌, ◌⊎◌, ℕ, zero, suc, ◌<◌, ◌&&◌, ◌==◌, ◌||◌, not, Bool, true, false, List, [], ◌∷◌, ◌++◌, length, get_or, set, refl, sym, ap, ◌∙◌, subst, inl, inr, ⊎_elim, arith}
use Rattle.std.proofs.lemmas.Bool.{false≢true, and_parts, and_from, eqb-true, eq-eqb, cases_eq}
use Rattle.std.proofs.lemmas.List.{get_or-set_same, get_or-set_other}
use Rattle.mp_names.specs.declared.names.Name.{Name}
use Rattle.mp_names.specs.declared.names.Name.TheVariants.{Rec, Group}
use Rattle.mp_names.specs.declared.kinds.Kind.{Kind}
use Rattle.mp_names.specs.declared.kinds.Kind.TheVariants.{Ingest, SendControl, Route, Receive, Extract, Settle, Apply, SendRow, Write, Exchange}
use Rattle.mp_names.specs.Names.{has, In, is_rec, is_group}
use Rattle.mp_names.specs.Outlines.{Outline, OutlineIsSound, sender, share}
use Rattle.mp_names.specs.Logs.{Log, LogIsLegal}
use Rattle.mp_names.specs.Frontiers.{is_held}
use Rattle.mp_names.proofs.Lists.{In_here, In_right, In_prefix, In_filter, filter_In, Distinct_filter}
use Rattle.mp_names.proofs.Orders.{ascending_ascends, ascending_once, ascending_In, filter_ascends}
use Rattle.mp_names.proofs.Hosts.{pending_new}
use Rattle.mp_names.proofs.Listed.{groups_are}
use Rattle.mp_machine.specs.Worlds.{World}
use Rattle.mp_machine.specs.Steps.{CanStep, logged, names_of}
use Rattle.mp_player_laws.specs.Held.{Gives, Routes}
use Rattle.mp_player_laws.specs.Numbers.{StandsAt}
use Rattle.mp_player_laws.proofs.Held.{held_changes}
use Rattle.mp_chart.specs.declared.entry.Entry.{Entry}
use Rattle.mp_chart.specs.Entries.{entry_of, entries_of, is_given_by, records_given}
use Rattle.mp_chart.specs.Lists.{goes_along, to_do}
use Rattle.mp_standing.specs.Held.{with_all}
use Rattle.mp_standing.specs.Standings.{AreHeld, HasGiven}
use Rattle.mp_standing.proofs.Holding.{alike}
use Rattle.mp_standing.proofs.Giving.{all, all_records, from_held, to_held, fresh, holds_same, holds_one, holds_all}

module _ (o : Outline) (ok : OutlineIsSound o) (depth : ℕ) (world : World) (w : ℕ) (good : LogIsLegal o w (world.worker w).log) where
  abbrev log : Log
  log = (world.worker w).log

  abbrev pub after : Kind → Name → Log
  after kind x = logged kind (world.worker w).log (names_of o world w kind x)

  module _ (kind : Kind) (x : Name) (can : CanStep o depth world w kind x) where
    changes : (j : ℕ) (y : Name) → is_rec j y ≡ true → (is_held o w (after kind x) y ≡ true) ↔ (((is_held o w log y ≡ true) × (Routes kind (names_of o world w kind x) y → ⊥)) ⊎ Gives kind x y)
    changes j y is = held_changes o ok depth world w good kind x can j y is

    -- where the step gives and routes none of a stage
    pub held_still : (j : ℕ) → ((y : Name) → is_rec j y ≡ true → Routes kind (names_of o world w kind x) y → ⊥) → ((y : Name) → is_rec j y ≡ true → Gives kind x y → ⊥) → (held : List (List Entry)) → AreHeld o w log j held → AreHeld o w (after kind x) j held
    held_still j r g held h =
        to_held o ok j w (after kind x) held
        (holds_same o ok j (is_held o w log) (is_held o w (after kind x)) held
        (λ y i.
        let is = all_records o ok j y i in
        alike (is_held o w log y) (is_held o w (after kind x) y)
        (λ h. (changes j y is).1 (inl (h, r y is)))
        (λ h. ⊎_elim (λ (p : (is_held o w log y ≡ true) × (Routes kind (names_of o world w kind x) y → ⊥)). p.0) (λ (q : Gives kind x y). absurd (g y is q)) ((changes j y is).0 h)))
        (from_held o ok j w log held h))

  abbrev pub AllHeld : Log → List (List (List Entry)) → Type 0
  AllHeld l held = (j : ℕ) → j < o.stages → AreHeld o w l j (get_or held j [])

  -- one stage's list changes
  pub at_stage : (l : Log) (old : List (List (List Entry))) (i : ℕ) (new : List (List Entry)) → length old ≡ o.stages → ((j : ℕ) → (j ≡ i → ⊥) → j < o.stages → AreHeld o w l j (get_or old j [])) → (i < o.stages → AreHeld o w l i new) → AllHeld l (set old i new)
  at_stage l old i new long others here j low =
      ⊎_elim
      (λ (e : j ≡ i).
      let inside : i < o.stages = omega arith in
      let there : get_or (set old i new) i [] ≡ new = get_or-set_same old i new [] (omega arith) in
      subst (λ (n : ℕ). AreHeld o w l n (get_or (set old i new) n [])) (sym e) (subst (AreHeld o w l i) (sym there) (here inside)))
      (λ (n : j ≡ i → ⊥). subst (AreHeld o w l j) (sym (get_or-set_other old i j new [] n)) (others j n low))
      (cases_eq j i)

  -- after a record is ingested
  module _ (x : Name) (can : CanStep o depth world w Ingest x) where
    in_share : In x (o.records 0)
    in_share = (In_filter (λ y. sender o y == w) x (o.records 0) (In_prefix x (log.ingested ++ x ∷ []) (share o w) can.1 (In_right x log.ingested (x ∷ []) (In_here x [])))).0

    not_held : is_held o w log x ≡ false
    not_held = go x (ok.records_are 0 x in_share).1 (fresh log.ingested (share o w) x can.1 (Distinct_filter (λ y. sender o y == w) (o.records 0) (ok.records_once 0)))
      where
        go : (y : Name) → is_rec 0 y ≡ true → has log.ingested y ≡ false → is_held o w log y ≡ false
        go (Rec zero t k g) is n = ap (λ (b : Bool). b && not (has log.sent (Rec 0 t k g))) n
        go (Rec (suc i) t k g) is n = let e = eqb-true (suc i) 0 is in absurd (omega arith)
        go _ is n = absurd (false≢true is)

    no_other : (j : ℕ) → (j ≡ 0 → ⊥) → (y : Name) → is_rec j y ≡ true → x ≡ y → ⊥
    no_other j n y is e = n (one_stage j 0 y is (subst (λ (z : Name). is_rec 0 z ≡ true) e (ok.records_are 0 x in_share).1))
      where
        one_stage : (a b : ℕ) (y : Name) → is_rec a y ≡ true → is_rec b y ≡ true → a ≡ b
        one_stage a b (Rec i t k g) p q = sym (eqb-true i a p) ∙ eqb-true i b q
        one_stage a b _ p q = absurd (false≢true p)

    pub ingested_held : (old : List (List (List Entry))) → length old ≡ o.stages → AllHeld log old → AllHeld (after Ingest x) (set old 0 (with_all (get_or old 0 []) (entry_of o x ∷ [])))
    ingested_held old long held =
        at_stage (after Ingest x) old 0 (with_all (get_or old 0 []) (entry_of o x ∷ [])) long
        (λ j n low. held_still Ingest x can j (λ y is r. r) (λ y is g. no_other j n y is g) (get_or old j []) (held j low))
        (λ low.
        to_held o ok 0 w (after Ingest x) (with_all (get_or old 0 []) (entry_of o x ∷ []))
        (holds_one o ok 0 (is_held o w log) (is_held o w (after Ingest x)) x (ascending_In x (o.records 0) in_share) not_held
        (λ y i.
        let c = changes Ingest x can 0 y (all_records o ok 0 y i) in (
          (λ h. ⊎_elim (λ (p : (is_held o w log y ≡ true) × (⊥ → ⊥)). inl p.0) (λ (e : x ≡ y). inr e) (c.0 h)),
          (λ d. ⊎_elim (λ (h : is_held o w log y ≡ true). c.1 (inl (h, λ r. r))) (λ (e : x ≡ y). c.1 (inr e)) d),
        ))
        (get_or old 0 []) (from_held o ok 0 w log (get_or old 0 []) (held 0 low))))

  -- after a group is applied
  gives_from : (i t k : ℕ) (n m : ℕ) (y : Name) → is_rec m y ≡ true → is_given_by (Group i t k) y ≡ true → Gives (Apply n) (Group i t k) y
  gives_from i t k n m (Rec (suc a) u l g) is h =
      let p = and_parts (a == i) (u == t && g.0 == k) h in
      let q = and_parts (u == t) (g.0 == k) p.1 in
      let e = eqb-true a i p.0 in
      let f = eqb-true u t q.0 in
      let d = eqb-true g.0 k q.1 in
      cc
  gives_from i t k n m (Rec zero u l g) is h = absurd (false≢true h)
  gives_from i t k n m _ is h = absurd (false≢true is)

  gives_to : (i t k : ℕ) (n m : ℕ) (y : Name) → is_rec m y ≡ true → Gives (Apply n) (Group i t k) y → (is_given_by (Group i t k) y ≡ true) × (m ≡ suc i)
  gives_to i t k n m (Rec (suc a) u l g) is e =
      let b : i ≡ a = cc in
      let f : u ≡ t = cc in
      let d : g.0 ≡ k = cc in
      let stage = eqb-true (suc a) m is in
      (and_from (a == i) (u == t && g.0 == k) (eq-eqb a i (sym b)) (and_from (u == t) (g.0 == k) (eq-eqb u t f) (eq-eqb g.0 k d)), sym stage ∙ ap suc (sym b))
  gives_to i t k n m (Rec zero u l g) is e = absurd e
  gives_to i t k n m _ is e = absurd (false≢true is)

  given_new : (i t k : ℕ) (y : Name) → has log.applied (Group i t k) ≡ false → is_given_by (Group i t k) y ≡ true → is_held o w log y ≡ false
  given_new i t k (Rec (suc a) u l g) new h =
      let p = and_parts (a == i) (u == t && g.0 == k) h in
      let q = and_parts (u == t) (g.0 == k) p.1 in
      let e = eqb-true a i p.0 in
      let f = eqb-true u t q.0 in
      let d = eqb-true g.0 k q.1 in
      let same : Group i t k ≡ Group a u g.0 = cc in
      ap (λ (b : Bool). b && not (has log.sent (Rec (suc a) u l g))) (subst (λ (z : Name). has log.applied z ≡ false) same new)
  given_new i t k (Rec zero u l g) new h = absurd (false≢true h)
  given_new i t k _ new h = absurd (false≢true h)

  group_held :
      (n : ℕ) (x : Name)
      → is_group n x ≡ true
      → CanStep o depth world w (Apply n) x
      → (old : List (List (List Entry)))
      → length old ≡ o.stages
      → AllHeld log old
      → AllHeld (after (Apply n) x) (set old (suc n) (with_all (get_or old (suc n) []) (entries_of o (records_given o x))))
  group_held n (Group i t k) is can old long held =
      let same : i ≡ n = eqb-true i n is in
      let new = pending_new o w log i t k can.1.0.1 in
      let xs = records_given o (Group i t k) in
      at_stage (after (Apply n) (Group i t k)) old (suc n) (with_all (get_or old (suc n) []) (entries_of o xs)) long
      (λ j d low. held_still (Apply n) (Group i t k) can j (λ y is r. r) (λ y is g. d ((gives_to i t k n j y is g).1 ∙ ap suc same)) (get_or old j []) (held j low))
      (λ low.
      subst (λ (m : ℕ). AreHeld o w (after (Apply n) (Group i t k)) (suc m) (with_all (get_or old (suc m) []) (entries_of o xs))) same
      (let here : suc i < o.stages = omega arith in
      to_held o ok (suc i) w (after (Apply n) (Group i t k)) (with_all (get_or old (suc i) []) (entries_of o xs))
      (holds_same o ok (suc i) (λ y. is_held o w log y || has xs y) (is_held o w (after (Apply n) (Group i t k))) (with_all (get_or old (suc i) []) (entries_of o xs))
      (λ y a.
      let r = all_records o ok (suc i) y a in
      let c = changes (Apply n) (Group i t k) can (suc i) y r in
      alike (is_held o w log y || has xs y) (is_held o w (after (Apply n) (Group i t k)) y)
      (λ h. ⊎_elim (λ (p : is_held o w log y ≡ true). c.1 (inl (p, λ r. r))) (λ (q : has xs y ≡ true). c.1 (inr (gives_from i t k n (suc i) y r (In_filter (is_given_by (Group i t k)) y (all o ok (suc i)) q).1))) (either (is_held o w log y) (has xs y) h))
      (λ h.
      ⊎_elim
      (λ (p : (is_held o w log y ≡ true) × (⊥ → ⊥)). ap (λ (b : Bool). b || has xs y) p.0)
      (λ (g : Gives (Apply n) (Group i t k) y). second (is_held o w log y) (has xs y) (filter_In (is_given_by (Group i t k)) y (all o ok (suc i)) a (gives_to i t k n (suc i) y r g).0))
      (c.0 h)))
      (holds_all o ok (suc i) xs (is_held o w log) (get_or old (suc i) []) (ascending_once xs (filter_ascends (is_given_by (Group i t k)) (all o ok (suc i)) (ascending_ascends (o.records (suc i)))))
      (λ y a. (In_filter (is_given_by (Group i t k)) y (all o ok (suc i)) a).0)
      (λ y a. given_new i t k y new (In_filter (is_given_by (Group i t k)) y (all o ok (suc i)) a).1)
      (from_held o ok (suc i) w log (get_or old (suc i) []) (held (suc i) here))))))
    where
      either : (a b : Bool) → (a || b) ≡ true → (a ≡ true) ⊎ (b ≡ true)
      either true b h = inl refl
      either false b h = inr h

      second : (a b : Bool) → b ≡ true → (a || b) ≡ true
      second true b h = refl
      second false b h = h
  group_held n _ is can old long held = absurd (false≢true is)

  pub applied_held :
      (n : ℕ) (x : Name)
      → CanStep o depth world w (Apply n) x
      → (old : List (List (List Entry)))
      → length old ≡ o.stages
      → AllHeld log old
      → AllHeld (after (Apply n) x) (set old (suc n) (with_all (get_or old (suc n) []) (entries_of o (records_given o x))))
  applied_held n x can = group_held n x (groups_are o ok n x can.1.0.0).1 can

  -- so with each kind of step along a list
  pub given_held :
      (kind : Kind) (x : Name) (place : ℕ)
      → goes_along kind ≡ true
      → StandsAt (to_do o w kind) place x
      → CanStep o depth world w kind x
      → (old new : List (List (List Entry)))
      → length old ≡ o.stages
      → HasGiven o w kind place (entry_of o x) old new
      → AllHeld log old
      → AllHeld (after kind x) new
  given_held Ingest x place g at can old new long given held = subst (AllHeld (after Ingest x)) (sym given) (ingested_held x can old long held)
  given_held (Apply n) x place g at can old new long given held = subst (AllHeld (after (Apply n) x)) (sym (given x at)) (applied_held n x can old long held)
  given_held SendControl x place g at can old new long given held = λ j low. subst (λ (l : List (List (List Entry))). AreHeld o w (after SendControl x) j (get_or l j [])) (sym given) (held_still SendControl x can j (λ y is r. r) (λ y is g. g) (get_or old j []) (held j low))
  given_held (Extract n) x place g at can old new long given held = λ j low. subst (λ (l : List (List (List Entry))). AreHeld o w (after (Extract n) x) j (get_or l j [])) (sym given) (held_still (Extract n) x can j (λ y is r. r) (λ y is g. g) (get_or old j []) (held j low))
  given_held (Settle n) x place g at can old new long given held = λ j low. subst (λ (l : List (List (List Entry))). AreHeld o w (after (Settle n) x) j (get_or l j [])) (sym given) (held_still (Settle n) x can j (λ y is r. r) (λ y is g. g) (get_or old j []) (held j low))
  given_held SendRow x place g at can old new long given held = λ j low. subst (λ (l : List (List (List Entry))). AreHeld o w (after SendRow x) j (get_or l j [])) (sym given) (held_still SendRow x can j (λ y is r. r) (λ y is g. g) (get_or old j []) (held j low))
  given_held Write x place g at can old new long given held = λ j low. subst (λ (l : List (List (List Entry))). AreHeld o w (after Write x) j (get_or l j [])) (sym given) (held_still Write x can j (λ y is r. r) (λ y is g. g) (get_or old j []) (held j low))
  given_held (Route n) x place g at can old new long given held = absurd (false≢true g)
  given_held (Receive v) x place g at can old new long given held = absurd (false≢true g)
  given_held Exchange x place g at can old new long given held = absurd (false≢true g)
