-- A group that is applied waits no longer; of the others only groups of its key can begin to wait, by its wakes.
use Rattle.std.proofs.Common.{◌≡◌, ◌≢◌, ◌↔◌, ℕ, ◌+◌, ◌&&◌, ◌||◌, ◌==◌, ◌⊎◌, Bool, true, false, not, cond, List, [], ◌∷◌, refl, sym, ap, ◌∙◌, subst, ⊎_elim, arith}
use Rattle.std.specs.List.{AllPairs, Contains}
use Rattle.std.proofs.lemmas.Bool.{false≢true, and_from, and_left, and_right, both_ways, cases_Bool, eq-eqb, eqb-true, not_from_true}
use Rattle.mp_names.specs.declared.names.Name.{Name}
use Rattle.mp_names.specs.declared.names.Name.TheVariants.{Rec, Group}
use Rattle.mp_names.specs.Frontiers.{number_at}
use Rattle.mp_names.specs.Keeping.{IsWaiting}
use Rattle.mp_names.specs.Logs.{Log, LogIsLegal, has_record, has_wake, is_pending, with_applied}
use Rattle.mp_names.specs.Names.{same_name, has, In}
use Rattle.mp_names.specs.Outlines.{Outline, OutlineIsSound, groups_of, time_of}
use Rattle.mp_names.proofs.Listed.{group_form, groups_are}
use Rattle.mp_names.proofs.Lists.{In_left, count_agree, same_name-refl, same_name-true}
use Rattle.mp_rows_laws.proofs.Grown.{waiting_group, waiting_grows}
use Rattle.mp_rows_laws.proofs.Numbers.{count_more, number_same}
use Rattle.mp_rows_laws.proofs.Parts.{brought_same, pending_same}
use Rattle.mp_rows_laws.proofs.Places.{groups_once}
use Rattle.mp_rows_laws.proofs.Pushes.{has_new, has_other}
use Rattle.mp_rows_laws.proofs.Times.{none_there, once_there, times_in}

without_middle : (a b c : Bool) → (a && c) ≡ false → (a && (b && c)) ≡ false
without_middle true b c e = and_right b c e
without_middle false b c e = refl

middle : (a b c : Bool) → b ≡ true → (a && (b && c)) ≡ false → (a && c) ≡ false
middle true true c e f = f
middle true false c e f = absurd (false≢true e)
middle false b c e f = refl

abbrev one : Bool → ℕ
one b = cond b 1 0

module _ (o : Outline) (w : ℕ) (log : Log) (ok : OutlineIsSound o) (good : LogIsLegal o w log) (j t k : ℕ) (waits : IsWaiting o w log j (Group j t k)) where
  abbrev group : Name
  group = Group j t k

  abbrev new : Log
  new = with_applied log group

  now_applied : is_pending o w new group ≡ false
  now_applied = and_left (not (has new.applied group)) (has_record new j t k || has_wake o w new j t k) (not_from_true (has new.applied group) (has_new log.applied group group (same_name-refl group)))

  -- groups of another stage or key

  other_key : (i u l : ℕ) → (j == i && k == l) ≡ false → is_pending o w new (Group i u l) ≡ is_pending o w log (Group i u l)
  other_key i u l e =
      pending_same o log new w i u l
      (λ s. has_other log.applied group (Group i s l) (without_middle (j == i) (t == s) (k == l) e))
      (λ m. refl)
      (λ s. brought_same o log new i (o.bin_of l) s u (λ m. refl) log.took)
      refl

  -- other groups of the key

  still_waits : (u : ℕ) → (t == u) ≡ false → is_pending o w log (Group j u k) ≡ true → is_pending o w new (Group j u k) ≡ true
  still_waits u e =
      waiting_grows o log new w j u k
      (λ s i. In_left (Group j s k) log.applied (group ∷ []) i)
      (λ m f. f)
      (λ s f. brought_same o log new j (o.bin_of k) s u (λ m. refl) log.took ∙ f)
      (has_other log.applied group (Group j u k) (and_right (j == j) (t == u && k == k) (and_left (t == u) (k == k) e)))
      (λ h. h)

  is_group_of : (u : ℕ) → is_pending o w new (Group j u k) ≡ true → In (Group j u k) (groups_of o j)
  is_group_of u h = waiting_group o ok w new (λ n s l g i. (good.took_owed (Rec n s l g) i).0.1) j u k h

  -- at one time all but the key's group wait as before
  others : (u : ℕ) (y : Name) → In y (groups_of o j) → same_name (Group j u k) y ≡ false → (is_pending o w new y && time_of o y == u) ≡ (is_pending o w log y && time_of o y == u)
  others u y i n =
      ⊎_elim
      (λ (e : (time_of o y == u) ≡ true).
      ap (λ (b : Bool). b && time_of o y == u)
      (group_form o ok (λ z. same_name (Group j u k) z ≡ false → is_pending o w new z ≡ is_pending o w log z) j u
      (λ l g m. other_key j u l (middle (j == j) (u == u) (k == l) (eq-eqb u u refl) m))
      y i (eqb-true (time_of o y) u e) n))
      (λ (e : (time_of o y == u) ≡ false). and_right (is_pending o w new y) (time_of o y == u) e ∙ sym (and_right (is_pending o w log y) (time_of o y == u) e))
      (cases_Bool (time_of o y == u))

  module _
      (woken : List ℕ) (once : AllPairs (λ u v. u ≢ v) woken)
      (are : (u : ℕ) → (Contains woken u ↔ ((is_pending o w (with_applied log (Group j t k)) (Group j u k) ≡ true) × (is_pending o w log (Group j u k) ≡ false)))) where
    pub not_itself : Contains woken t → ⊥
    not_itself c = both_ways (is_pending o w new group) now_applied ((are t).0 c).0

    timed : (p : Name → Bool) (u : ℕ) → p (Group j u k) ≡ true → (p (Group j u k) && time_of o (Group j u k) == u) ≡ true
    timed p u e = and_from (p (Group j u k)) (u == u) e (eq-eqb u u refl)

    untimed : (p : Name → Bool) (u : ℕ) → p (Group j u k) ≡ false → (p (Group j u k) && time_of o (Group j u k) == u) ≡ false
    untimed p u e = and_left (p (Group j u k)) (u == u) e

    in_list : (u : ℕ) → In (Group j u k) (groups_of o j) → one (has (groups_of o j) (Group j u k)) ≡ 1
    in_list u i = ap one i

    abbrev old_test : ℕ → Name → Bool
    old_test u y = is_pending o w log y && time_of o y == u

    abbrev new_test : ℕ → Name → Bool
    new_test u y = is_pending o w new y && time_of o y == u

    abbrev IsCounted : ℕ → Type 0
    IsCounted u = number_at o (is_pending o w new) u (groups_of o j) + cond (t == u) 1 0 ≡ number_at o (is_pending o w log) u (groups_of o j) + times_in woken u

    pub waiting : (u : ℕ) → number_at o (is_pending o w (with_applied log (Group j t k))) u (groups_of o j) + cond (t == u) 1 0 ≡ number_at o (is_pending o w log) u (groups_of o j) + times_in woken u
    waiting u = ⊎_elim (λ (e : (t == u) ≡ true). at_its_time e) (λ (e : (t == u) ≡ false). later e (cases_Bool (is_pending o w new (Group j u k))) (cases_Bool (is_pending o w log (Group j u k)))) (cases_Bool (t == u))
      where
        at_its_time : (t == u) ≡ true → IsCounted u
        at_its_time e =
            let same : t ≡ u = eqb-true t u e in
            let less : one (t == u) ≡ 1 = ap one e in
            let before = subst (λ (v : ℕ). is_pending o w log (Group j v k) ≡ true) same waits.1 in
            let after = subst (λ (v : ℕ). is_pending o w new (Group j v k) ≡ false) same now_applied in
            let here = subst (λ (v : ℕ). In (Group j v k) (groups_of o j)) same waits.0 in
            let m = count_more (old_test u) (new_test u) (Group j u k) (groups_of o j) (groups_once o ok j) (timed (is_pending o w log) u before) (untimed (is_pending o w new) u after) (λ y i n. sym (others u y i n)) in
            let l = in_list u here in
            let none = none_there woken u (λ c. not_itself (subst (λ (v : ℕ). Contains woken v) (sym same) c)) in
            omega arith

        unchanged : (t == u) ≡ false → is_pending o w new (Group j u k) ≡ is_pending o w log (Group j u k) → IsCounted u
        unchanged e same =
            let less : one (t == u) ≡ 0 = ap one e in
            let a = count_agree (new_test u) (old_test u) (groups_of o j) (λ y i. ⊎_elim
            (λ (n : same_name (Group j u k) y ≡ true). subst (λ (z : Name). (is_pending o w new z && time_of o z == u) ≡ (is_pending o w log z && time_of o z == u)) (same_name-true (Group j u k) y n) (ap (λ (b : Bool). b && u == u) same))
            (λ (n : same_name (Group j u k) y ≡ false). others u y i n)
            (cases_Bool (same_name (Group j u k) y))) in
            let none = none_there woken u (λ c. let r = (are u).0 c in both_ways (is_pending o w log (Group j u k)) r.1 (sym same ∙ r.0)) in
            omega arith

        begins : (t == u) ≡ false → is_pending o w new (Group j u k) ≡ true → is_pending o w log (Group j u k) ≡ false → IsCounted u
        begins e after before =
            let less : one (t == u) ≡ 0 = ap one e in
            let m = count_more (new_test u) (old_test u) (Group j u k) (groups_of o j) (groups_once o ok j) (timed (is_pending o w new) u after) (untimed (is_pending o w log) u before) (others u) in
            let l = in_list u (is_group_of u after) in
            let more = once_there woken u once ((are u).1 (after, before)) in
            omega arith

        later : (t == u) ≡ false → (is_pending o w new (Group j u k) ≡ true) ⊎ (is_pending o w new (Group j u k) ≡ false) → (is_pending o w log (Group j u k) ≡ true) ⊎ (is_pending o w log (Group j u k) ≡ false) → IsCounted u
        later e a b =
            ⊎_elim
            (λ (after : is_pending o w new (Group j u k) ≡ true).
            ⊎_elim
            (λ (before : is_pending o w log (Group j u k) ≡ true). unchanged e (after ∙ sym before))
            (λ (before : is_pending o w log (Group j u k) ≡ false). begins e after before)
            b)
            (λ (after : is_pending o w new (Group j u k) ≡ false).
            ⊎_elim
            (λ (before : is_pending o w log (Group j u k) ≡ true). absurd (both_ways (is_pending o w new (Group j u k)) after (still_waits u e before)))
            (λ (before : is_pending o w log (Group j u k) ≡ false). unchanged e (after ∙ sym before))
            b)
            a

  -- groups of the other stages
  pub waiting_elsewhere : (i u : ℕ) → (j == i) ≡ false → number_at o (is_pending o w (with_applied log (Group j t k))) u (groups_of o i) ≡ number_at o (is_pending o w log) u (groups_of o i)
  waiting_elsewhere i u e = number_same o u (is_pending o w new) (is_pending o w log) (groups_of o i) (λ y h. same y h)
    where
      same : (y : Name) → In y (groups_of o i) → is_pending o w new y ≡ is_pending o w log y
      same (Group n s l) h = other_key n s l (and_left (j == n) (k == l) (subst (λ (m : ℕ). (j == m) ≡ false) (sym (eqb-true n i (groups_are o ok i (Group n s l) h).1)) e))
      same _ h = refl
