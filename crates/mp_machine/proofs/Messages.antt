-- What travels together is held, and begins with the least that is held.
use Rattle.std.proofs.Common.{◌≡◌, ℕ, zero, suc, ◌<◌, ◌≤◌, ◌==◌, Bool, ◌&&◌, List, [], ◌∷◌, ◌++◌, length, take, drop, filter, refl, sym, ap, ◌∙◌, subst, ⊎_elim, arith}
use Rattle.std.proofs.Math.ListN.{length-take, take-append-drop}
use Rattle.std.proofs.lemmas.Bool.{false≢true, eqb-true, eq-eqb, and_parts, and_from}
use Rattle.mp_names.specs.declared.names.Name.{Name}
use Rattle.mp_names.specs.Names.{In, IsPrefix, IsAscending, ascending, Less, IsLeast, is_rec}
use Rattle.mp_names.specs.Outlines.{Outline, OutlineIsSound, time_of, receiver}
use Rattle.mp_names.specs.Frontiers.{is_held}
use Rattle.mp_names.specs.Keeping.{IsHeld}
use Rattle.mp_names.proofs.Lists.{In_here, In_left, In_cases, In_prefix, In_filter, filter_In}
use Rattle.mp_names.proofs.Orders.{ascending_ascends, In_ascending, ascending_In, filter_ascends}
use Rattle.mp_machine.specs.Worlds.{Worker}
use Rattle.mp_machine.specs.Messages.{goes_with, bundle_of, IsMessage}
use Rattle.mp_machine.proofs.Candidates.{rec_into, rec_back}

-- lists

left_ascends : (xs ys : List Name) → IsAscending (xs ++ ys) → IsAscending xs
left_ascends [] ys h = tt
left_ascends (x ∷ xs) ys h = ((λ y i. h.0 y (In_left y xs ys i)), left_ascends xs ys h.1)

-- a name of an ascending list that no other comes before is its first
begins_with : (ys : List Name) (x : Name) → IsAscending ys → In x ys → ((y : Name) → In y ys → Less y x → ⊥) → (rest : List Name) × (ys ≡ x ∷ rest)
begins_with [] x s i n = absurd (false≢true i)
begins_with (y ∷ ys) x s i n = ⊎_elim (λ (e : y ≡ x). (ys, ap (λ (z : Name). z ∷ ys) e)) (λ (k : In x ys). absurd (n y (In_here y ys) (s.0 x k))) (In_cases x y ys i)

take_begins : (n : ℕ) (x : Name) (ys : List Name) → 0 < n → (rest : List Name) × (take n (x ∷ ys) ≡ x ∷ rest)
take_begins zero x ys l = absurd (omega arith)
take_begins (suc n) x ys l = (take n ys, refl)

begun : (n : ℕ) (x : Name) (ys : List Name) → 0 < n → (rest : List Name) × (ys ≡ x ∷ rest) → (rest : List Name) × (take n ys ≡ x ∷ rest)
begun n x ys l b = let t = take_begins n x b.0 l in (t.0, ap (take n) b.1 ∙ t.1)

-- a message of one name

pub single_message : (o : Outline) → OutlineIsSound o → (x : Name) → IsMessage o (x ∷ [])
single_message o ok x =
    let l = ok.some_bundle in
    record {
      some = omega arith;
      few = omega arith;
      together = λ y z i k. let e = sym (only y i) ∙ only z k in (ap (time_of o) (sym e), ap (receiver o) (sym e));
      records = λ h. absurd (omega arith);
      ordered = ((λ y i. absurd (false≢true i)), tt);
    }
  where
    only : (y : Name) → In y (x ∷ []) → x ≡ y
    only y i = ⊎_elim (λ (e : x ≡ y). e) (λ (k : In y []). absurd (false≢true k)) (In_cases y x [] i)

-- a bundle

module _ (o : Outline) (ok : OutlineIsSound o) (w : ℕ) (worker : Worker) (j : ℕ) (x : Name) where
  abbrev held_with : Name → Bool
  held_with y = is_held o w worker.log y && goes_with o x y

  abbrev those : List Name
  those = filter held_with (ascending (o.records j))

  abbrev bundle : List Name
  bundle = bundle_of o w worker.log j x

  begins_those : IsPrefix bundle those
  begins_those = (drop o.bundle those, take-append-drop o.bundle those)

  of_those : (y : Name) → In y those → IsHeld o w worker.log (is_rec j) y × (time_of o y ≡ time_of o x) × (receiver o y ≡ receiver o x)
  of_those y i =
      let f = In_filter held_with y (ascending (o.records j)) i in
      let p = and_parts (is_held o w worker.log y) (goes_with o x y) f.1 in
      let q = and_parts (time_of o y == time_of o x) (receiver o y == receiver o x) p.1 in
      (rec_back o ok w worker j y (In_ascending y (o.records j) f.0) p.0, eqb-true (time_of o y) (time_of o x) q.0, eqb-true (receiver o y) (receiver o x) q.1)

  pub bundle_held : (y : Name) → In y bundle → IsHeld o w worker.log (is_rec j) y
  bundle_held y i = (of_those y (In_prefix y bundle those begins_those i)).0

  pub bundle_time : (y : Name) → In y bundle → time_of o y ≡ time_of o x
  bundle_time y i = (of_those y (In_prefix y bundle those begins_those i)).1

  pub bundle_receiver : (y : Name) → In y bundle → receiver o y ≡ receiver o x
  bundle_receiver y i = (of_those y (In_prefix y bundle those begins_those i)).2

  those_ascend : IsAscending those
  those_ascend = filter_ascends held_with (ascending (o.records j)) (ascending_ascends (o.records j))

  pub bundle_ascends : IsAscending bundle
  unfolding begins_those
  bundle_ascends = left_ascends bundle (drop o.bundle those) (subst IsAscending (sym begins_those.1) those_ascend)

  bundle_few : length bundle ≤ o.bundle
  bundle_few = let e : length bundle ≡ _ = length-take o.bundle those in omega arith

  module _ (least : IsLeast (IsHeld o w worker.log (is_rec j)) x) where
    least_among : In x those
    least_among =
        let i = rec_into o ok w worker j x least.0 in
        filter_In held_with x (ascending (o.records j)) (ascending_In x (o.records j) i.0)
        (and_from (is_held o w worker.log x) (goes_with o x x) i.1
        (and_from (time_of o x == time_of o x) (receiver o x == receiver o x) (eq-eqb (time_of o x) (time_of o x) refl) (eq-eqb (receiver o x) (receiver o x) refl)))

    -- the least is the first of its bundle
    pub bundle_begins : (rest : List Name) × (bundle ≡ x ∷ rest)
    bundle_begins = begun o.bundle x those ok.some_bundle (begins_with those x those_ascend least_among (λ y i l. least.1 y (of_those y i).0 l))

    pub bundle_is_message : IsMessage o bundle
    bundle_is_message =
        record {
          some = let b = bundle_begins in let e : length bundle ≡ suc (length b.0) = ap length b.1 in omega arith;
          few = bundle_few;
          together = λ y z i k. (bundle_time z k ∙ sym (bundle_time y i), bundle_receiver z k ∙ sym (bundle_receiver y i));
          records = λ l. (j, (λ y i. (bundle_held y i).0));
          ordered = bundle_ascends;
        }
