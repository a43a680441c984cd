-- Which lists of an outline hold a name.
use Rattle.std.proofs.Common.{◌≡◌, ℕ, ◌==◌, Bool, true, false, List, [], ◌∷◌, ◌++◌, refl, subst}
use Rattle.std.proofs.lemmas.Bool.{false≢true, eqb-true, false_from_ne_true, both_ways}
use Rattle.mp_names.specs.declared.names.Name.{Name}
use Rattle.mp_names.specs.declared.names.Name.TheVariants.{Rec, Group}
use Rattle.mp_names.specs.declared.names.Tag.{Tag}
use Rattle.mp_names.specs.Names.{has, In, Distinct, is_ctrl, is_rec, is_row, joined_below}
use Rattle.mp_names.specs.Outlines.{Outline, OutlineIsSound, ctrl_names, groups_of, owed_names, packets_of}
use Rattle.mp_names.proofs.Lists.{In_left}
use Rattle.mp_names.proofs.Listed.{ctrl_owed, groups_are, groups_ascend, owed_once}
use Rattle.mp_names.proofs.Orders.{ascending_once}

pub both : (a b : Bool) → (a ≡ true → b ≡ true) → (b ≡ true → a ≡ true) → a ≡ b
both true true f g = refl
both true false f g = absurd (false≢true (f refl))
both false true f g = absurd (false≢true (g refl))
both false false f g = refl

Distinct_left : (xs ys : List Name) → Distinct (xs ++ ys) → Distinct xs
Distinct_left [] ys d = tt
Distinct_left (x ∷ xs) ys d = (false_from_ne_true (has xs x) (λ i. both_ways (has (xs ++ ys) x) d.0 (In_left x xs ys i)), Distinct_left xs ys d.1)

module _ (o : Outline) (ok : OutlineIsSound o) where
  -- each list of an outline holds each name once

  pub controls_once : Distinct (ctrl_names o)
  unfolding owed_names
  controls_once = Distinct_left (ctrl_names o) (joined_below o.stages o.records ++ (packets_of o ++ o.rows)) (owed_once o ok)

  pub groups_once : (j : ℕ) → Distinct (groups_of o j)
  groups_once j = ascending_once (groups_of o j) (groups_ascend o j)

  -- a name of another kind isn't there

  pub no_control : (x : Name) → is_ctrl x ≡ false → has (ctrl_names o) x ≡ false
  no_control x e = false_from_ne_true (has (ctrl_names o) x) (λ i. both_ways (is_ctrl x) e (ctrl_owed o x i).1)

  pub no_record : (j : ℕ) (x : Name) → is_rec j x ≡ false → has (o.records j) x ≡ false
  no_record j x e = false_from_ne_true (has (o.records j) x) (λ i. both_ways (is_rec j x) e (ok.records_are j x i).1)

  pub no_row : (x : Name) → is_row x ≡ false → has o.rows x ≡ false
  no_row x e = false_from_ne_true (has o.rows x) (λ i. both_ways (is_row x) e (ok.rows_are x i))

  -- a record or a group stands in the list of its own stage alone

  pub record_place : (i j t k : ℕ) (g : Tag) → In (Rec j t k g) (o.records j) → has (o.records i) (Rec j t k g) ≡ (j == i)
  record_place i j t k g h =
      both (has (o.records i) (Rec j t k g)) (j == i)
      (λ e. (ok.records_are i (Rec j t k g) e).1)
      (λ e. subst (λ (n : ℕ). In (Rec j t k g) (o.records n)) (eqb-true j i e) h)

  pub group_place : (i j t k : ℕ) → In (Group j t k) (groups_of o j) → has (groups_of o i) (Group j t k) ≡ (j == i)
  group_place i j t k h =
      both (has (groups_of o i) (Group j t k)) (j == i)
      (λ e. (groups_are o ok i (Group j t k) e).1)
      (λ e. subst (λ (n : ℕ). In (Group j t k) (groups_of o n)) (eqb-true j i e) h)
