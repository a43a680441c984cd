-- The groups that are kept are due.
use Rattle.std.proofs.Common.{◌≡◌, ℕ, Bool, true, cond, List, [], ◌∷◌, Some, None, inl, inr, filter, refl, sym, ap, ◌∙◌}
use Rattle.std.specs.List.{slice_get}
use Rattle.std.proofs.lemmas.Bool.{false≢true}
use Rattle.std.proofs.lemmas.Option.{get_or_from_slice_get, slice_get_cases}
use Rattle.mp_names.specs.declared.names.Name.{Name}
use Rattle.mp_names.specs.declared.names.Name.TheVariants.{Group}
use Rattle.mp_names.specs.Names.{In, is_group}
use Rattle.mp_names.specs.Outlines.{Outline, OutlineIsSound, due_groups, groups_of, is_before_stop, time_of}
use Rattle.mp_names.proofs.Listed.{groups_are}
use Rattle.mp_names.proofs.Lists.{In_here, In_later}
use Rattle.mp_outline_lists.specs.Groups.{is_due}
use Rattle.mp_outline_lists.proofs.InOrder.{in_from_contains}

-- what stands at a place is in the list
pub in_at : (xs : List Name) (place : ℕ) (x : Name) → slice_get xs place ≡ Some x → In x xs
in_at xs place x e = elim (slice_get_cases xs place).1 [
  | inl h ↦ in_from_contains x xs (place, h.1, get_or_from_slice_get xs place x x e)
  | inr h ↦ absurd (let none : Some x ≡ None = sym e ∙ h.1 in cc)
]

-- groups have their own time
pub due_is : (o : Outline) (j : ℕ) (x : Name) → is_group j x ≡ true → is_due o.until x ≡ is_before_stop o.until (time_of o x)
due_is o j (Group i t k) h = refl
due_is o j _ h = absurd (false≢true h)

agree : (p q : Name → Bool) (xs : List Name) → ((x : Name) → In x xs → p x ≡ q x) → filter p xs ≡ filter q xs
agree p q [] h = refl
agree p q (x ∷ xs) h =
    ap (λ (b : Bool). cond b (x ∷ filter p xs) (filter p xs)) (h x (In_here x xs))
    ∙ ap (λ (ys : List Name). cond (q x) (x ∷ ys) ys) (agree p q xs (λ y i. h y (In_later y x xs i)))

pub due_are : (o : Outline) → OutlineIsSound o → (j : ℕ) → filter (is_due o.until) (groups_of o j) ≡ due_groups o j
due_are o sound j = agree (is_due o.until) (λ x. is_before_stop o.until (time_of o x)) (groups_of o j) (λ x i. due_is o j x (groups_are o sound j x i).1)
