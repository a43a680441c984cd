-- The records that a group gives are those of its moment.
use Rattle.std.proofs.Common.{◌≡◌, ℕ, zero, suc, ◌==◌, nat_lt, Bool, true, false, not, cond, ◌&&◌, ◌||◌, List, [], ◌∷◌, filter, refl, sym, ap, ◌∙◌, subst, arith}
use Rattle.std.proofs.lemmas.Bool.{false≢true, eqb-true}
use Rattle.std.proofs.lemmas.Bool.Decides.{nat_tests}
use Rattle.mp_names.specs.declared.names.Name.{Name}
use Rattle.mp_names.specs.declared.names.Name.TheVariants.{Rec, Group}
use Rattle.mp_names.specs.Names.{In, ascending, is_group, is_rec}
use Rattle.mp_names.specs.Outlines.{Outline, OutlineIsSound}
use Rattle.mp_names.specs.Logs.{owned_groups}
use Rattle.mp_names.proofs.Lists.{In_here, In_later}
use Rattle.mp_names.proofs.Orders.{In_ascending}
use Rattle.mp_chart.specs.declared.entry.Entry.{Entry}
use Rattle.mp_chart.specs.Entries.{entries_of, entry_of, is_given_by, records_given}
use Rattle.mp_group_lists.specs.Moments.{is_at, moment_of}
use Rattle.mp_group_lists.specs.Parts.{next_records}
use Rattle.mp_group_lists.proofs.InTurn.{is_of_stage}

-- filters of entries are filters of names
filter_entries : (o : Outline) (p : Entry → Bool) (q : Name → Bool) (xs : List Name) → ((x : Name) → In x xs → p (entry_of o x) ≡ q x) → filter p (entries_of o xs) ≡ entries_of o (filter q xs)
filter_entries o p q [] h = refl
filter_entries o p q (x ∷ xs) h =
    ap (λ (b : Bool). cond b (entry_of o x ∷ filter p (entries_of o xs)) (filter p (entries_of o xs))) (h x (In_here x xs))
    ∙ ap (λ (es : List Entry). cond (q x) (entry_of o x ∷ es) es) (filter_entries o p q xs (λ y i. h y (In_later y x xs i)))
    ∙ out (q x)
  where
    out : (b : Bool) → cond b (entry_of o x ∷ entries_of o (filter q xs)) (entries_of o (filter q xs)) ≡ entries_of o (cond b (x ∷ filter q xs) (filter q xs))
    out true = refl
    out false = refl

same_tests : (u t a k : ℕ) → (not (nat_lt u t || u == t && (nat_lt a k || a == k && false)) && not (nat_lt t u || t == u && (nat_lt k a || k == a && false))) ≡ (u == t && a == k)
same_tests u t a k = grind (arith, nat_tests)

-- of the next stage's records
same_test : (o : Outline) (j t k : ℕ) (x : Name) → is_rec (suc j) x ≡ true → is_at (record { time = t; key = k }) (entry_of o x) ≡ is_given_by (Group j t k) x
same_test o j t k (Rec zero u l g) e = absurd (let no = eqb-true zero (suc j) e in omega arith)
same_test o j t k (Rec (suc i) u l g) e =
    same_tests u t g.0 k ∙ ap (λ (b : Bool). b && (u == t && g.0 == k)) (sym (own i j e))
  where
    own : (i j : ℕ) → (suc i == suc j) ≡ true → (i == j) ≡ true
    own i j e = grind arith
same_test o j t k _ e = absurd (false≢true e)

module _ (o : Outline) (ok : OutlineIsSound o) where
  given_by : (j t k : ℕ) → filter (is_at (record { time = t; key = k })) (next_records o j) ≡ entries_of o (records_given o (Group j t k))
  given_by j t k =
      filter_entries o (is_at (record { time = t; key = k })) (is_given_by (Group j t k)) (ascending (o.records (suc j))) (λ x i. same_test o j t k x (ok.records_are (suc j) x (In_ascending x (o.records (suc j)) i)).1)

  pub given_is : (w j : ℕ) (x : Name) → In x (owned_groups o w j) → filter (is_at (moment_of x)) (next_records o j) ≡ entries_of o (records_given o x)
  given_is w j x i = of x (is_of_stage o ok w j x i)
    where
      of : (x : Name) → is_group j x ≡ true → filter (is_at (moment_of x)) (next_records o j) ≡ entries_of o (records_given o x)
      of (Group i t k) e = subst (λ (n : ℕ). filter (is_at (record { time = t; key = k })) (next_records o n) ≡ entries_of o (records_given o (Group i t k))) (eqb-true i j e) (given_by i t k)
      of _ e = absurd (false≢true e)
