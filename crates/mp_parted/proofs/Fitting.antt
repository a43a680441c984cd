-- The names of a sound outline fit its shape.
use Rattle.std.proofs.Common.{◌≡◌, ℕ, zero, suc, ◌<◌, List, [], ◌∷◌, All, get_or, length, map, sym, subst, true, arith}
use Rattle.std.proofs.lemmas.Bool.{false≢true, eqb-true}
use Rattle.mp_names.specs.declared.names.Name.{Name}
use Rattle.mp_names.specs.declared.names.Name.TheVariants.{Rec, Packet, Row, Group}
use Rattle.mp_names.specs.Names.{In, ascending, is_group, is_rec, is_row}
use Rattle.mp_names.specs.Outlines.{Outline, OutlineIsSound, ctrl_names, due_groups, groups_of, is_moving, packets_of}
use Rattle.mp_names.proofs.Lists.{In_filter, In_here, In_later}
use Rattle.mp_names.proofs.Owners.{move_in_shape}
use Rattle.mp_names.proofs.Listed.{ctrl_is, due_group, groups_are, packet_is}
use Rattle.mp_parted.specs.Fitting.{FitsShape, IsGroupInShape}

-- what is at a place of a list stands in it
pub In-get_or : (xs : List Name) (k : ℕ) (d : Name) → k < length xs → In (get_or xs k d) xs
In-get_or [] k d l = absurd (omega arith)
In-get_or (x ∷ xs) zero d l = In_here x xs
In-get_or (x ∷ xs) (suc k) d l = In_later (get_or xs k d) x xs (In-get_or xs k d (omega arith))

-- what holds of all that stands in a list holds at each place
pub All-from_In : (P : Name → Type 0) (xs : List Name) → ((x : Name) → In x xs → P x) → All P xs
All-from_In P xs h = λ k d l. h (get_or xs k d) (In-get_or xs k d l)

module _ (o : Outline) (ok : OutlineIsSound o) where
  pub records_fit : (j : ℕ) → All (FitsShape o) (o.records j)
  records_fit j = All-from_In (FitsShape o) (o.records j) (λ x i. let r = ok.records_are j x i in form x r.0 r.1)
    where
      form : (x : Name) → j < o.stages → is_rec j x ≡ true → FitsShape o x
      form (Rec i t k g) l e = subst (λ (n : ℕ). n < o.stages) (sym (eqb-true i j e)) l
      form _ l e = absurd (false≢true e)

  pub rows_fit : All (FitsShape o) o.rows
  rows_fit = All-from_In (FitsShape o) o.rows (λ x i. form x (ok.rows_are x i))
    where
      form : (x : Name) → is_row x ≡ true → FitsShape o x
      form (Row t g) e = tt
      form _ e = absurd (false≢true e)

  pub packet_fits : (x : Name) → In x (packets_of o) → FitsShape o x
  unfolding packets_of
  packet_fits x i = form x i (In_filter (is_moving o) x (ascending (map (λ c. Packet c.stage c.bin c.time) o.controls)) i).1
    where
      form : (x : Name) → In x (packets_of o) → is_moving o x ≡ true → FitsShape o x
      form (Packet j b t) h e = move_in_shape o ok j b t (packet_is o j b t h)
      form _ h e = absurd (false≢true e)

  pub packets_fit : All (FitsShape o) (packets_of o)
  packets_fit = All-from_In (FitsShape o) (packets_of o) packet_fits

  pub ctrl_names_fit : All (FitsShape o) (ctrl_names o)
  ctrl_names_fit = All-from_In (FitsShape o) (ctrl_names o) (λ x i. let r = ctrl_is o x i in subst (FitsShape o) r.4 r.3)

  group_fits : (j : ℕ) (x : Name) → In x (groups_of o j) → IsGroupInShape o x
  group_fits j x i = let r = groups_are o ok j x i in form x r.0 r.1
    where
      form : (x : Name) → j < o.stages → is_group j x ≡ true → IsGroupInShape o x
      form (Group i t k) l e = subst (λ (n : ℕ). n < o.stages) (sym (eqb-true i j e)) l
      form _ l e = absurd (false≢true e)

  pub groups_fit : (j : ℕ) → All (IsGroupInShape o) (groups_of o j)
  groups_fit j = All-from_In (IsGroupInShape o) (groups_of o j) (group_fits j)

  pub due_groups_fit : (j : ℕ) → All (IsGroupInShape o) (due_groups o j)
  due_groups_fit j = All-from_In (IsGroupInShape o) (due_groups o j) (λ x i. group_fits j x (due_group o j x i).0)
