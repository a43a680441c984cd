-- The first record that is held goes along with itself, and it is the first of the first block that has items.
use Rattle.std.proofs.Common.{◌≡◌, ℕ, zero, suc, ◌+◌, ◌<◌, ◌≤◌, ⊎_elim, false, true, List, [], ◌∷◌, ◌++◌, drop, get_or, length, take, refl, sym, ap, ◌∙◌, subst, arith}
use Rattle.std.specs.Prelude.{Some, slice_get}
use Rattle.std.proofs.lemmas.Bool.{both_ways, cases_lt, eq-eqb}
use Rattle.std.proofs.lemmas.Option.{same_Some}
use Rattle.std.specs.declared.collections.VecDeque.{VecDeque}
use Rattle.mp_bins.specs.Bins.{bin_of_key}
use Rattle.mp_bins.specs.Notes.{Notes, owner_at}
use Rattle.mp_model.specs.declared.record.Rec.{Rec}
use Rattle.mp_ordered.specs.Blocks.{items_of}
use Rattle.mp_ordered.proofs.Fronts.{items_from}
use Rattle.mp_route.specs.declared.along.Along.{Along}
use Rattle.mp_route.specs.Along.{FirstGoes, along_with, goes_to}

-- a record goes along with itself
pub goes_with_itself : (notes : Notes) (a : Along) (j bins : ℕ) (r : Rec) (rs : List Rec) → a ≡ along_with notes j bins r → slice_get rs 0 ≡ Some r → FirstGoes notes a rs
goes_with_itself notes a j bins r rs is e = subst (λ (b : Along). FirstGoes notes b rs) (sym is) (at rs e)
  where
    at : (xs : List Rec) → slice_get xs 0 ≡ Some r → FirstGoes notes (along_with notes j bins r) xs
    at [] h = tt
    at (x ∷ xs) h =
        let owner = owner_at notes j (bin_of_key r.key bins) r.time in
        subst (λ (y : Rec). goes_to notes (along_with notes j bins r) y ≡ true) (sym (same_Some x r h)) (eq-eqb owner owner refl)

-- none is looked at where none goes
pub none_looked : (looked chosen : ℕ) → (0 < looked → 0 < chosen) → chosen ≡ 0 → looked ≡ 0
none_looked zero chosen some none = refl
none_looked (suc looked) chosen some none = let m = some (omega arith) in absurd (omega arith)

module _ (notes : Notes) (a : Along) where
  goes_first : (rs : List Rec) → FirstGoes notes a rs → (i : ℕ) (r : Rec) → i < length rs → r ≡ get_or rs i r → i ≡ 0 → goes_to notes a r ≡ true
  goes_first [] h i r l e z = absurd (omega arith)
  goes_first (x ∷ rs) h zero r l e z = subst (λ (y : Rec). goes_to notes a y ≡ true) (sym e) h
  goes_first (x ∷ rs) h (suc i) r l e z = absurd (omega arith)

  -- a record goes if none in front of it does, where the first one goes
  module _ (rs : List Rec) (i before chosen : ℕ) (r : Rec) (inside : i < length rs) (is : r ≡ get_or rs i r) (first : before ≡ 0 → FirstGoes notes a rs) (some : 0 < i → 0 < chosen) (upto : before ≤ chosen) where
    pub first_goes : chosen ≡ 0 → goes_to notes a r ≡ true
    first_goes none = goes_first rs (first (omega arith)) i r inside is (none_looked i chosen some none)

    -- so one in front of it does if it doesn't
    pub other_goes : goes_to notes a r ≡ false → 0 < chosen
    other_goes stays = ⊎_elim (λ (m : 0 < chosen). m) (λ (m : chosen ≤ 0). absurd (both_ways (goes_to notes a r) stays (first_goes (omega arith)))) (cases_lt 0 chosen)

  first_part : (xs ys : List Rec) → FirstGoes notes a (xs ++ ys) → FirstGoes notes a xs
  first_part [] ys h = tt
  first_part (x ∷ xs) ys h = h

  -- so does the first record of a block, where those before it have no items
  pub first_in_block : {Z : Type 0} (bs : List (VecDeque Rec Z)) (at : ℕ) (b : VecDeque Rec Z) → at < length bs → b ≡ get_or bs at b → length (items_of (take at bs)) ≡ 0 → FirstGoes notes a (items_of bs) → FirstGoes notes a b.items
  first_in_block {Z = Z} bs at b inside is none h =
      let from = items_from bs at 0 b inside (omega arith) in
      let whole : items_of bs ≡ (get_or bs at b).items ++ items_of (drop (suc at) bs) = ap (λ (n : ℕ). drop (n + 0) (items_of bs)) (sym none) ∙ from in
      let front = first_part (get_or bs at b).items (items_of (drop (suc at) bs)) (subst (FirstGoes notes a) whole h) in
      subst (λ (c : VecDeque Rec Z). FirstGoes notes a c.items) (sym is) front
