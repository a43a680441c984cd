-- Cells by key, in the order of a list or by key: they are the same ones where each key stands once.
use Rattle.std.proofs.Common.{◌≡◌, ◌||◌, ℕ, Bool, arith, false, nat_eq, List, [], ◌∷◌, ◌++◌, IsPermutation, append-nil, append_assoc, map, refl, sym, ap, ◌∙◌, subst}
use Rattle.std.proofs.lemmas.Bool.{false≢true}
use Rattle.std.proofs.lemmas.List.Sorted.{IsPermutation-append_left, IsPermutation-append_right, IsPermutation-cons, IsPermutation-map, IsPermutation-middle, IsPermutation-refl, IsPermutation-sym, IsPermutation-trans, list_any-IsPermutation}
use Rattle.std.proofs.lemmas.Map.Keys.{IsDistinct-head, IsDistinct-tail}
use Rattle.std.specs.BTreeMap.{insert_entry}
use Rattle.std.specs.List.{AllByRecursion, IsDistinct, flat_map, list_any}
use Rattle.std.proofs.lemmas.List.Concat.{flat_map-append}
use Rattle.std.specs.Prelude.{Err, Ok, OnOk, Result}
use Rattle.std.specs.Ordering.{is_eq, match_ordering, nat_cmp}
use Rattle.std.specs.declared.cmp.Ordering.{Ordering}
use Rattle.std.specs.declared.cmp.Ordering.TheVariants.{Less, Equal, Greater}
use Rattle.mp_msg.specs.States.{by_key}

module _ {Cell : Type 0} (k : ℕ) (v : Cell) where
  -- an entry of this key stands there
  abbrev pub has_key : List (ℕ × Cell) → Bool
  has_key es = list_any (λ e. nat_eq k e.0) es

  placed : (e : ℕ × Cell) (es fs : List (ℕ × Cell)) (r : Ordering) → is_eq r ≡ nat_eq k e.0 → (nat_eq k e.0 || has_key es) ≡ false → (has_key es ≡ false → IsPermutation ((k, v) ∷ es) fs)
      → IsPermutation ((k, v) ∷ e ∷ es) (match_ordering r ((k, v) ∷ e ∷ es) ((e.0, v) ∷ es) (e ∷ fs))
  placed e es fs Less t new rest = IsPermutation-refl ((k, v) ∷ e ∷ es)
  placed e es fs Equal t new rest = absurd (false≢true (sym new ∙ ap (λ (b : Bool). b || has_key es) (sym t)))
  placed e es fs Greater t new rest =
      let others : has_key es ≡ false = ap (λ (b : Bool). b || has_key es) t ∙ new in
      IsPermutation-trans ((k, v) ∷ e ∷ es) (e ∷ (k, v) ∷ es) (e ∷ fs)
      (IsPermutation-sym (e ∷ (k, v) ∷ es) ((k, v) ∷ e ∷ es) (IsPermutation-middle (e ∷ []) (k, v) es))
      (IsPermutation-cons e ((k, v) ∷ es) fs (rest others))

  test_is : (l : ℕ) → is_eq (nat_cmp k l) ≡ nat_eq k l
  test_is l = grind arith

  -- an entry of a new key, put at its place, is one more
  pub permuted-insert_entry : (es : List (ℕ × Cell)) → has_key es ≡ false → IsPermutation ((k, v) ∷ es) (insert_entry nat_cmp es k v)
  permuted-insert_entry [] new = IsPermutation-refl ((k, v) ∷ [])
  permuted-insert_entry (e ∷ es) new = placed e es (insert_entry nat_cmp es k v) (nat_cmp k e.0) (test_is e.0) new (λ n. permuted-insert_entry es n)

module _ {Cell : Type 0} where
  -- a key that differs from all others doesn't stand there
  new_key : (k : ℕ) (v : Cell) (es : List (ℕ × Cell)) → AllByRecursion (λ l. nat_eq k l ≡ false) (map (λ e. e.0) es) → has_key k v es ≡ false
  new_key k v [] h = refl
  new_key k v (e ∷ es) h = ap (λ (b : Bool). b || has_key k v es) h.0 ∙ new_key k v es h.1

  by_key_has : (k : ℕ) (v : Cell) (es fs : List (ℕ × Cell)) → IsPermutation es fs → has_key k v es ≡ false → has_key k v fs ≡ false
  by_key_has k v es fs moved new = sym (list_any-IsPermutation (λ (e : ℕ × Cell). nat_eq k e.0) es fs moved) ∙ new

  -- by key they are the same entries
  pub permuted-by_key : (es : List (ℕ × Cell)) → IsDistinct nat_eq (map (λ e. e.0) es) → IsPermutation es (by_key es)
  permuted-by_key [] h = IsPermutation-refl []
  permuted-by_key (e ∷ es) h =
      let keys = map (λ (d : ℕ × Cell). d.0) es in
      let rest = permuted-by_key es (IsDistinct-tail nat_eq e.0 keys h) in
      let new = by_key_has e.0 e.1 es (by_key es) rest (new_key e.0 e.1 es (IsDistinct-head nat_eq e.0 keys h)) in
      IsPermutation-trans (e ∷ es) (e ∷ by_key es) (by_key (e ∷ es))
      (IsPermutation-cons e es (by_key es) rest)
      (permuted-insert_entry e.0 e.1 (by_key es) new)

module _ {X Y : Type 0} where
  -- what was made of elements of which none is left is made of all
  pub all_made : (make : X → Y) (before now : List Y) (all left : List X) → left ≡ [] → now ++ map make left ≡ before ++ map make all → now ≡ before ++ map make all
  all_made make before now all left none is = sym (append-nil now) ∙ ap (λ (xs : List X). now ++ map make xs) (sym none) ∙ is

  -- and the same in another order
  pub made_reordered : (make : X → Y) (before now : List Y) (all others : List X) → now ≡ before ++ map make all → IsPermutation all others → IsPermutation (before ++ map make others) now
  made_reordered make before now all others is moved =
      subst (IsPermutation (before ++ map make others)) (sym is) (IsPermutation-append_right before (map make others) (map make all) (IsPermutation-map make others all (IsPermutation-sym all others moved)))

-- what holds anyway holds where a call succeeds
pub on_ok : {T E : Type 0} (r : Result T E) (P : Type 0) → P → OnOk r P
on_ok (Ok x) P h = h
on_ok (Err e) P h = tt

module _ {X Y : Type 0} (f : X → List Y) where
  flat_map-push : (xs : List X) (x : X) → flat_map f (xs ++ x ∷ []) ≡ flat_map f xs ++ f x
  flat_map-push xs x = flat_map-append f xs (x ∷ []) ∙ ap (λ (ys : List Y). flat_map f xs ++ ys) (append-nil (f x))

  -- what one more element makes is added to what the first ones made
  pub one_more : (before now new : List Y) (xs : List X) (x : X) → IsPermutation (before ++ flat_map f xs) now → IsPermutation (now ++ f x) new → IsPermutation (before ++ flat_map f (xs ++ x ∷ [])) new
  one_more before now new xs x first more =
      let same : (before ++ flat_map f xs) ++ f x ≡ before ++ flat_map f (xs ++ x ∷ []) = append_assoc before (flat_map f xs) (f x) ∙ ap (λ (ys : List Y). before ++ ys) (sym (flat_map-push xs x)) in
      subst (λ (ys : List Y). IsPermutation ys new) same (IsPermutation-trans ((before ++ flat_map f xs) ++ f x) (now ++ f x) new (IsPermutation-append_left (f x) (before ++ flat_map f xs) now first) more)

-- and so is what several elements make
pub some_more : {X Y Z : Type 0} (f : X → List Y) (parts : Z → List X) (now new : List Y) (zs : List Z) (z : Z)
    → IsPermutation (flat_map f (flat_map parts zs)) now → IsPermutation (now ++ flat_map f (parts z)) new → IsPermutation (flat_map f (flat_map parts (zs ++ z ∷ []))) new
some_more {X} {Y} f parts now new zs z first more =
    let front = flat_map f (flat_map parts zs) in
    let same : front ++ flat_map f (parts z) ≡ flat_map f (flat_map parts (zs ++ z ∷ [])) = sym (flat_map-append f (flat_map parts zs) (parts z)) ∙ ap (flat_map f) (sym (flat_map-push parts zs z)) in
    subst (λ (ys : List Y). IsPermutation ys new) same (IsPermutation-trans (front ++ flat_map f (parts z)) (now ++ flat_map f (parts z)) new (IsPermutation-append_left (flat_map f (parts z)) front now first) more)
