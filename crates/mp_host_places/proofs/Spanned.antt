-- The spans of bins, as places come and go.
use Rattle.std.proofs.Common.{◌≡◌, ◌≢◌, ◌⊎◌, ◌==◌, ◌&&◌, ◌+◌, ◌-◌, ◌∙◌, ap, Bool, true, false, ◌||◌, position, ℕ, zero, suc, ◌++◌, ◌<◌, ◌≤◌, Option, Some, List, [], ◌∷◌, add-one, drop, get_or, get_or-set_other, get_or-set_same, length, length-take, refl, slice_get, slice_set, take, inl, inr, subst, sym, arith, ⊎_elim}
use Rattle.std.specs.List.{list_any, swap_remove}
use Rattle.std.proofs.Math.ListN.{length-set}
use Rattle.std.specs.Option.{option_map}
use Rattle.std.proofs.lemmas.Bool.{and_parts, cases_order, eqb-true, or_left}
use Rattle.std.proofs.lemmas.Option.{none-some, slice_get-get_or, slice_get-map}
use Rattle.mp_host_laws.specs.declared.held.Held.{Held}
use Rattle.mp_host_laws.specs.Hosted.{began_before, has_wake_in, is_held_before}
use Rattle.std.proofs.lemmas.List.{drop-map, get_or-map, get_or_default, length-map, map-append, take-map, take_rest}
use Rattle.mp_host_laws.specs.Moving.{last_first}
use Rattle.mp_host_places.specs.declared.spans.Span.{Span}
use Rattle.mp_host_places.specs.FirstWakes.{of_bin}
use Rattle.mp_host_places.specs.Spans.{AreSpans, IsSpanOf, bins_of, nowhere, without}
use Rattle.mp_host_places.proofs.Within.{OnlyWithin, any_within, kept_within, place_within}

-- with one more behind them there are those, and that one
one_behind : {X : Type 0} (xs : List X) (y : X) (i : ℕ) (x : X) → slice_get (xs ++ y ∷ []) i ≡ Some x → (slice_get xs i ≡ Some x) ⊎ ((i ≡ length xs) × (y ≡ x))
one_behind [] y zero x e = inr (refl, cc)
one_behind [] y (suc i) x e = absurd (cc)
one_behind (z ∷ xs) y zero x e = inl e
one_behind (z ∷ xs) y (suc i) x e =
    ⊎_elim
    (λ (f : slice_get xs i ≡ Some x). inl f)
    (λ (f : (i ≡ length xs) × (y ≡ x)). inr (ap suc f.0, f.1))
    (one_behind xs y i x e)

-- all places of one span, but for one place, are places of another
abbrev pub KeepsOthers : ℕ → Span → Span → Type 0
KeepsOthers place old new = (p : ℕ) → p ≢ place → old.from ≤ p → p < old.to → (new.from ≤ p) × (p < new.to)

abbrev pub KeepsAll : Span → Span → Type 0
KeepsAll old new = (p : ℕ) → old.from ≤ p → p < old.to → (new.from ≤ p) × (p < new.to)

-- a span with the place behind all others
pub with_place : (old new : Span) (b place : ℕ) (bins : List ℕ) → length bins ≡ place → IsSpanOf old b bins → (new.from ≤ place) × (place < new.to) → KeepsAll old new → IsSpanOf new b (bins ++ b ∷ [])
with_place old new b place bins count its here others p e =
    ⊎_elim
    (λ (f : slice_get bins p ≡ Some b). let at = its p f in others p at.0 at.1)
    (λ (f : (p ≡ length bins) × (b ≡ b)). let same = f.0 in (omega arith, omega arith))
    (one_behind bins b p b e)

-- the spans once that of a bin has one place more, behind the others
pub one_more : (spans : List Span) (bins : List ℕ) (bin : ℕ) (new : Span) → bin < length spans → AreSpans spans bins → IsSpanOf new bin (bins ++ bin ∷ []) → AreSpans (slice_set spans bin new) (bins ++ bin ∷ [])
one_more spans bins bin new inside are its = record { each = each }
  where
    other : (b : ℕ) → bin ≢ b → IsSpanOf (get_or (slice_set spans bin new) b nowhere) b (bins ++ bin ∷ [])
    other b ne p e =
        let apart : b ≢ bin = λ f. ne (sym f) in
        let same : get_or (slice_set spans bin new) b nowhere ≡ get_or spans b nowhere = rw get_or-set_other refl in
        rw same
        (⊎_elim
        (λ (f : slice_get bins p ≡ Some b). are.each b p f)
        (λ (f : (p ≡ length bins) × (bin ≡ b)). absurd (ne f.1))
        (one_behind bins bin p b e))

    each : (b : ℕ) → IsSpanOf (get_or (slice_set spans bin new) b nowhere) b (bins ++ bin ∷ [])
    each b =
        ⊎_elim
        (λ (e : bin ≡ b). subst (λ (n : ℕ). IsSpanOf (get_or (slice_set spans bin new) n nowhere) n (bins ++ bin ∷ [])) e (rw get_or-set_same its))
        (λ (f : (bin < b) ⊎ (b < bin)). other b (⊎_elim (λ (l : bin < b). λ e. absurd (omega arith)) (λ (l : b < bin). λ e. absurd (omega arith)) f))
        (cases_order bin b)

-- a span as it is of states in front of a place, and from a place on
in_front : {X : Type 0} (n : ℕ) (xs : List X) (i : ℕ) (x : X) → slice_get (take n xs) i ≡ Some x → slice_get xs i ≡ Some x
in_front zero xs i x e = absurd (none-some x e)
in_front (suc n) [] i x e = e
in_front (suc n) (y ∷ xs) zero x e = e
in_front (suc n) (y ∷ xs) (suc i) x e = in_front n xs i x e

-- where there is an item there is a place
pub place_inside : {X : Type 0} (xs : List X) (i : ℕ) (x : X) → slice_get xs i ≡ Some x → i < length xs
place_inside [] i x e = absurd (cc)
place_inside (y ∷ xs) zero x e = omega arith
place_inside (y ∷ xs) (suc i) x e = let l = place_inside xs i x e in omega arith

-- what stands at a place once one is out stood there, or was the last and is where that one was
left_is : {X : Type 0} (at last : ℕ) (xs : List X) (p : ℕ) (x : X) → at < length xs → length xs ≡ suc last → slice_get (take at xs ++ last_first (drop (suc at) xs)) p ≡ Some x
    → (p < last) × (((p ≡ at) × (slice_get xs last ≡ Some x)) ⊎ ((p ≢ at) × (slice_get xs p ≡ Some x)))
left_is at last [] p x inside count e = absurd (omega arith)
left_is zero last (y ∷ []) p x inside count e = absurd (none-some x e)
left_is zero last (y ∷ z ∷ zs) zero x inside count e =
    let same : last ≡ suc (length zs) = omega arith in
    (omega arith, inl (refl, rw same (slice_get-get_or (z ∷ zs) (length zs) z (omega arith) ∙ e)))
left_is zero last (y ∷ z ∷ zs) (suc p) x inside count e =
    let there = in_front (length zs) (z ∷ zs) p x e in
    let below = place_inside (take (length zs) (z ∷ zs)) p x e in
    let few = length-take (length zs) (z ∷ zs) in
    (omega arith, inr ((λ f. absurd (omega arith)), there))
left_is (suc at) zero (y ∷ ys) p x inside count e = absurd (omega arith)
left_is (suc at) (suc last) (y ∷ ys) zero x inside count e = (omega arith, inr ((λ f. absurd (omega arith)), e))
left_is (suc at) (suc last) (y ∷ ys) (suc p) x inside count e =
    let r = left_is at last ys p x (omega arith) (omega arith) e in
    let l = r.0 in (
      omega arith,
      ⊎_elim
          (λ (f : (p ≡ at) × (slice_get ys last ≡ Some x)). inl (ap suc f.0, f.1))
          (λ (f : (p ≢ at) × (slice_get ys p ≡ Some x)). inr ((λ g. f.0 (omega arith)), f.1))
          r.1,
    )

-- The spans as one place is forgotten, and as the last of all is that place

module _ (bins : List ℕ) (spans : List Span) (place last out moved : ℕ) (inside : out < length spans) (bound : place ≤ last) (count : length bins ≡ last + 1)
    (of_out : slice_get bins place ≡ Some out) (of_moved : slice_get bins last ≡ Some moved) (are : AreSpans spans bins) (left : Span) (narrower : KeepsOthers place (get_or spans out nowhere) left) where
  -- all other places are within their spans
  others_there : (b p : ℕ) → p ≢ place → slice_get bins p ≡ Some b → ((get_or (slice_set spans out left) b nowhere).from ≤ p) × (p < (get_or (slice_set spans out left) b nowhere).to)
  others_there b p apart e =
      ⊎_elim
      (λ (f : out ≡ b).
      let at = are.each out p (e ∙ ap Some (sym f)) in
      subst (λ (s : Span). (s.from ≤ p) × (p < s.to)) (sym (ap (λ (c : ℕ). get_or (slice_set spans out left) c nowhere) (sym f) ∙ get_or-set_same spans out left nowhere inside)) (narrower p apart at.0 at.1))
      (λ (f : (out < b) ⊎ (b < out)).
      let ne : b ≢ out = ⊎_elim (λ (l : out < b). λ g. absurd (omega arith)) (λ (l : b < out). λ g. absurd (omega arith)) f in
      subst (λ (s : Span). (s.from ≤ p) × (p < s.to)) (sym (get_or-set_other spans out b left nowhere ne)) (are.each b p e))
      (cases_order out b)

  stands : (p b : ℕ) → slice_get (without place bins) p ≡ Some b → (p < last) × (((p ≡ place) × (slice_get bins last ≡ Some b)) ⊎ ((p ≢ place) × (slice_get bins p ≡ Some b)))
  stands p b e = left_is place last bins p b (omega arith) (omega arith) (rw add-one at e)

  pub last_is_out : last ≤ place → AreSpans (slice_set spans out left) (without place bins)
  last_is_out l = record {
    each = λ b p e.
        let r = stands p b e in
        let below = r.0 in
        others_there b p (λ f. absurd (omega arith)) (⊎_elim (λ (f : (p ≡ place) × _). let same = f.0 in absurd (omega arith)) (λ (f : (p ≢ place) × (slice_get bins p ≡ Some b)). f.1) r.1);
  }

  module _ (there : moved < length spans) (short wide : Span) (shorter : KeepsOthers last (get_or (slice_set spans out left) moved nowhere) short) (here : (wide.from ≤ place) × (place < wide.to)) (wider : KeepsAll short wide) where
    abbrev filled : List Span
    filled = slice_set (slice_set spans out left) moved wide

    still_there : moved < length (slice_set spans out left)
    still_there = let same = length-set spans out left in omega arith

    its_wide : (b : ℕ) → moved ≡ b → get_or filled b nowhere ≡ wide
    its_wide b f = ap (λ (c : ℕ). get_or filled c nowhere) (sym f) ∙ get_or-set_same (slice_set spans out left) moved wide nowhere still_there

    pub place_is_filled : AreSpans filled (without place bins)
    place_is_filled = record { each = each }
      where
        of_its_bin : (b p : ℕ) → moved ≡ b → p < last → ((p ≡ place) × (slice_get bins last ≡ Some b)) ⊎ ((p ≢ place) × (slice_get bins p ≡ Some b)) → (wide.from ≤ p) × (p < wide.to)
        of_its_bin b p same below r =
            ⊎_elim
            (λ (f : (p ≡ place) × (slice_get bins last ≡ Some b)). subst (λ (k : ℕ). (wide.from ≤ k) × (k < wide.to)) (sym f.0) here)
            (λ (f : (p ≢ place) × (slice_get bins p ≡ Some b)).
            let at = others_there moved p f.0 (f.1 ∙ ap Some (sym same)) in
            let kept = shorter p (λ g. absurd (omega arith)) at.0 at.1 in
            wider p kept.0 kept.1)
            r

        each : (b : ℕ) → IsSpanOf (get_or filled b nowhere) b (without place bins)
        each b p e =
            let r = stands p b e in
            ⊎_elim
            (λ (f : moved ≡ b). subst (λ (s : Span). (s.from ≤ p) × (p < s.to)) (sym (its_wide b f)) (of_its_bin b p f r.0 r.1))
            (λ (f : (moved < b) ⊎ (b < moved)).
            let ne : b ≢ moved = ⊎_elim (λ (l : moved < b). λ g. absurd (omega arith)) (λ (l : b < moved). λ g. absurd (omega arith)) f in
            subst (λ (s : Span). (s.from ≤ p) × (p < s.to)) (sym (get_or-set_other (slice_set spans out left) moved b wide nowhere ne))
            (⊎_elim
            (λ (g : (p ≡ place) × (slice_get bins last ≡ Some b)). absurd (ne (is_some b moved (sym g.1 ∙ of_moved))))
            (λ (g : (p ≢ place) × (slice_get bins p ≡ Some b)). others_there b p g.0 g.1)
            r.1))
            (cases_order moved b)
          where
            is_some : (a c : ℕ) → ◌≡◌ {A = Option ℕ} (Some a) (Some c) → a ≡ c
            is_some a c e = cc

-- The list once one is out, as `swap_remove` says it
last_swapped : {X : Type 0} (x y : X) (ys : List X) (at : ℕ) → at < suc (length ys) → take (length ys) (slice_set (y ∷ ys) at (get_or (y ∷ ys) (length ys) x)) ≡ take at (y ∷ ys) ++ last_first (drop (suc at) (y ∷ ys))
last_swapped x y [] zero l = refl
last_swapped x y (z ∷ zs) zero l = ap (λ (v : _). v ∷ take (length zs) (z ∷ zs)) (get_or_default (z ∷ zs) (length zs) x z (omega arith))
last_swapped x y [] (suc at) l = absurd (omega arith)
last_swapped x y (z ∷ zs) (suc at) l = ap (λ (vs : _). y ∷ vs) (last_swapped x z zs at (omega arith))

pub swapped_out : {X : Type 0} (xs : List X) (at : ℕ) (x : X) → at < length xs → swap_remove xs at x ≡ without at xs
swapped_out [] at x l = absurd (omega arith)
swapped_out (y ∷ ys) at x l =
    let one_less : suc (length ys) - 1 ≡ length ys = omega arith in
    rw (one_less, add-one) (last_swapped x y ys at l)

-- the bins of states once one is out, and once one is behind them
module _ {Cell : Type 0} where
  bins_last_first : (held : List (Held Cell)) → bins_of (last_first held) ≡ last_first (bins_of held)
  bins_last_first [] = refl
  bins_last_first (s ∷ ss) = rw (length-map ss (λ (r : Held Cell). r.bin), get_or-map (λ (r : Held Cell). r.bin) (s ∷ ss) (length ss) s s.bin (omega arith), take-map (λ (r : Held Cell). r.bin) (length ss) (s ∷ ss)) refl

  pub bins_without : (at : ℕ) (held : List (Held Cell)) → bins_of (without at held) ≡ without at (bins_of held)
  bins_without at held =
      map-append (λ (s : Held Cell). s.bin) (take at held) (last_first (drop (at + 1) held))
      ∙ rw (bins_last_first (drop (at + 1) held), take-map (λ (s : Held Cell). s.bin) at held, drop-map (λ (s : Held Cell). s.bin) (at + 1) held) refl

  pub bins_with : (held : List (Held Cell)) (one : Held Cell) → bins_of (held ++ one ∷ []) ≡ bins_of held ++ one.bin ∷ []
  bins_with held one = map-append (λ (s : Held Cell). s.bin) held (one ∷ [])

module _ {Cell : Type 0} (span : Span) (b n : ℕ) (held : List (Held Cell)) where
  pub span_in_front : IsSpanOf span b (bins_of held) → IsSpanOf span b (bins_of (take n held))
  span_in_front its p e = its p (in_front n (bins_of held) p b (ap (λ (bins : List ℕ). slice_get bins p) (take-map (λ (s : Held Cell). s.bin) n held) ∙ e))

  pub span_behind : IsSpanOf span b (drop n (bins_of held)) → IsSpanOf span b (bins_of (take (length held - n) (drop n held)))
  span_behind its p e = its p (ap (λ (bins : List ℕ). slice_get bins p) same ∙ e)
    where
      same : drop n (bins_of held) ≡ bins_of (take (length held - n) (drop n held))
      same = drop-map (λ (s : Held Cell). s.bin) n held ∙ sym (ap bins_of (take_rest held n))

module _ {Cell : Type 0} (b : ℕ) (held : List (Held Cell)) (part : Span) (range : part.from ≤ part.to) (its : IsSpanOf part b (bins_of held)) where
  -- states of the bin stand nowhere else
  only_there : (p : Held Cell → Bool) → ((s : Held Cell) → p s ≡ true → s.bin ≡ b) → OnlyWithin p part.from (part.to - part.from) held
  only_there p own i s e passes =
      let bin : slice_get (bins_of held) i ≡ Some b = slice_get-map (λ (s : Held Cell). s.bin) held i ∙ (ap (option_map (λ (s : Held Cell). s.bin)) e ∙ ap Some (own s passes)) in
      let at = its i bin in
      (at.0, omega arith)

  own_before : (t : ℕ) (s : Held Cell) → is_held_before b t s ≡ true → s.bin ≡ b
  own_before t s e = eqb-true s.bin b (and_parts (s.bin == b) (began_before t s.since) e).0

  own_wake : (t k : ℕ) (s : Held Cell) → (s.bin == b && has_wake_in t k s) ≡ true → s.bin ≡ b
  own_wake t k s e = eqb-true s.bin b (and_parts (s.bin == b) (has_wake_in t k s) e).0

  -- so the first that began before a time is the first there
  pub first_there : (t : ℕ) → option_map (λ k. part.from + k) (position (is_held_before b t) (take (part.to - part.from) (drop part.from held))) ≡ position (is_held_before b t) held
  first_there t = place_within (is_held_before b t) held part.from (part.to - part.from) (only_there (is_held_before b t) (own_before t))

  -- and a wake is one of a state there
  pub woken_there : (t k : ℕ) → list_any (λ s. s.bin == b && has_wake_in t k s) (take (part.to - part.from) (drop part.from held)) ≡ list_any (λ s. s.bin == b && has_wake_in t k s) held
  woken_there t k = any_within (λ s. s.bin == b && has_wake_in t k s) held part.from (part.to - part.from) (only_there (λ s. s.bin == b && has_wake_in t k s) (own_wake t k))

  -- and so are its states
  pub all_there : of_bin b (take (part.to - part.from) (drop part.from held)) ≡ of_bin b held
  all_there = kept_within (λ s. s.bin == b) held part.from (part.to - part.from) (only_there (λ s. s.bin == b) (λ s e. eqb-true s.bin b e))

-- one of two tests
pub by_first : (r a b : Bool) → r ≡ a → r ≡ true → r ≡ (a || b)
by_first r a b e f = f ∙ sym (or_left a b (sym e ∙ f))

pub by_second : (r s a b : Bool) → r ≡ a → r ≡ false → s ≡ b → s ≡ (a || b)
by_second r s a b e f g = rw (← e, f) g
