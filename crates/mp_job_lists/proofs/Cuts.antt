-- Lists that stand one behind the other.
use Rattle.std.proofs.Common.{◌≡◌, ◌∙◌, ℕ, zero, suc, ◌+◌, ◌-◌, ◌<◌, ◌≤◌, List, [], ◌∷◌, ◌++◌, None, Some, drop, take, get_or, length, map, slice_get, refl, ap, subst, sym, arith}
use Rattle.std.proofs.lemmas.List.{drop-append-le, length-append, length-drop, map-append, take-append-le}
use Rattle.std.proofs.Math.Seq.{drop-append_seam, take-suc}
use Rattle.std.proofs.lemmas.Option.{none-some, same_Some}
use Rattle.mp_job_lists.specs.Cut.{EndAt, cut, start_of}

-- all of a list is taken
take_all : (n : ℕ) (xs : List ℕ) → n ≡ length xs → take n xs ≡ xs
take_all n xs e = ap (λ (m : ℕ). take m xs) e ∙ whole xs
  where
    whole : (xs : List ℕ) → take (length xs) xs ≡ xs
    whole [] = refl
    whole (x ∷ xs) = ap (λ (l : List ℕ). x ∷ l) (whole xs)

-- what stands between two places of a list stands there with more behind it
between : (from end : ℕ) (times more : List ℕ) → from ≤ end → end ≤ length times → take (end - from) (drop from (times ++ more)) ≡ take (end - from) (drop from times)
between from end times more h k =
    ap (take (end - from)) (drop-append-le from times more (omega arith))
    ∙ take-append-le (end - from) (drop from times) more (omega (arith, length-drop from times))

-- with one more list behind them there is one more end
pub cut_more : (from : ℕ) (times more ends : List ℕ) → EndAt from ends (length times) → cut from (times ++ more) (ends ++ length (times ++ more) ∷ []) ≡ cut from times ends ++ more ∷ []
cut_more from times more [] e =
    let rest : drop from (times ++ more) ≡ more = ap (λ (n : ℕ). drop n (times ++ more)) e ∙ drop-append_seam times more in
    let count : length (times ++ more) - from ≡ length more = omega (arith, e, length-append times more) in
    ap (λ (l : List ℕ). l ∷ []) (ap (take (length (times ++ more) - from)) rest ∙ take_all (length (times ++ more) - from) more count)
cut_more from times more (end ∷ ends) h =
    ap (λ (l : List ℕ). l ∷ cut end (times ++ more) (ends ++ length (times ++ more) ∷ [])) (between from end times more h.0 h.1)
    ∙ ap (λ (ls : List (List ℕ)). take (end - from) (drop from times) ∷ ls) (cut_more end times more ends h.2)

pub ends_more : (from : ℕ) (times more ends : List ℕ) → EndAt from ends (length times) → EndAt from (ends ++ length (times ++ more) ∷ []) (length (times ++ more))
ends_more from times more [] e = (omega (arith, e, length-append times more), omega arith, refl)
ends_more from times more (end ∷ ends) h =
    let below = h.1 in
    (h.0, omega (arith, length-append times more), ends_more end times more ends h.2)

-- the list at a place stands between two ends
cut_at : (from : ℕ) (times ends : List ℕ) (i : ℕ) → i < length ends → slice_get (cut from times ends) i ≡ Some (take (get_or ends i 0 - start_of from ends i) (drop (start_of from ends i) times))
cut_at from times [] i l = absurd (omega arith)
cut_at from times (end ∷ ends) zero l = refl
cut_at from times (end ∷ ends) (suc zero) l = cut_at end times ends zero (omega arith)
cut_at from times (end ∷ ends) (suc (suc i)) l = cut_at end times ends (suc i) (omega arith)

-- and both are within the list
pub ends_at : (from : ℕ) (ends : List ℕ) (last i : ℕ) → EndAt from ends last → i < length ends → (start_of from ends i ≤ get_or ends i 0) × (get_or ends i 0 ≤ last)
ends_at from [] last i h l = absurd (omega arith)
ends_at from (end ∷ ends) last zero h l = (h.0, h.1)
ends_at from (end ∷ ends) last (suc zero) h l = ends_at end ends last zero h.2 (omega arith)
ends_at from (end ∷ ends) last (suc (suc i)) h l = ends_at end ends last (suc i) h.2 (omega arith)

-- past the last end there is none
cut_past : (from : ℕ) (times ends : List ℕ) (i : ℕ) → length ends ≤ i → slice_get (cut from times ends) i ≡ None
cut_past from times [] i l = refl
cut_past from times (end ∷ ends) zero l = absurd (omega arith)
cut_past from times (end ∷ ends) (suc i) l = cut_past end times ends i (omega arith)

-- so a list at a place is told
pub told_at : (times ends : List ℕ) (i : ℕ) (list : List ℕ) → i < length ends → slice_get (cut 0 times ends) i ≡ Some list → take (get_or ends i 0 - start_of 0 ends i) (drop (start_of 0 ends i) times) ≡ list
told_at times ends i list l e = same_Some (take (get_or ends i 0 - start_of 0 ends i) (drop (start_of 0 ends i) times)) list (sym (cut_at 0 times ends i l) ∙ e)

pub none_past : (times ends : List ℕ) (i : ℕ) (list : List ℕ) → length ends ≤ i → slice_get (cut 0 times ends) i ≡ Some list → [] ≡ list
none_past times ends i list l e = absurd (none-some list (sym (cut_past 0 times ends i l) ∙ e))

-- with one more item one more of what they give
pub map_next : {X Y : Type 0} (f : X → Y) (xs : List X) (n : ℕ) (x : X) → n < length xs → get_or xs n x ≡ x → map f (take (n + 1) xs) ≡ map f (take n xs) ++ f x ∷ []
map_next f xs n x l e =
    let next : suc n ≡ n + 1 = omega arith in
    let step : map f (take (suc n) xs) ≡ map f (take n xs) ++ f x ∷ [] =
    ap (map f) (take-suc xs n x l) ∙ map-append f (take n xs) (get_or xs n x ∷ []) ∙ ap (λ y. map f (take n xs) ++ f y ∷ []) e in
    subst (λ (k : ℕ). map f (take k xs) ≡ map f (take n xs) ++ f x ∷ []) next step
