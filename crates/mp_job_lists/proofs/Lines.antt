-- What is left of an answer behind a line.
use Rattle.std.proofs.Common.{◌≡◌, ◌∙◌, ◌↔◌, ℕ, nat_eq, true, false, IsTrue, List, ◌++◌, length, take, drop, refl, sym, ap}
use Rattle.std.specs.Bool.{Decides}
use Rattle.std.specs.Cmp.Lexicographic.{pointwise}
use Rattle.std.proofs.lemmas.Bool.{both_ways, false≢true}
use Rattle.std.proofs.lemmas.Bool.Decides.{Decides-eqb}
use Rattle.std.proofs.lemmas.Slice.Eq.{slice_eq-Decides}
use Rattle.std.proofs.lemmas.List.{append_cancel_left, take-append-drop}
use Rattle.std.proofs.Math.Seq.{take-append_seam}

-- where it begins with the line, the rest is what follows
pub behind : (rest line after more : List ℕ) → take (length line) rest ≡ line → after ≡ drop (length line) rest → (rest ≡ line ++ more) ↔ (after ≡ more)
behind rest line after more front back =
    let whole : rest ≡ line ++ after = sym (take-append-drop (length line) rest) ∙ ap (λ (l : List ℕ). l ++ drop (length line) rest) front ∙ ap (λ (l : List ℕ). line ++ l) (sym back) in
    ((λ e. append_cancel_left line after more (sym whole ∙ e)), (λ e. whole ∙ ap (λ (l : List ℕ). line ++ l) e))

-- and else it is nothing that begins with it
pub begins : (rest line more : List ℕ) → rest ≡ line ++ more → take (length line) rest ≡ line
begins rest line more e = ap (take (length line)) e ∙ take-append_seam line more

same_bytes : (xs ys : List ℕ) → Decides (pointwise nat_eq xs ys) (xs ≡ ys)
same_bytes xs ys = slice_eq-Decides Decides-eqb xs ys (pointwise nat_eq xs ys) refl

module _ (whole all rest line more left : List ℕ) (so_far : (whole ≡ all) ↔ (rest ≡ left)) (next : left ≡ line ++ more) where
  -- where the rest begins with the next line, what follows has to be the other lines
  pub goes_on : (after : List ℕ) → pointwise nat_eq (take (length line) rest) line ≡ true → after ≡ drop (length line) rest → (whole ≡ all) ↔ (after ≡ more)
  goes_on after same back =
      let h = behind rest line after more ((same_bytes (take (length line) rest) line).0 same) back in
      ((λ e. h.0 (so_far.0 e ∙ next)), (λ e. so_far.1 (h.1 e ∙ sym next)))

  -- where it doesn't, the whole is another
  pub differs : pointwise nat_eq (take (length line) rest) line ≡ false → IsTrue false ↔ (whole ≡ all)
  differs other = (
    (λ t. absurd (false≢true t)),
    (λ e. absurd (both_ways (pointwise nat_eq (take (length line) rest) line) other ((same_bytes (take (length line) rest) line).1 (begins rest line more (so_far.0 e ∙ next))))),
  )
