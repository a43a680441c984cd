-- The first line of a file: its front, its time, and what stands behind that.
use Rattle.std.proofs.Common.{◌≡◌, ◌≢◌, ◌<◌, ◌^◌, ◌++◌, ℕ, List, [], ◌∷◌, refl, sym, ap, ◌∙◌, append_assoc}
use Rattle.std.specs.Prelude.{All}
use Rattle.std.specs.Fmt.{decimal}
use Rattle.std.specs.List.{flat_map}
use Rattle.mp_checkpoint_laws.specs.Files.{Format, first_line}
use Rattle.mp_checkpoint_laws.proofs.Prefixes.{number_line}
use Rattle.mp_checkpoint.specs.Firsts.{byte_behind, front_of}
use Rattle.mp_checkpoint.proofs.Numbers.{no_bar}

abbrev values_text : List ℕ → List ℕ
values_text vs = flat_map (λ n. 124 ∷ decimal n) vs

-- what stands behind the byte that ends the time
abbrev pub behind_end : List ℕ → List ℕ → List ℕ
behind_end [] rest = rest
behind_end (v ∷ vs) rest = decimal v ++ (flat_map (λ n. 124 ∷ decimal n) vs ++ 10 ∷ rest)

values_end : (vs rest : List ℕ) → values_text vs ++ 10 ∷ rest ≡ byte_behind vs ∷ behind_end vs rest
values_end [] rest = refl
values_end (v ∷ vs) rest = append_assoc (124 ∷ decimal v) (values_text vs) (10 ∷ rest)

pub first_in_parts : {Cell : Type 0} (f : Format Cell) (t : ℕ) (rest : List ℕ) → first_line f t ++ 10 ∷ rest ≡ front_of f.number ++ (decimal t ++ byte_behind f.values ∷ behind_end f.values rest)
first_in_parts f t rest =
    let number = decimal f.number in
    let time = decimal t in
    let values = values_text f.values in
    let more = time ++ byte_behind f.values ∷ behind_end f.values rest in
    let timed : (time ++ values) ++ 10 ∷ rest ≡ more = append_assoc time values (10 ∷ rest) ∙ ap (λ (l : List ℕ). time ++ l) (values_end f.values rest) in
    let numbered : (number ++ 124 ∷ (time ++ values)) ++ 10 ∷ rest ≡ (number ++ 124 ∷ []) ++ more =
    append_assoc number (124 ∷ (time ++ values)) (10 ∷ rest) ∙ ap (λ (l : List ℕ). number ++ 124 ∷ l) timed ∙ sym (append_assoc number (124 ∷ []) more) in
    ap (λ (l : List ℕ). 75 ∷ 124 ∷ 49 ∷ 124 ∷ 113 ∷ l) numbered

-- the byte that ends a number doesn't stand in it
pub no_end : (t : ℕ) (vs : List ℕ) → t < 2 ^ 64 → All (λ b. b ≢ byte_behind vs) (decimal t)
no_end t [] low = number_line t low
no_end t (v ∷ vs) low = no_bar t low
