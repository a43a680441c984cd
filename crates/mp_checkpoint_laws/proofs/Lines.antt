-- Lines without line feeds, each ended by one: such a text tells its lines, and a text that goes on tells that they go on.
use Rattle.std.proofs.Common.{◌≡◌, ◌≢◌, ◌++◌, ℕ, List, [], ◌∷◌, get_or, length, length-append, refl, sym, ap, ◌∙◌, subst, append_assoc, append-nil, arith}
use Rattle.std.specs.Prelude.{All}
use Rattle.std.proofs.lemmas.List.Elements.{All-head, All-tail}
use Rattle.mp_checkpoint_laws.specs.Files.{unlines}

-- no line feed stands in the line
abbrev pub IsLine : List ℕ → Type 0
IsLine line = All (λ b. b ≢ 10) line

abbrev pub AreLines : List (List ℕ) → Type 0
AreLines [] = Unit {0}
AreLines (l ∷ ls) = IsLine l × AreLines ls

-- what stands in front of the first byte of a kind, where it stands in neither part
pub cut_at : (sep : ℕ) (l m x y : List ℕ) → All (λ b. b ≢ sep) l → All (λ b. b ≢ sep) m → l ++ sep ∷ x ≡ m ++ sep ∷ y → (l ≡ m) × (x ≡ y)
cut_at sep [] [] x y h k e = (refl, cc)
cut_at sep [] (b ∷ m) x y h k e = let f : b ≡ sep = cc in absurd (All-head (λ (c : ℕ). c ≢ sep) b m k f)
cut_at sep (a ∷ l) [] x y h k e = let f : a ≡ sep = cc in absurd (All-head (λ (c : ℕ). c ≢ sep) a l h f)
cut_at sep (a ∷ l) (b ∷ m) x y h k e =
    let first : a ≡ b = cc in
    let more : l ++ sep ∷ x ≡ m ++ sep ∷ y = cc in
    let rest = cut_at sep l m x y (All-tail (λ (c : ℕ). c ≢ sep) a l h) (All-tail (λ (c : ℕ). c ≢ sep) b m k) more in
    ((λ i. first i ∷ rest.0 i), rest.1)

-- the first line ends at the first line feed
pub cut : (l m x y : List ℕ) → IsLine l → IsLine m → l ++ 10 ∷ x ≡ m ++ 10 ∷ y → (l ≡ m) × (x ≡ y)
cut l m x y h k e = cut_at 10 l m x y h k e

pub ended : (l x : List ℕ) → (l ++ 10 ∷ []) ++ x ≡ l ++ 10 ∷ x
ended l x = append_assoc l (10 ∷ []) x

-- where a text goes on after these lines its lines do
pub lines_go_on : (ms ls : List (List ℕ)) (rest : List ℕ) → AreLines ms → AreLines ls → unlines ms ++ rest ≡ unlines ls → (ns : List (List ℕ)) × (ls ≡ ms ++ ns) × (rest ≡ unlines ns)
lines_go_on [] ls rest h k e = (ls, refl, e)
lines_go_on (m ∷ ms) [] rest h k e =
    let a : length ((m ++ 10 ∷ []) ++ (unlines ms ++ rest)) ≡ 0 = ap length (sym (append_assoc (m ++ 10 ∷ []) (unlines ms) rest) ∙ e) in
    absurd (omega (arith, a, length-append (m ++ 10 ∷ []) (unlines ms ++ rest), length-append m (10 ∷ [])))
lines_go_on (m ∷ ms) (l ∷ ls) rest h k e =
    let a : m ++ 10 ∷ (unlines ms ++ rest) ≡ l ++ 10 ∷ unlines ls = sym (ended m (unlines ms ++ rest)) ∙ sym (append_assoc (m ++ 10 ∷ []) (unlines ms) rest) ∙ e ∙ ended l (unlines ls) in
    let b = cut m l (unlines ms ++ rest) (unlines ls) h.0 k.0 a in
    let d = lines_go_on ms ls rest h.1 k.1 b.1 in
    (d.0, (λ i. sym b.0 i ∷ d.1 i), d.2)

-- Lines of which the last alone begins with an E

abbrev pub BeginsWithE : List ℕ → Type 0
BeginsWithE line = get_or line 0 0 ≡ 69

abbrev pub NoneBegins : List (List ℕ) → Type 0
NoneBegins [] = Unit {0}
NoneBegins (l ∷ ls) = (BeginsWithE l → ⊥) × NoneBegins ls

-- so others cannot go on after such a line
pub end_is_last : (front others ns : List (List ℕ)) (end last : List ℕ) → NoneBegins front → BeginsWithE last → NoneBegins others → BeginsWithE end → front ++ end ∷ [] ≡ (others ++ last ∷ []) ++ ns → ns ≡ []
end_is_last [] [] ns end last h k o b e = sym cc
end_is_last [] (m ∷ ms) ns end last h k o b e = let f : end ≡ m = cc in absurd (o.0 (subst BeginsWithE f b))
end_is_last (l ∷ ls) [] ns end last h k o b e = let f : l ≡ last = cc in absurd (h.0 (subst BeginsWithE (sym f) k))
end_is_last (l ∷ ls) (m ∷ ms) ns end last h k o b e = let more : ls ++ end ∷ [] ≡ (ms ++ last ∷ []) ++ ns = cc in end_is_last ls ms ns end last h.1 k o.1 b more

-- no lines have no text
no_lines : (ns : List (List ℕ)) → [] ≡ unlines ns → ns ≡ []
no_lines [] e = refl
no_lines (n ∷ ns) e = let a : 0 ≡ length ((n ++ 10 ∷ []) ++ unlines ns) = ap length e in absurd (omega (arith, a, length-append (n ++ 10 ∷ []) (unlines ns), length-append n (10 ∷ [])))

-- a text tells its lines
pub same_lines : (ms ls : List (List ℕ)) → AreLines ms → AreLines ls → unlines ms ≡ unlines ls → ms ≡ ls
same_lines ms ls h k e =
    let on = lines_go_on ms ls [] h k (append-nil (unlines ms) ∙ e) in
    sym (on.1 ∙ ap (λ (ns : List (List ℕ)). ms ++ ns) (no_lines on.0 on.2) ∙ append-nil ms)

-- without the last
pub same_fronts : {X : Type 0} (xs ys : List X) (x y : X) → xs ++ x ∷ [] ≡ ys ++ y ∷ [] → xs ≡ ys
same_fronts [] [] x y e = refl
same_fronts {X} [] (b ∷ ys) x y e = let a : length ([] ++ x ∷ []) ≡ length ((b ∷ ys) ++ y ∷ []) = ap length e in absurd (omega (arith, a, length-append ys (y ∷ [])))
same_fronts {X} (a ∷ xs) [] x y e = let d : length ((a ∷ xs) ++ x ∷ []) ≡ length ([] ++ y ∷ []) = ap length e in absurd (omega (arith, d, length-append xs (x ∷ [])))
same_fronts (a ∷ xs) (b ∷ ys) x y e =
    let first : a ≡ b = cc in
    let more : xs ++ x ∷ [] ≡ ys ++ y ∷ [] = cc in
    let rest = same_fronts xs ys x y more in
    λ i. first i ∷ rest i
