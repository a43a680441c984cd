-- What begins a text.
use Rattle.std.proofs.Common.{◌≡◌, ◌++◌, ◌∷◌, [], ℕ, List, length, take, refl, sym, ap, ◌∙◌, append_assoc}
use Rattle.std.proofs.lemmas.List.{append_cancel_left}

-- a piece more of its front
pub goes_on : (text front left piece rest : List ℕ) → text ≡ front ++ left → left ≡ piece ++ rest → text ≡ (front ++ piece) ++ rest
goes_on text front left piece rest e h = e ∙ ap (λ (l : List ℕ). front ++ l) h ∙ sym (append_assoc front piece rest)

-- behind a part of what begins it stands what is left of that
pub other_front : (text front left piece more rest whole : List ℕ) → text ≡ front ++ left → front ++ (piece ++ more) ≡ whole → text ≡ whole ++ rest → left ≡ piece ++ (more ++ rest)
other_front text front left piece more rest whole e h k =
    append_cancel_left front left (piece ++ (more ++ rest))
    (sym e ∙ k ∙ ap (λ (l : List ℕ). l ++ rest) (sym h) ∙ append_assoc front (piece ++ more) rest ∙ ap (λ (l : List ℕ). front ++ l) (append_assoc piece more rest))

-- so many of the first bytes are its front
pub taken : (front rest : List ℕ) → take (length front) (front ++ rest) ≡ front
taken [] rest = refl
taken (b ∷ front) rest = ap (λ (l : List ℕ). b ∷ l) (taken front rest)
