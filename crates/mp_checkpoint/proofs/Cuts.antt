-- A text cut at the first byte of a kind.
use Rattle.std.proofs.Common.{◌≡◌, ◌≢◌, ◌++◌, ◌+◌, ◌<◌, ◌∷◌, [], ℕ, suc, List, None, Some, length, length-append, take, drop, refl, sym, ap, ◌∙◌, arith}
use Rattle.std.specs.Prelude.{All, slice_index}
use Rattle.std.proofs.lemmas.Bool.{eq-eqb, eqb-true}
use Rattle.std.proofs.lemmas.List.{get_or-take, get_or_default, length-take, take-append-drop}
use Rattle.std.proofs.Math.Seq.{drop-cons}
use Rattle.memchr.specs.Find.{IsFirstByte, is_byte}
use Rattle.mp_checkpoint_laws.proofs.Lines.{cut_at}

-- the byte behind a front
byte_at : (front rest : List ℕ) (b : ℕ) → slice_index (front ++ b ∷ rest) (length front) ≡ b
byte_at [] rest b = refl
byte_at (a ∷ front) rest b = byte_at front rest b

-- where the byte stands it is found
pub is_found : (byte : ℕ) (text front rest : List ℕ) → IsFirstByte (is_byte byte) text None → text ≡ front ++ byte ∷ rest → ⊥
is_found byte text front rest none e =
    let low : length front < length text = omega (arith, ap length e, length-append front (byte ∷ rest)) in
    none (length front) (omega arith) low (eq-eqb (slice_index text (length front)) byte (ap (λ (l : List ℕ). slice_index l (length front)) e ∙ byte_at front rest byte))

-- and what stands around it is the text
pub found_there : (byte : ℕ) (text : List ℕ) (end : ℕ) → IsFirstByte (is_byte byte) text (Some end) → text ≡ take end text ++ byte ∷ drop (end + 1) text
found_there byte text end h =
    let same : slice_index text end ≡ byte = eqb-true (slice_index text end) byte h.1 in
    let next : suc end ≡ end + 1 = omega arith in
    sym (take-append-drop end text) ∙ ap (λ (l : List ℕ). take end text ++ l) (drop-cons text end 0 h.0.high ∙ (λ i. same i ∷ drop (next i) text))

-- no such byte stands in front of it
none_before : (byte : ℕ) (text : List ℕ) (end : ℕ) → IsFirstByte (is_byte byte) text (Some end) → All (λ b. b ≢ byte) (take end text)
none_before byte text end h = λ k d low e.
    let within : k < end = omega (arith, low, length-take end text) in
    h.0.before k (omega arith) within (eq-eqb (slice_index text k) byte (get_or_default text k 0 d (omega (arith, h.0.high)) ∙ sym (get_or-take end text k d within) ∙ e))

pub cut_there : (byte : ℕ) (text front rest : List ℕ) (end : ℕ) → IsFirstByte (is_byte byte) text (Some end) → All (λ b. b ≢ byte) front → text ≡ front ++ byte ∷ rest → (take end text ≡ front) × (drop (end + 1) text ≡ rest)
cut_there byte text front rest end h plain e = cut_at byte (take end text) front (drop (end + 1) text) rest (none_before byte text end h) plain (sym (found_there byte text end h) ∙ e)
