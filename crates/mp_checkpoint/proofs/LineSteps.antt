-- What a text of lines begins with.
use Rattle.std.proofs.Common.{◌≡◌, ◌≢◌, ◌⊎◌, ◌<◌, ◌^◌, ◌++◌, ℕ, true, List, [], ◌∷◌, inl, inr, refl, ◌∙◌, append_assoc, arith}
use Rattle.std.specs.Fmt.{decimal}
use Rattle.std.proofs.lemmas.List.Elements.{All-append, All-cons}
use Rattle.mp_checkpoint_laws.specs.Files.{Format, SavedLine, last_line, line_text}
use Rattle.mp_checkpoint_laws.proofs.Lines.{IsLine, ended}
use Rattle.mp_checkpoint_laws.proofs.Prefixes.{number_line}
use Rattle.mp_checkpoint.specs.Loose.{AreReadable, IsReadable}
use Rattle.mp_checkpoint.specs.Written.{texts_of}

with_byte : (b : ℕ) (line : List ℕ) → b ≢ 10 → IsLine line → IsLine (b ∷ line)
with_byte b line h k = All-cons (λ (c : ℕ). c ≢ 10) b line h k

bar_line : (line : List ℕ) → IsLine line → IsLine (124 ∷ line)
bar_line line h = with_byte 124 line (λ e. omega (arith, e)) h

with_word : (word line : List ℕ) → IsLine word → IsLine line → IsLine (word ++ 124 ∷ line)
with_word word line h k = All-append (λ (c : ℕ). c ≢ 10) word (124 ∷ line) h (bar_line line k)

last_plain : (n : ℕ) → n < 2 ^ 64 → IsLine (last_line n)
last_plain n low = with_byte 69 (124 ∷ decimal n) (λ e. omega (arith, e)) (bar_line (decimal n) (number_line n low))

words_plain : (b j k : ℕ) (more : List ℕ) → b ≢ 10 → j < 2 ^ 64 → k < 2 ^ 64 → IsLine more → IsLine (b ∷ 124 ∷ (decimal j ++ 124 ∷ (decimal k ++ 124 ∷ more)))
words_plain b j k more h l m n =
    let keyed = decimal k ++ 124 ∷ more in
    let staged = decimal j ++ 124 ∷ keyed in
    with_byte b (124 ∷ staged) h (bar_line staged (with_word (decimal j) keyed (number_line j l) (with_word (decimal k) more (number_line k m) n)))

module _ {Cell : Type 0} (f : Format Cell) (plain : (j k t : ℕ) (c : Cell) → f.allows j k t c ≡ true → IsLine (f.text j c)) (until : ℕ) where
  -- no line feed stands in a line
  line_plain : (j k : ℕ) (holds : Cell ⊎ ℕ) → IsReadable f until j k holds → IsLine (line_text f j k holds)
  line_plain j k (inl c) h = words_plain 99 j k (f.text j c) (λ e. omega (arith, e)) (omega (arith, h.0)) h.1 (plain j k until c h.2)
  line_plain j k (inr u) h = words_plain 119 j k (decimal u) (λ e. omega (arith, e)) (omega (arith, h.0)) h.1 (number_line u h.2)

  -- the text that is left begins with the last line where no other is left, else with the first of these
  pub begins : (n : ℕ) (ms : List (SavedLine Cell)) (left : List ℕ) → n < 2 ^ 64 → AreReadable f until ms → left ≡ texts_of f ms ++ (last_line n ++ 10 ∷ [])
      → ((ms ≡ []) × IsLine (last_line n) × (left ≡ last_line n ++ 10 ∷ [])) ⊎ ((m : SavedLine Cell) × (more : List (SavedLine Cell)) × (ms ≡ m ∷ more) × IsReadable f until m.stage m.key m.holds × AreReadable f until more × IsLine (line_text f m.stage m.key m.holds) × (left ≡ line_text f m.stage m.key m.holds ++ 10 ∷ (texts_of f more ++ (last_line n ++ 10 ∷ []))))
  begins n [] left low fits e = inl (refl, last_plain n low, e)
  begins n (m ∷ more) left low fits e =
      let line = line_text f m.stage m.key m.holds in
      let rest = texts_of f more ++ (last_line n ++ 10 ∷ []) in
      inr (m, more, refl, fits.0, fits.1, line_plain m.stage m.key m.holds fits.0, e ∙ append_assoc (line ++ 10 ∷ []) (texts_of f more) (last_line n ++ 10 ∷ []) ∙ ended line rest)
