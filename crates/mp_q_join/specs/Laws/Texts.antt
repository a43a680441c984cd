-- A cell of q3 or q8 that may be saved is told by its text.
use Rattle.std.specs.Prelude.{ℕ, ◌≡◌, ◌≢◌, ◌==◌, ◌&&◌, Bool, true, false, All, Option, Some, None, List, [], ◌∷◌, codes, length, map, nat_le, nat_lt, not, refl}
use Rattle.std.specs.Fmt.{decimal}
use Rattle.std.specs.List.{join_with_byte}
use Rattle.std.specs.Option.{unwrap_or}
use Rattle.std.proofs.Common.{◌∙◌, ap, arith, lit<, subst, sym}
use Rattle.std.proofs.lemmas.Bool.{and_parts, eqb-true, false≢true, not-true}
use Rattle.std.proofs.lemmas.List.Elements.{All-cons, All-nil}
use Rattle.mp_names.specs.Limits.{greatest_id, longest_name, most_events}
use Rattle.mp_model.specs.Plain.{IsPlain}
use Rattle.mp_model.specs.QueryLaws.{TextsTellCells}
use Rattle.mp_text.specs.Fields.{fields_of}
use Rattle.mp_text.proofs.FieldLemmas.{fields_of-nonempty}
use Rattle.mp_saved.specs.Numbers.{numbers_in, numbers_said}
use Rattle.mp_saved.proofs.Spelled.{ArePlain, AreSmall, cut_again, none_small, numbers_plain, one_small, said_again, stay_plain, word_joined}
use Rattle.mp_q_join.specs.declared.home.Home.{Home}
use Rattle.mp_q_join.specs.declared.selling.Selling.{Selling}
use Rattle.mp_q_join.specs.Joining as joining
use Rattle.mp_q_join.specs.Joining.{PersonCell, cell_text, home_is_legal, home_words, ids_are_legal, person_is_legal, person_said, waiting_read, waiting_said}
use Rattle.mp_q_join.specs.Names.{are_plain, is_plain, is_yes, name_is_legal}
use Rattle.mp_q_join.specs.Q3.{q3_with}
use Rattle.mp_q_join.specs.Q8.{q8_with}
use Rattle.mp_q_join.specs.Selling.{selling_is_legal, selling_said, sells_word, text_of, words_of}

-- Words

plain_of : (name : List ℕ) → are_plain name ≡ true → IsPlain name
plain_of [] h = All-nil (λ (b : ℕ). ((b == 124) ≡ false) × ((b == 10) ≡ false))
plain_of (b ∷ bs) h =
    let both = and_parts (is_plain b) (are_plain bs) h in
    let two = and_parts (not (b == 124)) (not (b == 10)) both.0 in
    All-cons (λ (b : ℕ). ((b == 124) ≡ false) × ((b == 10) ≡ false)) b bs (not-true (b == 124) two.0, not-true (b == 10) two.1) (plain_of bs both.1)

-- a legal name is plain
legal_plain : (name : List ℕ) → name_is_legal name ≡ true → IsPlain name
legal_plain name h = plain_of name (and_parts (nat_lt 0 (length name) && nat_le (length name) longest_name) (are_plain name) h).1

-- so are the words that say yes and no
yes_plain : IsPlain (codes "1")
yes_plain = plain_of (codes "1") refl

no_plain : IsPlain (codes "0")
no_plain = plain_of (codes "0") refl

-- q8

sells_plain : (sells : Bool) → IsPlain (sells_word sells)
sells_plain true = yes_plain
sells_plain false = no_plain

sells_again : (sells : Bool) → is_yes (sells_word sells) ≡ sells
sells_again true = refl
sells_again false = refl

-- what holds of plain words, one of them in front
module _ (P : List (List ℕ) → Type 0) (by : (word : List ℕ) (words : List (List ℕ)) → IsPlain word → ArePlain words → P (word ∷ words)) where
  selling_by : (name : Option (List ℕ)) (sells : Bool) → selling_is_legal name sells ≡ true → P (words_of name sells)
  selling_by None sells h = by (codes "0") (sells_word sells ∷ []) no_plain (sells_plain sells, tt)
  selling_by (Some name) sells h = by (codes "1") (name ∷ sells_word sells ∷ []) yes_plain (legal_plain name h, (sells_plain sells, tt))

selling_again : (name : Option (List ℕ)) (sells : Bool) → selling_said (words_of name sells) ≡ Some (record { name = name; sells = sells })
selling_again None sells = ap (λ (b : Bool). Some (record { name = None; sells = b })) (sells_again sells)
selling_again (Some name) sells = ap (λ (b : Bool). Some (record { name = Some name; sells = b })) (sells_again sells)

module _ (width : ℕ) where
  -- the cell is read from its text
  pub selling_read : (j k t : ℕ) (cell : Selling) → (q8_with width).allows j k t cell ≡ true → selling_said (fields_of (text_of j cell)) ≡ Some cell
  selling_read j k t cell h =
      ap selling_said (selling_by (λ words. fields_of (join_with_byte 124 words) ≡ words) cut_again cell.name cell.sells (and_parts (j == 0) (selling_is_legal cell.name cell.sells) h).1)
      ∙ selling_again cell.name cell.sells

  pub q8_texts_tell_cells : TextsTellCells text_of (q8_with width)
  q8_texts_tell_cells j k t cell h = ap (λ (o : Option Selling). unwrap_or o (record { name = None; sells = false })) (selling_read j k t cell h)

  -- which holds no line feed
  pub q8_texts_are_plain : (j k t : ℕ) (cell : Selling) → (q8_with width).allows j k t cell ≡ true → All (λ b. b ≢ 10) (text_of j cell)
  q8_texts_are_plain j k t cell h = selling_by (λ words. All (λ b. b ≢ 10) (join_with_byte 124 words)) stay_plain cell.name cell.sells (and_parts (j == 0) (selling_is_legal cell.name cell.sells) h).1

-- q3

ids_small : (ids : List ℕ) → ids_are_legal ids ≡ true → AreSmall ids
ids_small [] h = none_small
ids_small (id ∷ ids) h = let both = and_parts (nat_le id greatest_id) (ids_are_legal ids) h in one_small id greatest_id ids both.0 (lit< tt) (ids_small ids both.1)

-- ids that may wait have 64 bits
waiting_small : (waiting : List ℕ) → person_is_legal None waiting ≡ true → AreSmall waiting
waiting_small waiting h = ids_small waiting (and_parts (nat_lt 0 (length waiting) && nat_le (length waiting) most_events) (ids_are_legal waiting) h).1

module _ (P : List (List ℕ) → Type 0) (by : (word : List ℕ) (words : List (List ℕ)) → IsPlain word → ArePlain words → P (word ∷ words)) where
  home_by : (home : Home) → home_is_legal home ≡ true → P (home_words home)
  home_by home h =
      let both = and_parts (name_is_legal home.name && name_is_legal home.city) (name_is_legal home.state) h in
      let two = and_parts (name_is_legal home.name) (name_is_legal home.city) both.0 in
      by (codes "1") (home.name ∷ home.city ∷ home.state ∷ []) yes_plain (legal_plain home.name two.0, (legal_plain home.city two.1, (legal_plain home.state both.1, tt)))

  waiting_by : (waiting : List ℕ) → person_is_legal None waiting ≡ true → P (codes "0" ∷ map decimal waiting)
  waiting_by waiting h = by (codes "0") (map decimal waiting) no_plain (numbers_plain waiting (waiting_small waiting h))

none_wait : (waiting : List ℕ) → (length waiting == 0) ≡ true → waiting ≡ []
none_wait [] h = refl
none_wait (w ∷ ws) h = let e = eqb-true (length (w ∷ ws)) 0 h in absurd (omega (arith, e))

-- ids that are read from the words that are left wait
pub waiting_told : (words : List (List ℕ)) (text ids : List ℕ) → fields_of text ≡ words → Some ids ≡ numbers_in text → Some (record { home = None; waiting = ids }) ≡ waiting_read words
waiting_told [] text ids e read = let none : length (fields_of text) ≡ 0 = ap length e in absurd (omega (arith, none, fields_of-nonempty text))
waiting_told (word ∷ words) text ids e read = ap waiting_said (read ∙ ap numbers_said e)

read_again : (waiting : List ℕ) → person_is_legal None waiting ≡ true → waiting_read (map decimal waiting) ≡ Some (record { home = None; waiting = waiting })
read_again [] h = absurd (false≢true h)
read_again (id ∷ ids) h = ap waiting_said (said_again (id ∷ ids) (waiting_small (id ∷ ids) h))

person_again : (home : Option Home) (waiting : List ℕ) → person_is_legal home waiting ≡ true → person_said (fields_of (cell_text home waiting)) ≡ Some (record { home = home; waiting = waiting })
person_again (Some home) waiting h =
    let both = and_parts (length waiting == 0) (home_is_legal home) h in
    ap person_said (home_by (λ words. fields_of (join_with_byte 124 words) ≡ words) cut_again home both.1)
    ∙ ap (λ (ids : List ℕ). Some (record { home = Some home; waiting = ids })) (sym (none_wait waiting both.0))
person_again None waiting h =
    ap (λ (text : List ℕ). person_said (fields_of text)) (sym (word_joined (codes "0") waiting))
    ∙ ap person_said (waiting_by (λ words. fields_of (join_with_byte 124 words) ≡ words) cut_again waiting h)
    ∙ read_again waiting h

text_plain : (home : Option Home) (waiting : List ℕ) → person_is_legal home waiting ≡ true → All (λ b. b ≢ 10) (cell_text home waiting)
text_plain (Some home) waiting h = home_by (λ words. All (λ b. b ≢ 10) (join_with_byte 124 words)) stay_plain home (and_parts (length waiting == 0) (home_is_legal home) h).1
text_plain None waiting h =
    subst (λ (text : List ℕ). All (λ b. b ≢ 10) text) (word_joined (codes "0") waiting) (waiting_by (λ words. All (λ b. b ≢ 10) (join_with_byte 124 words)) stay_plain waiting h)

module _ (wanted : ℕ) where
  -- the cell is read from its text
  pub person_read : (j k t : ℕ) (cell : PersonCell) → (q3_with wanted).allows j k t cell ≡ true → person_said (fields_of (joining.text_of j cell)) ≡ Some cell
  person_read j k t cell h = person_again cell.home cell.waiting (and_parts (j == 0) (person_is_legal cell.home cell.waiting) h).1

  pub q3_texts_tell_cells : TextsTellCells joining.text_of (q3_with wanted)
  q3_texts_tell_cells j k t cell h = ap (λ (o : Option PersonCell). unwrap_or o (record { home = None; waiting = [] })) (person_read j k t cell h)

  -- which holds no line feed
  pub q3_texts_are_plain : (j k t : ℕ) (cell : PersonCell) → (q3_with wanted).allows j k t cell ≡ true → All (λ b. b ≢ 10) (joining.text_of j cell)
  q3_texts_are_plain j k t cell h = text_plain cell.home cell.waiting (and_parts (j == 0) (person_is_legal cell.home cell.waiting) h).1
