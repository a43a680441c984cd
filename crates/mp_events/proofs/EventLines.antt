-- The lines of events: what fields within their limits say.
use Rattle.std.proofs.Common.{◌≡◌, ◌-◌, eqb, ◌<◌, ◌≤◌, ℕ, Bool, true, false, List, [], ◌∷◌, ◌++◌, length, get_or, map, refl, ap, sym, ◌∙◌, subst, append_assoc, arith, take, length-append, length-take}
use Rattle.std.specs.Prelude.{All, codes, nat_le, nat_lt}
use Rattle.std.specs.List.{join_with_byte, slice_split}
use Rattle.std.specs.Str.Lines.{strip_carriage_return}
use Rattle.std.proofs.lemmas.Bool.{le-leb, lt-ltb, ne_eqb}
use Rattle.std.proofs.lemmas.List.{get_or-append_right, get_or_default}
use Rattle.std.proofs.lemmas.List.Elements.{All-append, All-cons, All-get_or, All-nil, All-weaker}
use Rattle.std.proofs.lemmas.List.Splits.{length-slice_split, slice_split_at, slice_split_none}
use Rattle.mp_events.specs.Kinds.{a_name, up_to}
use Rattle.mp_events.specs.Lines.{events_on, failures_of}
use Rattle.mp_lines.specs.Limits.{failures_of_field}
use Rattle.mp_model.specs.declared.record.Event.{Event}
use Rattle.mp_model.specs.declared.value.Value.TheVariants.{Person, Auction, Bid}
use Rattle.mp_model.specs.Legal.{IsName}
use Rattle.mp_model.specs.Plain.{IsPlain}
use Rattle.mp_model.proofs.PlainNumbers.{IsDigit}
use Rattle.mp_names.specs.Limits.{greatest_id, greatest_price, greatest_time, most_events}
use Rattle.mp_text.proofs.NumberLemmas.{is_number-digit, is_number-some}
use Rattle.mp_text.specs.Fields.{fields_of, is_separator}
use Rattle.mp_text.specs.Lines.{is_blank, is_line_feed, lines_of, without_empty_last}
use Rattle.mp_text.specs.Numbers.{is_number, value_of}

-- a line that ends with bytes that end with no carriage return doesn't end with one
stripped : (front ds : List ℕ) → 0 < length ds → strip_carriage_return ds ≡ ds → strip_carriage_return (front ++ ds) ≡ front ++ ds
stripped front ds some h = cases (eqb (get_or ds (length ds - 1) 0) 13) refl
  where
    same : get_or (front ++ ds) (length (front ++ ds) - 1) 0 ≡ get_or ds (length ds - 1) 0
    same =
        get_or-append_right front ds (length front) (length (front ++ ds) - 1) 0 refl (omega (arith, some, length-append front ds))
        ∙ ap (λ i. get_or ds i 0) (omega (arith, some, length-append front ds))

    shorter : take (length ds - 1) ds ≡ ds → ⊥
    shorter e = let short : length (take (length ds - 1) ds) ≡ length ds = ap length e in omega (arith, short, length-take (length ds - 1) ds, some)

    cases : (b : Bool) → eqb (get_or ds (length ds - 1) 0) 13 ≡ b → strip_carriage_return (front ++ ds) ≡ front ++ ds
    cases true e = absurd (shorter (rw e at h))
    cases false e = rw (same, e) refl

-- digits end with none
digits_stay : (ds : List ℕ) → 0 < length ds → All IsDigit ds → strip_carriage_return ds ≡ ds
digits_stay ds some h =
    let last = All-get_or IsDigit ds (length ds - 1) 0 (omega (arith, some)) h in
    let other : eqb (get_or ds (length ds - 1) 0) 13 ≡ false = ne_eqb _ 13 (λ e. omega (arith, e, last.low)) in
    rw other refl

-- The fields

-- each field is plain
abbrev ArePlain : List (List ℕ) → Type 0
ArePlain [] = Unit {0}
ArePlain (f ∷ fs) = IsPlain f × ArePlain fs

-- fields without `|`, cut by it, are cut into these fields
cut_again : (f : List ℕ) (fs : List (List ℕ)) → IsPlain f → ArePlain fs → fields_of (join_with_byte 124 (f ∷ fs)) ≡ f ∷ fs
unfolding fields_of
cut_again f [] plain each = slice_split_none is_separator f (λ k d low. (plain k d low).0)
cut_again f (g ∷ gs) plain each =
    slice_split_at is_separator f 124 (join_with_byte 124 (g ∷ gs)) (λ k d low. (plain k d low).0) refl
    ∙ ap (λ l. f ∷ l) (cut_again g gs each.0 each.1)

-- a line without line feeds stands alone
joined_plain : (f : List ℕ) (fs : List (List ℕ)) → IsPlain f → ArePlain fs → All (λ b. is_line_feed b ≡ false) (join_with_byte 124 (f ∷ fs))
joined_plain f [] plain each = λ k d low. (plain k d low).1
joined_plain f (g ∷ gs) plain each =
    All-append (λ b. is_line_feed b ≡ false) f (124 ∷ join_with_byte 124 (g ∷ gs)) (λ k d low. (plain k d low).1)
    (All-cons (λ b. is_line_feed b ≡ false) 124 (join_with_byte 124 (g ∷ gs)) refl (joined_plain g gs each.0 each.1))

stays : (part : List ℕ) (more : List (List ℕ)) → 0 < length more → without_empty_last (part ∷ more) ≡ part ∷ without_empty_last more
stays part [] some = absurd (omega (arith, some))
stays [] (next ∷ more) some = refl
stays (b ∷ bs) (next ∷ more) some = refl

-- the first of lines is cut off
pub first_line : (line rest : List ℕ) → All (λ b. is_line_feed b ≡ false) line → strip_carriage_return line ≡ line → lines_of (line ++ 10 ∷ rest) ≡ line ∷ lines_of rest
unfolding lines_of
first_line line rest plain same =
    ap (λ parts. map strip_carriage_return (without_empty_last parts)) (slice_split_at is_line_feed line 10 rest plain refl)
    ∙ ap (map strip_carriage_return) (stays line (slice_split is_line_feed rest) (omega (arith, length-slice_split is_line_feed rest)))
    ∙ ap (λ l. l ∷ map strip_carriage_return (without_empty_last (slice_split is_line_feed rest))) same

-- What a line says

-- digits that are worth so much, which is within the limit
pub record IsNumeral (n greatest : ℕ) (ds : List ℕ) : Type 0 where
  pub is : is_number ds ≡ true
  pub worth : value_of ds ≡ n
  pub within : n ≤ greatest

-- a name that can stand in a line
pub record IsNamed (name : List ℕ) : Type 0 where
  pub named : IsName name
  pub plain : IsPlain name

module _ (n greatest : ℕ) (ds : List ℕ) (h : IsNumeral n greatest ds) where
  digits : All IsDigit ds
  digits k d low =
      let range = is_number-digit ds k h.is low in
      subst IsDigit (get_or_default ds k 0 d low) (record { low = range.0; high = range.1 })

  number_plain : IsPlain ds
  number_plain =
      All-weaker IsDigit (λ (b : ℕ). (eqb b 124 ≡ false) × (eqb b 10 ≡ false)) (λ b d. (ne_eqb b 124 (λ e. omega (arith, e, d.high)), ne_eqb b 10 (λ e. omega (arith, e, d.low)))) ds digits

  number_stays : strip_carriage_return ds ≡ ds
  number_stays = digits_stay ds (is_number-some ds h.is) digits

  number_passes : failures_of_field (up_to greatest) ds ≡ []
  number_passes = let inside : nat_le (value_of ds) greatest ≡ true = le-leb _ _ (omega (arith, h.worth, h.within)) in rw (h.is, inside) refl

name_passes : (name : List ℕ) → IsName name → failures_of_field a_name name ≡ []
name_passes name h = rw (lt-ltb _ _ h.0, le-leb _ _ h.1) refl

-- the fields of a line that says this event, whatever stands before it
pub record IsLineOf (fields : List (List ℕ)) (event : Event) : Type 0 where
  pub fails : (before : ℕ) → before < most_events → failures_of before fields ≡ []
  pub says : events_on fields ≡ event ∷ []
  pub cuts : fields_of (join_with_byte 124 fields) ≡ fields
  pub alone : All (λ b. is_line_feed b ≡ false) (join_with_byte 124 fields)
  pub stays : strip_carriage_return (join_with_byte 124 fields) ≡ join_with_byte 124 fields
  pub filled : is_blank (join_with_byte 124 fields) ≡ false

-- the last field ends the line
ends : (f : List ℕ) (fs : List (List ℕ)) (last : List ℕ) → 0 < length last → strip_carriage_return last ≡ last
    → strip_carriage_return (join_with_byte 124 (f ∷ fs ++ last ∷ [])) ≡ join_with_byte 124 (f ∷ fs ++ last ∷ [])
ends f fs last some h = let split = joined_last f fs last in subst (λ l. strip_carriage_return l ≡ l) (sym split.1) (stripped split.0 last some h)
  where
    joined_last : (f : List ℕ) (fs : List (List ℕ)) (last : List ℕ) → (front : List ℕ) × (join_with_byte 124 (f ∷ fs ++ last ∷ []) ≡ front ++ last)
    joined_last f [] last = (f ++ 124 ∷ [], sym (append_assoc f (124 ∷ []) last))
    joined_last f (g ∷ gs) last =
        let more = joined_last g gs last in
        (f ++ 124 ∷ more.0, ap (λ l. f ++ 124 ∷ l) more.1 ∙ sym (append_assoc f (124 ∷ more.0) last))

one_byte : (b : ℕ) → is_separator b ≡ false → is_line_feed b ≡ false → IsPlain (b ∷ [])
one_byte b cut feed = let P : ℕ → Type 0 = λ x. (is_separator x ≡ false) × (is_line_feed x ≡ false) in All-cons P b [] (cut, feed) (All-nil P)

pub bid_line : (time auction bidder price : ℕ) (t a b p : List ℕ)
    → IsNumeral time greatest_time t → IsNumeral auction greatest_id a → IsNumeral bidder greatest_id b → IsNumeral price greatest_price p
    → IsLineOf (codes "B" ∷ t ∷ a ∷ b ∷ p ∷ []) (record { time = time; value = Bid auction bidder price })
bid_line time auction bidder price t a b p ht ha hb hp =
    let letter = one_byte 66 refl refl in
    let plain : ArePlain (t ∷ a ∷ b ∷ p ∷ []) = (number_plain _ _ t ht, (number_plain _ _ a ha, (number_plain _ _ b hb, (number_plain _ _ p hp, tt)))) in record {
      fails = λ before low. rw (lt-ltb _ _ low, number_passes _ _ t ht, number_passes _ _ a ha, number_passes _ _ b hb, number_passes _ _ p hp) refl;
      says = rw (ht.worth, ha.worth, hb.worth, hp.worth) refl;
      cuts = cut_again (codes "B") (t ∷ a ∷ b ∷ p ∷ []) letter plain;
      alone = joined_plain (codes "B") (t ∷ a ∷ b ∷ p ∷ []) letter plain;
      stays = ends (codes "B") (t ∷ a ∷ b ∷ []) p (is_number-some p hp.is) (number_stays _ _ p hp);
      filled = refl;
    }

pub auction_line : (time id seller category reserve expires : ℕ) (t i s c r e : List ℕ)
    → IsNumeral time greatest_time t → IsNumeral id greatest_id i → IsNumeral seller greatest_id s → IsNumeral category greatest_id c
    → IsNumeral reserve greatest_price r → IsNumeral expires greatest_time e → time < expires
    → IsLineOf (codes "A" ∷ t ∷ i ∷ s ∷ c ∷ r ∷ e ∷ []) (record { time = time; value = Auction id seller category reserve expires })
auction_line time id seller category reserve expires t i s c r e ht hi hs hc hr he later =
    let letter = one_byte 65 refl refl in
    let plain : ArePlain (t ∷ i ∷ s ∷ c ∷ r ∷ e ∷ []) = (number_plain _ _ t ht, (number_plain _ _ i hi, (number_plain _ _ s hs, (number_plain _ _ c hc, (number_plain _ _ r hr, (number_plain _ _ e he, tt)))))) in
    let ordered : nat_lt (value_of t) (value_of e) ≡ true = lt-ltb _ _ (omega (arith, ht.worth, he.worth, later)) in record {
      fails = λ before low. rw (lt-ltb _ _ low, number_passes _ _ t ht, number_passes _ _ i hi, number_passes _ _ s hs, number_passes _ _ c hc, number_passes _ _ r hr, number_passes _ _ e he, ordered) refl;
      says = rw (ht.worth, hi.worth, hs.worth, hc.worth, hr.worth, he.worth) refl;
      cuts = cut_again (codes "A") (t ∷ i ∷ s ∷ c ∷ r ∷ e ∷ []) letter plain;
      alone = joined_plain (codes "A") (t ∷ i ∷ s ∷ c ∷ r ∷ e ∷ []) letter plain;
      stays = ends (codes "A") (t ∷ i ∷ s ∷ c ∷ r ∷ []) e (is_number-some e he.is) (number_stays _ _ e he);
      filled = refl;
    }

pub person_line : (time id : ℕ) (t i name city state : List ℕ)
    → IsNumeral time greatest_time t → IsNumeral id greatest_id i → IsNamed name → IsNamed city → IsNamed state → strip_carriage_return state ≡ state
    → IsLineOf (codes "P" ∷ t ∷ i ∷ name ∷ city ∷ state ∷ []) (record { time = time; value = Person id name city state })
person_line time id t i name city state ht hi hn hc hs stays =
    let letter = one_byte 80 refl refl in
    let plain : ArePlain (t ∷ i ∷ name ∷ city ∷ state ∷ []) = (number_plain _ _ t ht, (number_plain _ _ i hi, (hn.plain, (hc.plain, (hs.plain, tt))))) in record {
      fails = λ before low. rw (lt-ltb _ _ low, number_passes _ _ t ht, number_passes _ _ i hi, name_passes name hn.named, name_passes city hc.named, name_passes state hs.named) refl;
      says = rw (ht.worth, hi.worth) refl;
      cuts = cut_again (codes "P") (t ∷ i ∷ name ∷ city ∷ state ∷ []) letter plain;
      alone = joined_plain (codes "P") (t ∷ i ∷ name ∷ city ∷ state ∷ []) letter plain;
      stays = ends (codes "P") (t ∷ i ∷ name ∷ city ∷ []) state (hs.named).0 stays;
      filled = refl;
    }
