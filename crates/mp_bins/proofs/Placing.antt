-- Where a note is placed, what stays true then, and that the order of notes doesn't matter.
use Rattle.std.proofs.Common.{◌≡◌, ◌≢◌, ℕ, Bool, true, false, cond, ◌||◌, ◌==◌, List, [], ◌∷◌, get_or, refl, sym, ap, ◌∙◌, ⊎_elim}
use Rattle.std.specs.List.{All}
use Rattle.std.proofs.lemmas.Bool.{both_ways, cases_Bool, eq-eqb, false_from_ne_true, or_left, or_right}
use Rattle.std.proofs.lemmas.List.Elements.{All-cons, All-head, All-tail, All-nil}
use Rattle.mp_names.specs.Names.{is_before}
use Rattle.mp_ordered.specs.InOrder.{put_in_order}
use Rattle.mp_bins.specs.declared.owners.Note.{Note}
use Rattle.mp_bins.specs.Notes.{with_note, is_noted, rank_of_note, AreInOrder}
use Rattle.mp_bins.proofs.Ranks.{not_back, before_both, one_before}

-- where one note is put

pub goes_first : (n : Note) (ns : List Note) (note : Note) → is_before (rank_of_note note) (rank_of_note n) ≡ true → with_note (n ∷ ns) note ≡ note ∷ n ∷ ns
goes_first n ns note h = rw h refl

pub goes_on : (n : Note) (ns : List Note) (note : Note) → is_before (rank_of_note note) (rank_of_note n) ≡ false → with_note (n ∷ ns) note ≡ n ∷ with_note ns note
goes_on n ns note h = rw h refl

-- a note of a new index is of no rank that is there, so it is put where a list in order has its place
pub put_is_with : (ns : List Note) (note : Note) → is_noted ns note.index ≡ false → put_in_order rank_of_note note ns ≡ with_note ns note
put_is_with [] note h = refl
put_is_with (n ∷ ns) note h =
    let other : (n.index == note.index) ≡ false = false_from_ne_true (n.index == note.index) (λ e. both_ways (n.index == note.index || is_noted ns note.index) h (or_left (n.index == note.index) (is_noted ns note.index) e)) in
    let fresh : is_noted ns note.index ≡ false = false_from_ne_true (is_noted ns note.index) (λ e. both_ways (n.index == note.index || is_noted ns note.index) h (or_right (n.index == note.index) (is_noted ns note.index) e)) in
    ⊎_elim
    (λ (e : is_before (rank_of_note note) (rank_of_note n) ≡ true). rw (not_back (rank_of_note note) (rank_of_note n) e, e) refl)
    (λ (e : is_before (rank_of_note note) (rank_of_note n) ≡ false).
    let first = one_before (rank_of_note n) (rank_of_note note) (λ same. both_ways (n.index == note.index) other (eq-eqb n.index note.index (cc (same)))) e in
    rw (first, e) (ap (λ (r : List Note). n ∷ r) (put_is_with ns note fresh)))
    (cases_Bool (is_before (rank_of_note note) (rank_of_note n)))

-- what is true of each note and of the new one is true of each then
pub All-with : (P : Note → Type 0) (ns : List Note) (note : Note) → P note → All P ns → All P (with_note ns note)
All-with P [] note h k = All-cons P note [] h k
All-with P (n ∷ ns) note h k = pick (is_before (rank_of_note note) (rank_of_note n)) (All-with P ns note h (All-tail P n ns k))
  where
    pick : (q : Bool) → All P (with_note ns note) → All P (cond q (note ∷ n ∷ ns) (n ∷ with_note ns note))
    pick true r = All-cons P note (n ∷ ns) h k
    pick false r = All-cons P n (with_note ns note) (All-head P n ns k) r

pub with_in_order : (ns : List Note) (note : Note) → AreInOrder ns → AreInOrder (with_note ns note)
with_in_order [] note h = (All-nil (λ m. is_before (rank_of_note m) (rank_of_note note) ≡ false), tt)
with_in_order (n ∷ ns) note h = pick (with_in_order ns note h.1) (is_before (rank_of_note note) (rank_of_note n)) refl
  where
    -- what isn't before n isn't before what comes before n
    behind : is_before (rank_of_note note) (rank_of_note n) ≡ true → All (λ m. is_before (rank_of_note m) (rank_of_note note) ≡ false) ns
    behind e k d l =
        let m = rank_of_note (get_or ns k d) in
        false_from_ne_true (is_before m (rank_of_note note)) (λ f. both_ways (is_before m (rank_of_note n)) (h.0 k d l) (before_both m (rank_of_note note) (rank_of_note n) f e))

    pick : AreInOrder (with_note ns note) → (q : Bool) → is_before (rank_of_note note) (rank_of_note n) ≡ q → AreInOrder (cond q (note ∷ n ∷ ns) (n ∷ with_note ns note))
    pick r true e = (All-cons (λ m. is_before (rank_of_note m) (rank_of_note note) ≡ false) n ns (not_back (rank_of_note note) (rank_of_note n) e) (behind e), h)
    pick r false e = (All-with (λ m. is_before (rank_of_note m) (rank_of_note n) ≡ false) ns note e h.0, r)

-- in either order

-- the first of two is noted first, or second
commute_in_turn : (ns : List Note) (a b : Note) → is_before (rank_of_note a) (rank_of_note b) ≡ true → with_note (with_note ns a) b ≡ with_note (with_note ns b) a
commute_in_turn [] a b h = goes_on a [] b (not_back (rank_of_note a) (rank_of_note b) h) ∙ sym (goes_first b [] a h)
commute_in_turn (n ∷ ns) a b h =
    ⊎_elim
    (λ (k : is_before (rank_of_note b) (rank_of_note n) ≡ true).
    ap (λ (r : List Note). with_note r b) (goes_first n ns a (before_both (rank_of_note a) (rank_of_note b) (rank_of_note n) h k))
    ∙ goes_on a (n ∷ ns) b (not_back (rank_of_note a) (rank_of_note b) h)
    ∙ ap (λ (r : List Note). a ∷ r) (goes_first n ns b k)
    ∙ sym (ap (λ (r : List Note). with_note r a) (goes_first n ns b k) ∙ goes_first b (n ∷ ns) a h))
    (λ (k : is_before (rank_of_note b) (rank_of_note n) ≡ false).
    ⊎_elim
    (λ (l : is_before (rank_of_note a) (rank_of_note n) ≡ true).
    ap (λ (r : List Note). with_note r b) (goes_first n ns a l)
    ∙ goes_on a (n ∷ ns) b (not_back (rank_of_note a) (rank_of_note b) h)
    ∙ ap (λ (r : List Note). a ∷ r) (goes_on n ns b k)
    ∙ sym (ap (λ (r : List Note). with_note r a) (goes_on n ns b k) ∙ goes_first n (with_note ns b) a l))
    (λ (l : is_before (rank_of_note a) (rank_of_note n) ≡ false).
    ap (λ (r : List Note). with_note r b) (goes_on n ns a l)
    ∙ goes_on n (with_note ns a) b k
    ∙ ap (λ (r : List Note). n ∷ r) (commute_in_turn ns a b h)
    ∙ sym (ap (λ (r : List Note). with_note r a) (goes_on n ns b k) ∙ goes_on n (with_note ns b) a l))
    (cases_Bool (is_before (rank_of_note a) (rank_of_note n))))
    (cases_Bool (is_before (rank_of_note b) (rank_of_note n)))

pub commute : (ns : List Note) (a b : Note) → a.index ≢ b.index → with_note (with_note ns a) b ≡ with_note (with_note ns b) a
commute ns a b h =
    ⊎_elim
    (λ (k : is_before (rank_of_note a) (rank_of_note b) ≡ true). commute_in_turn ns a b k)
    (λ (k : is_before (rank_of_note a) (rank_of_note b) ≡ false). sym (commute_in_turn ns b a (one_before (rank_of_note b) (rank_of_note a) (λ e. h (cc)) k)))
    (cases_Bool (is_before (rank_of_note a) (rank_of_note b)))

-- which indices are noted

pub noted_with : (ns : List Note) (note : Note) (i : ℕ) → is_noted (with_note ns note) i ≡ (note.index == i || is_noted ns i)
noted_with [] note i = refl
noted_with (n ∷ ns) note i = pick (is_before (rank_of_note note) (rank_of_note n)) (noted_with ns note i)
  where
    other_way : (a b c : Bool) → (a || (b || c)) ≡ (b || (a || c))
    other_way true true c = refl
    other_way true false c = refl
    other_way false b c = refl

    pick : (q : Bool) → is_noted (with_note ns note) i ≡ (note.index == i || is_noted ns i) → is_noted (cond q (note ∷ n ∷ ns) (n ∷ with_note ns note)) i ≡ (note.index == i || (n.index == i || is_noted ns i))
    pick true r = refl
    pick false r = ap (λ (b : Bool). n.index == i || b) r ∙ other_way (n.index == i) (note.index == i) (is_noted ns i)
