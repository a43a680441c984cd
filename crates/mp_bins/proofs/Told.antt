-- That the owners up to a time are those of a list of control records, where every record of an earlier time is noted.
use Rattle.std.proofs.Common.{◌≡◌, ℕ, suc, ◌<◌, ◌≤◌, ◌⊎◌, true, ◌==◌, List, [], ◌∷◌, length, Option, None, Some, sym, ap, ◌∙◌, subst, inl, inr, ⊎_elim, arith}
use Rattle.std.proofs.lemmas.Bool.{both_ways, eqb-true, false≢true, false_from_ne_true, or_cases}
use Rattle.std.proofs.lemmas.List.{length-map}
use Rattle.std.proofs.lemmas.List.Elements.{All-same}
use Rattle.mp_names.specs.declared.controls.Control.{Control}
use Rattle.mp_names.specs.Controls.{control_of, is_below, last_below, owner_below, IsLastBelow}
use Rattle.mp_names.proofs.Owners.{Said, said}
use Rattle.mp_bins.specs.declared.owners.Note.{Note}
use Rattle.mp_bins.specs.Notes.{Notes, AreInOrder, controls_in, first_owner, is_noted, owner_before, with_note, no_note, note_at}
use Rattle.mp_bins.specs.Laws.{IsNoteOf, AreNotesOf, AreNotedBelow}
use Rattle.mp_bins.proofs.Placing.{All-with, with_in_order}
use Rattle.mp_bins.proofs.Searching.{IsOf, below_is, control_at_note, later_upto, owner_is, owner_is_first, index_upto}

-- what is noted stands somewhere
place_of_noted : (ns : List Note) (i : ℕ) → is_noted ns i ≡ true → (q : ℕ) × (q < length ns) × ((note_at ns q).index ≡ i)
place_of_noted [] i h = absurd (false≢true h)
place_of_noted (n ∷ ns) i h =
    ⊎_elim
    (λ (e : (n.index == i) ≡ true). (0, omega arith, eqb-true n.index i e))
    (λ (e : is_noted ns i ≡ true). let r = place_of_noted ns i e in let l = r.1 in (suc r.0, omega arith, r.2))
    (or_cases (n.index == i) (is_noted ns i) h)

module _ (controls : List Control) (notes : Notes) (t : ℕ) (are : AreNotesOf controls notes) (all : AreNotedBelow controls notes t) (j b u : ℕ) (u_t : u ≤ t) where
  -- a record stands among the notes
  abbrev Denotes : ℕ → Type 0
  Denotes k = (q : ℕ) × (q < length notes.noted) × ((note_at notes.noted q).index ≡ k) × ((note_at notes.noted q).control ≡ control_of controls k)

  is_note : (q : ℕ) → q < length notes.noted → IsNoteOf controls (note_at notes.noted q)
  is_note q l = are.each q no_note l

  -- one below u does
  denotes : (k : ℕ) → k < length controls → is_below j b u (control_of controls k) ≡ true → Denotes k
  denotes k l e =
      let f = below_is j b u (record { index = k; control = control_of controls k }) e in
      let g = f.1 in
      let r = place_of_noted notes.noted k (all k l (omega arith)) in
      (r.0, r.1, r.2, sym (is_note r.0 r.1).1 ∙ ap (λ (i : ℕ). control_of controls i) r.2)

  below_too : (k q : ℕ) → (note_at notes.noted q).control ≡ control_of controls k → is_below j b u (control_of controls k) ≡ true → is_below j b u (control_of (controls_in notes.noted) q) ≡ true
  below_too k q e f = subst (λ (c : Control). is_below j b u c ≡ true) (sym (control_at_note notes.noted q ∙ e)) f

  as_listed : (q : ℕ) → q < length notes.noted → q < length (controls_in notes.noted)
  as_listed q l = omega (arith, length-map notes.noted (λ n. n.control))

  is_listed : (q : ℕ) → q < length (controls_in notes.noted) → q < length notes.noted
  is_listed q l = omega (arith, length-map notes.noted (λ n. n.control))

  -- the note that counts is the record that counts
  same_last : (i : ℕ) → IsLastBelow (controls_in notes.noted) j b u i → IsLastBelow controls j b u (note_at notes.noted i).index
  same_last i h = record { listed = (is_note i (is_listed i h.listed)).0; below = subst (λ (c : Control). is_below j b u c ≡ true) same h.below; last = last }
    where
      same : control_of (controls_in notes.noted) i ≡ control_of controls (note_at notes.noted i).index
      same = control_at_note notes.noted i ∙ sym (is_note i (is_listed i h.listed)).1

      of_bin : (k : ℕ) → is_below j b u (control_of (controls_in notes.noted) k) ≡ true → IsOf j b (note_at notes.noted k)
      of_bin k e = (below_is j b u (note_at notes.noted k) (subst (λ (c : Control). is_below j b u c ≡ true) (control_at_note notes.noted k) e)).0

      last : (k : ℕ) → k < length controls → is_below j b u (control_of controls k) ≡ true → ((control_of controls k).time < (control_of controls (note_at notes.noted i).index).time) ⊎ (((control_of controls k).time ≡ (control_of controls (note_at notes.noted i).index).time) × (k ≤ (note_at notes.noted i).index))
      last k l e =
          let r = denotes k l e in
          let q = r.0 in
          let there = below_too k q r.3 e in
          let time_k : (control_of (controls_in notes.noted) q).time ≡ (control_of controls k).time = ap (λ (c : Control). c.time) (control_at_note notes.noted q ∙ r.3) in
          let time_i = ap (λ (c : Control). c.time) same in
          ⊎_elim
          (λ (m : (control_of (controls_in notes.noted) q).time < (control_of (controls_in notes.noted) i).time). inl (omega arith))
          (λ (m : ((control_of (controls_in notes.noted) q).time ≡ (control_of (controls_in notes.noted) i).time) × (q ≤ i)).
          inr (sym time_k ∙ m.0 ∙ time_i, in_turn q i m.1 (is_listed i h.listed) (of_bin q there) (of_bin i h.below) m.0 k r.2))
          (h.last q (as_listed q r.1) there)
        where
          in_turn : (q i : ℕ) → q ≤ i → i < length notes.noted → IsOf j b (note_at notes.noted q) → IsOf j b (note_at notes.noted i) → (control_of (controls_in notes.noted) q).time ≡ (control_of (controls_in notes.noted) i).time → (k : ℕ) → (note_at notes.noted q).index ≡ k → k ≤ (note_at notes.noted i).index
          in_turn q i m n g h e k f =
              let time = sym (ap (λ (c : Control). c.time) (control_at_note notes.noted q)) ∙ e ∙ ap (λ (c : Control). c.time) (control_at_note notes.noted i) in
              let r = index_upto (note_at notes.noted q) (note_at notes.noted i) (h.0 ∙ sym g.0) (h.1 ∙ sym g.1) (sym time) (later_upto notes.noted are.in_order q i no_note m n) in
              omega arith

  told_from : (d : Option Control) → Said (controls_in notes.noted) j b u d → owner_before notes j b u ≡ owner_below controls (first_owner notes.layout j b) j b u
  told_from None h =
      owner_is_first (controls_in notes.noted) (first_owner notes.layout j b) j b u h
      ∙ sym (owner_is_first controls (first_owner notes.layout j b) j b u (λ k l. false_from_ne_true (is_below j b u (control_of controls k)) (λ e. let r = denotes k l e in both_ways (is_below j b u (control_of (controls_in notes.noted) r.0)) (h r.0 (as_listed r.0 r.1)) (below_too k r.0 r.3 e))))
  told_from (Some c) h =
      let i = h.0 in
      owner_is (controls_in notes.noted) (first_owner notes.layout j b) j b u i h.1
      ∙ ap (λ (d : Control). d.worker) (control_at_note notes.noted i ∙ sym (is_note i (is_listed i h.1.listed)).1)
      ∙ sym (owner_is controls (first_owner notes.layout j b) j b u (note_at notes.noted i).index (same_last i h.1))

  pub told : owner_before notes j b u ≡ owner_below controls (first_owner notes.layout j b) j b u
  told = told_from (last_below (controls_in notes.noted) j b u) (said (controls_in notes.noted) j b u)

-- notes of a list stay notes of it

pub one_more : (controls : List Control) (notes new : Notes) (note : Note) → AreNotesOf controls notes → IsNoteOf controls note → new.noted ≡ with_note notes.noted note → AreNotesOf controls new
one_more controls notes new note h k e = record {
  in_order = subst AreInOrder (sym e) (with_in_order notes.noted note h.in_order);
  each = All-same (IsNoteOf controls) new.noted (with_note notes.noted note) e (All-with (IsNoteOf controls) notes.noted note k h.each);
}
