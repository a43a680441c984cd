-- Where all control records of a list are noted, the moves are those of the list.
use Rattle.std.proofs.Common.{◌≡◌, ◌∙◌, ◌<◌, ◌≤◌, ℕ, zero, suc, ◌+◌, ◌||◌, Bool, true, false, cond, not, ◌==◌, List, [], ◌∷◌, ap, arith, filter, length, map, Result, Ok, Err, IfOk, refl, sym, subst, ⊎_elim}
use Rattle.std.proofs.lemmas.Bool.{both_ways, cases_Bool, eq-eqb, eqb-true, false≢true, false_from_ne_true, or_cases}
use Rattle.std.proofs.lemmas.List.{length-map}
use Rattle.mp_names.specs.declared.controls.Control.{Control}
use Rattle.mp_names.specs.declared.controls.Move.{Move}
use Rattle.mp_names.specs.Outlines.{moves_of as moves_of_outline, owner_before as owner_of_outline}
use Rattle.mp_model.specs.Facts.{JobFacts, QueryFacts}
use Rattle.mp_outline.specs.JobOutline.{layout_of, outline_of}
use Rattle.mp_names.specs.declared.names.Name.{Name}
use Rattle.mp_names.specs.declared.names.Name.TheVariants.{Packet}
use Rattle.mp_names.specs.Controls.{control_of, is_change, move_in, moves_in, owner_below}
use Rattle.mp_names.specs.Names.{In, ascending}
use Rattle.mp_names.proofs.Lists.{In_cases, In_here, In_later}
use Rattle.mp_names.proofs.Orders.{In_ascending, ascending_In, ascending_ascends, ascending_unique}
use Rattle.mp_bins.specs.declared.owners.Note.{Note}
use Rattle.mp_bins.specs.Notes.{Layout, Notes, controls_in, first_owner, is_noted, moves_of, no_note, note_at, with_note}
use Rattle.mp_bins.specs.Laws.{AreNotesOf, IsNoteOf}
use Rattle.mp_bins.proofs.Placing.{noted_with}
use Rattle.mp_bins.proofs.Searching.{control_at_note}
use Rattle.mp_bins.proofs.Told.{told}
use Rattle.mp_job_owners.specs.Told.{TellOwners}

-- what is noted stands somewhere
place_of_noted : (ns : List Note) (i : ℕ) → is_noted ns i ≡ true → (p : ℕ) × (p < length ns) × ((note_at ns p).index ≡ i)
place_of_noted [] i h = absurd (false≢true h)
place_of_noted (n ∷ ns) i h =
    ⊎_elim
    (λ (e : (n.index == i) ≡ true). (0, omega arith, eqb-true n.index i e))
    (λ (e : is_noted ns i ≡ true). let r = place_of_noted ns i e in let l = r.1 in (suc r.0, omega arith, r.2))
    (or_cases (n.index == i) (is_noted ns i) h)

-- the packet that a record would send, if its bin moved there
abbrev packet_at : Control → Name
packet_at c = Packet c.stage c.bin c.time

In_at : (cs : List Control) (x : Name) → In x (map packet_at cs) → (k : ℕ) × (k < length cs) × (packet_at (control_of cs k) ≡ x)
In_at [] x h = absurd (false≢true h)
In_at (c ∷ cs) x h =
    ⊎_elim
    (λ (e : packet_at c ≡ x). (0, omega arith, e))
    (λ (i : In x (map packet_at cs)). let r = In_at cs x i in let l = r.1 in (suc r.0, omega arith, r.2))
    (In_cases x (packet_at c) (map packet_at cs) h)

at_In : (cs : List Control) (k : ℕ) → k < length cs → In (packet_at (control_of cs k)) (map packet_at cs)
at_In [] k l = absurd (omega arith)
at_In (c ∷ cs) zero l = In_here (packet_at c) (map packet_at cs)
at_In (c ∷ cs) (suc k) l = In_later (packet_at (control_of cs k)) (packet_at c) (map packet_at cs) (at_In cs k (omega arith))

-- tests and functions that agree everywhere
filter_same : (p r : Name → Bool) → ((x : Name) → p x ≡ r x) → (xs : List Name) → filter p xs ≡ filter r xs
filter_same p r e [] = refl
filter_same p r e (x ∷ xs) =
    ap (λ (b : Bool). cond b (x ∷ filter p xs) (filter p xs)) (e x) ∙ ap (λ (l : List Name). cond (r x) (x ∷ l) l) (filter_same p r e xs)

map_same : (f g : Name → Move) → ((x : Name) → f x ≡ g x) → (xs : List Name) → map f xs ≡ map g xs
map_same f g e [] = refl
map_same f g e (x ∷ xs) = ap (λ (m : Move). m ∷ map f xs) (e x) ∙ ap (λ (l : List Move). g x ∷ l) (map_same f g e xs)

module _ (controls : List Control) (notes : Notes) (are : AreNotesOf controls notes) (all : (i : ℕ) → i < length controls → is_noted notes.noted i ≡ true) where
  abbrev first : ℕ → ℕ → ℕ
  first stage bin = first_owner notes.layout stage bin

  abbrev noted : List Control
  noted = controls_in notes.noted

  same_owner : (j b u : ℕ) → owner_below noted (first j b) j b u ≡ owner_below controls (first j b) j b u
  same_owner j b u = told controls notes u are (λ i l e. all i l) j b u (omega arith)

  same_change : (x : Name) → is_change noted first x ≡ is_change controls first x
  same_change (Packet j b t) =
      ap (λ (o : ℕ). not (o == owner_below noted (first j b) j b (suc t))) (same_owner j b t)
      ∙ ap (λ (o : ℕ). not (owner_below controls (first j b) j b t == o)) (same_owner j b (suc t))
  same_change _ = refl

  same_move : (x : Name) → move_in noted first x ≡ move_in controls first x
  same_move (Packet j b t) =
      ap (λ (o : ℕ). record { time = t; stage = j; bin = b; from = o; to = owner_below noted (first j b) j b (suc t) }) (same_owner j b t)
      ∙ ap (λ (o : ℕ). record { time = t; stage = j; bin = b; from = owner_below controls (first j b) j b t; to = o }) (same_owner j b (suc t))
  same_move _ = refl

  is_note : (p : ℕ) → p < length notes.noted → IsNoteOf controls (note_at notes.noted p)
  is_note p l = are.each p no_note l

  -- each record of the one list stands in the other
  noted_listed : (x : Name) → In x (map packet_at noted) → In x (map packet_at controls)
  noted_listed x i =
      let r = In_at noted x i in
      let l = r.1 in
      let inside : r.0 < length notes.noted = omega (arith, length-map notes.noted (λ n. n.control)) in
      let n = is_note r.0 inside in
      let same = n.1 ∙ sym (control_at_note notes.noted r.0) in
      subst (λ (y : Name). In y (map packet_at controls)) (ap packet_at same ∙ r.2) (at_In controls (note_at notes.noted r.0).index n.0)

  listed_noted : (x : Name) → In x (map packet_at controls) → In x (map packet_at noted)
  listed_noted x i =
      let r = In_at controls x i in
      let p = place_of_noted notes.noted r.0 (all r.0 r.1) in
      let l = p.1 in
      let inside : p.0 < length noted = omega (arith, length-map notes.noted (λ n. n.control)) in
      let same = control_at_note notes.noted p.0 ∙ sym (is_note p.0 p.1).1 ∙ ap (λ (k : ℕ). control_of controls k) p.2 in
      subst (λ (y : Name). In y (map packet_at noted)) (ap packet_at same ∙ r.2) (at_In noted p.0 inside)

  same_names : ascending (map packet_at noted) ≡ ascending (map packet_at controls)
  same_names =
      let a = map packet_at noted in
      let b = map packet_at controls in
      ascending_unique (ascending a) (ascending b) (ascending_ascends a) (ascending_ascends b)
      (λ x i. ascending_In x b (noted_listed x (In_ascending x a i)))
      (λ x i. ascending_In x a (listed_noted x (In_ascending x b i)))

  pub same_moves : moves_of notes ≡ moves_in controls first
  same_moves =
      map_same (move_in noted first) (move_in controls first) same_move (filter (is_change noted first) (ascending (map packet_at noted)))
      ∙ ap (map (move_in controls first))
      (filter_same (is_change noted first) (is_change controls first) same_change (ascending (map packet_at noted))
      ∙ ap (filter (is_change controls first)) same_names)

-- the notes tell owners and moves as the job's outline does
pub owners_told : {Cell : Type 0} (q : QueryFacts Cell) (job : JobFacts) (notes : Notes) → AreNotesOf job.controls notes → ((i : ℕ) → i < length job.controls → is_noted notes.noted i ≡ true) → notes.layout ≡ layout_of job → TellOwners (outline_of q job) notes
unfolding moves_of_outline owner_of_outline
owners_told q job notes are all layout = record {
  owners = λ j b t. same_owner job.controls notes are all j b t ∙ ap (λ (l : Layout). owner_below job.controls (first_owner l j b) j b t) layout;
  moves = same_moves job.controls notes are all ∙ ap (λ (l : Layout). moves_in job.controls (λ stage bin. first_owner l stage bin)) layout;
}

-- what follows from three facts of a value, if there is one
pub IfOk-three : {X E : Type 0} (r : Result X E) (P Q R S : X → Type 0) → ((x : X) → P x → Q x → R x → S x) → IfOk r P → IfOk r Q → IfOk r R → IfOk r S
IfOk-three (Ok x) P Q R S f p q r = f x p q r
IfOk-three (Err e) P Q R S f p q r = tt

-- with the next record noted too, the records so far are, and no others

pub still_noted : (ns new : List Note) (note : Note) (k : ℕ) → new ≡ with_note ns note → k < note.index + 1 → ((i : ℕ) → i < note.index → is_noted ns i ≡ true) → is_noted new k ≡ true
still_noted ns new note k grew l before =
    ap (λ (x : List Note). is_noted x k) grew
    ∙ noted_with ns note k
    ∙ ⊎_elim
    (λ (e : (note.index == k) ≡ true). ap (λ (b : Bool). b || is_noted ns k) e)
    (λ (e : (note.index == k) ≡ false).
    let apart : note.index ≡ k → ⊥ = λ s. both_ways (note.index == k) e (eq-eqb note.index k s) in
    ap (λ (b : Bool). b || is_noted ns k) e ∙ before k (omega arith))
    (cases_Bool (note.index == k))

pub still_later : (ns new : List Note) (note : Note) (k : ℕ) → new ≡ with_note ns note → note.index + 1 ≤ k → ((i : ℕ) → note.index ≤ i → is_noted ns i ≡ false) → is_noted new k ≡ false
still_later ns new note k grew l before =
    let apart : note.index ≡ k → ⊥ = λ s. omega arith in
    let other = false_from_ne_true (note.index == k) (λ (e : (note.index == k) ≡ true). apart (eqb-true note.index k e)) in
    ap (λ (x : List Note). is_noted x k) grew ∙ noted_with ns note k ∙ ap (λ (b : Bool). b || is_noted ns k) other ∙ before k (omega arith)
