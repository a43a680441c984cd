-- That the moves of a list of control records are those of its notes, where every record is noted.
use Rattle.std.proofs.Common.{◌≡◌, ℕ, zero, suc, ◌<◌, ◌==◌, true, List, [], ◌∷◌, length, map, filter, get_or, refl, sym, ap, ◌∙◌, subst, ⊎_elim, arith}
use Rattle.std.specs.List.{All, AllPairs, Contains}
use Rattle.std.proofs.lemmas.Bool.{eqb-false, false≢true, ne_eqb, not-true, not_from_false}
use Rattle.std.proofs.lemmas.List.Elements.{All-cons, All-nil}
use Rattle.std.proofs.lemmas.List.Kept.{AllPairs-cons}
use Rattle.mp_names.specs.declared.names.Name.{Name}
use Rattle.mp_names.specs.declared.names.Name.TheVariants.{Packet}
use Rattle.mp_names.specs.declared.controls.Control.{Control}
use Rattle.mp_names.specs.declared.controls.Move.{Move}
use Rattle.mp_names.specs.Names.{In, IsAscending, IsBefore, Less, ascending}
use Rattle.mp_names.specs.Controls.{control_of, owner_below}
use Rattle.mp_names.proofs.Lists.{In_cases, In_filter, In_here, In_later, filter_In}
use Rattle.mp_names.proofs.Orders.{In_ascending, ascending_In, ascending_ascends, filter_ascends}
use Rattle.mp_bins.specs.Notes.{Notes, controls_in, first_owner, is_move_of, move_of, moves_of, owner_before}
use Rattle.mp_bins.specs.Laws.{AreAllNoted, AreMovesOf, AreNotesOf, ComesFirst, IsMoveOf}
use Rattle.mp_bins.proofs.Searching.{change_found}
use Rattle.mp_bins.proofs.Told.{told}

-- Lists of moves made of names

module _ (f : Name → Move) where
  mapped : (x : Name) (xs : List Name) → In x xs → Contains (map f xs) (f x)
  mapped x [] i = absurd (false≢true i)
  mapped x (y ∷ ys) i =
      ⊎_elim
      (λ (e : y ≡ x). (0, omega arith, ap f e))
      (λ (j : In x ys). let r = mapped x ys j in let l = r.1 in (suc r.0, omega arith, r.2))
      (In_cases x y ys i)

  named : (m : Move) (xs : List Name) (k : ℕ) → k < length (map f xs) → get_or (map f xs) k m ≡ m → (x : Name) × In x xs × (f x ≡ m)
  named m [] k l e = absurd (omega arith)
  named m (x ∷ xs) zero l e = (x, In_here x xs, e)
  named m (x ∷ xs) (suc k) l e = let r = named m xs k (omega arith) e in (r.0, In_later r.0 x xs r.1, r.2)

-- Packets

abbrev IsOnePacket : Name → Type 0
IsOnePacket x = (j : ℕ) × (b : ℕ) × (t : ℕ) × (x ≡ Packet j b t)

abbrev packet_of : Control → Name
packet_of c = Packet c.stage c.bin c.time

of_control : (cs : List Control) (x : Name) → In x (map packet_of cs) → IsOnePacket x
of_control [] x i = absurd (false≢true i)
of_control (c ∷ cs) x i = ⊎_elim (λ (e : packet_of c ≡ x). (c.stage, c.bin, c.time, sym e)) (λ (j : In x (map packet_of cs)). of_control cs x j) (In_cases x (packet_of c) (map packet_of cs) i)

control_In : (cs : List Control) (i : ℕ) → i < length cs → In (packet_of (control_of cs i)) (map packet_of cs)
control_In [] i l = absurd (omega arith)
control_In (c ∷ cs) zero l = In_here (packet_of c) (map packet_of cs)
control_In (c ∷ cs) (suc i) l = In_later (packet_of (control_of cs i)) (packet_of c) (map packet_of cs) (control_In cs i (omega arith))

-- the order of packets is that of their moves
module _ (f : Name → Move) (same : (j b t : ℕ) → ((f (Packet j b t)).time ≡ t) × ((f (Packet j b t)).stage ≡ j) × ((f (Packet j b t)).bin ≡ b)) where
  comes_first : (i a s j b t : ℕ) → Less (Packet i a s) (Packet j b t) → ComesFirst (f (Packet i a s)) (f (Packet j b t))
  comes_first i a s j b t h =
      let p = same i a s in
      let q = same j b t in
      let k : IsBefore (s ∷ i ∷ a ∷ []) (t ∷ j ∷ b ∷ []) = ⊎_elim (λ (l : 2 < 2). absurd (omega arith)) (λ (l : (2 ≡ 2) × IsBefore (s ∷ i ∷ a ∷ []) (t ∷ j ∷ b ∷ [])). l.1) h in
      rw (p.0, p.1, p.2, q.0, q.1, q.2) k

  all_later : (x : Name) (ys : List Name) → IsOnePacket x → ((y : Name) → In y ys → IsOnePacket y) → ((y : Name) → In y ys → Less x y) → All (ComesFirst (f x)) (map f ys)
  all_later x [] p ps h = All-nil (ComesFirst (f x))
  all_later x (y ∷ ys) p ps h =
      let here = In_here y ys in
      let q = ps y here in
      let first : ComesFirst (f x) (f y) =
      subst (λ (z : Name). ComesFirst (f z) (f y)) (sym p.3)
      (subst (λ (z : Name). ComesFirst (f (Packet p.0 p.1 p.2)) (f z)) (sym q.3)
      (comes_first p.0 p.1 p.2 q.0 q.1 q.2 (subst (λ (z : Name). Less z (Packet q.0 q.1 q.2)) p.3 (subst (λ (z : Name). Less x z) q.3 (h y here))))) in
      All-cons (ComesFirst (f x)) (f y) (map f ys) first (all_later x ys p (λ z i. ps z (In_later z y ys i)) (λ z i. h z (In_later z y ys i)))

  in_turn : (xs : List Name) → IsAscending xs → ((x : Name) → In x xs → IsOnePacket x) → AllPairs ComesFirst (map f xs)
  in_turn [] a ps = λ i j d l m. absurd (omega arith)
  in_turn (x ∷ xs) a ps =
      let rest = λ (y : Name) (i : In y xs). ps y (In_later y x xs i) in
      AllPairs-cons ComesFirst (f x) (map f xs) (all_later x xs (ps x (In_here x xs)) rest a.0) (in_turn xs a.1 rest)

-- Moves by what was noted

module _ (notes : Notes) where
  abbrev controls : List Control
  controls = controls_in notes.noted

  abbrev names : List Name
  names = filter (is_move_of notes) (ascending (map packet_of controls))

  packets : (x : Name) → In x names → IsOnePacket x
  packets x i = of_control controls x (In_ascending x (map packet_of controls) (In_filter (is_move_of notes) x (ascending (map packet_of controls)) i).0)

  pub moves_in_order : AllPairs ComesFirst (moves_of notes)
  moves_in_order = in_turn (move_of notes) (λ j b t. (refl, refl, refl)) names (filter_ascends (is_move_of notes) (ascending (map packet_of controls)) (ascending_ascends (map packet_of controls))) packets

  abbrev before : ℕ → ℕ → ℕ → ℕ
  before j b t = owner_before notes j b t

  changed_there : (j b t : ℕ) → is_move_of notes (Packet j b t) ≡ true → before j b t ≡ before j b (suc t) → ⊥
  changed_there j b t h = eqb-false (before j b t) (before j b (suc t)) (not-true (before j b t == before j b (suc t)) h)

  pub is_noted_move : (m : Move) → Contains (moves_of notes) m → IsMoveOf controls notes.layout m
  is_noted_move m h =
      let r = named (move_of notes) m names h.0 h.1 h.2 in
      let p = packets r.0 r.1 in
      let there = subst (λ (x : Name). is_move_of notes x ≡ true) p.3 (In_filter (is_move_of notes) r.0 (ascending (map packet_of controls)) r.1).1 in
      subst (IsMoveOf controls notes.layout) (ap (move_of notes) (sym p.3) ∙ r.2) (record { from = refl; to = refl; changed = changed_there p.0 p.1 p.2 there })

  pub noted_move_is : (m : Move) → IsMoveOf controls notes.layout m → Contains (moves_of notes) m
  noted_move_is m h =
      let ne : before m.stage m.bin m.time ≡ before m.stage m.bin (suc m.time) → ⊥ = λ e. h.changed (h.from ∙ e ∙ sym h.to) in
      let c = change_found controls (first_owner notes.layout m.stage m.bin) m.stage m.bin m.time ne in
      let x0 = control_In controls c.0 c.1 in
      let x1 = subst (λ (n : ℕ). In (Packet n (control_of controls c.0).bin (control_of controls c.0).time) (map packet_of controls)) c.2 x0 in
      let x2 = subst (λ (n : ℕ). In (Packet m.stage n (control_of controls c.0).time) (map packet_of controls)) c.3 x1 in
      let x3 = subst (λ (n : ℕ). In (Packet m.stage m.bin n) (map packet_of controls)) c.4 x2 in
      let x = Packet m.stage m.bin m.time in
      let is = not_from_false (before m.stage m.bin m.time == before m.stage m.bin (suc m.time)) (ne_eqb (before m.stage m.bin m.time) (before m.stage m.bin (suc m.time)) ne) in
      let same : move_of notes x ≡ m =
      ap (λ (w : ℕ). record m { from = w; to = before m.stage m.bin (suc m.time) }) (sym h.from)
      ∙ ap (λ (w : ℕ). record m { to = w }) (sym h.to) in
      subst (Contains (moves_of notes)) same (mapped (move_of notes) x names (filter_In (is_move_of notes) x (ascending (map packet_of controls)) (ascending_In x (map packet_of controls) x3) is))

-- Where every record is noted

module _ (controls : List Control) (notes : Notes) (are : AreNotesOf controls notes) (all : AreAllNoted controls notes) where
  told_at : (j b u : ℕ) → owner_before notes j b u ≡ owner_below controls (first_owner notes.layout j b) j b u
  told_at j b u = told controls notes u are (λ i l m. all i l) j b u (omega arith)

  to_list : (m : Move) → IsMoveOf (controls_in notes.noted) notes.layout m → IsMoveOf controls notes.layout m
  to_list m h = record { from = h.from ∙ told_at m.stage m.bin m.time; to = h.to ∙ told_at m.stage m.bin (suc m.time); changed = h.changed }

  from_list : (m : Move) → IsMoveOf controls notes.layout m → IsMoveOf (controls_in notes.noted) notes.layout m
  from_list m h = record { from = h.from ∙ sym (told_at m.stage m.bin m.time); to = h.to ∙ sym (told_at m.stage m.bin (suc m.time)); changed = h.changed }

  pub moves_told : AreMovesOf controls notes.layout (moves_of notes)
  moves_told = record { each = λ m. (λ h. to_list m (is_noted_move notes m h), λ h. noted_move_is notes m (from_list m h)); in_order = moves_in_order notes }
