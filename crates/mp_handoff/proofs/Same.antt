-- Movers of a log that tells them the same, and of logs with a name more.
use Rattle.std.proofs.Common.{◌≡◌, ◌⊎◌, ◌==◌, ◌++◌, ℕ, Bool, true, false, List, [], ◌∷◌, Contains, filter, refl, sym, ◌∙◌, subst, inl, inr, ⊎_elim}
use Rattle.std.specs.List.{list_any}
use Rattle.std.proofs.lemmas.List.{append-nil}
use Rattle.std.proofs.lemmas.List.Elements.{filter-append}
use Rattle.std.proofs.lemmas.Bool.{and_left, both_ways, eq-eqb}
use Rattle.mp_names.specs.declared.names.Name.{Name}
use Rattle.mp_names.specs.declared.names.Name.TheVariants.{Ctrl, Packet, Settled}
use Rattle.mp_names.specs.Names.{has, In, is_packet, is_settled}
use Rattle.mp_names.specs.Outlines.{Outline, control_at}
use Rattle.mp_names.specs.Logs.{Log, is_ctrl_of, is_noted, with_applied, with_ingested, with_sent, with_settled, with_took}
use Rattle.mp_names.proofs.Lists.{any_at, any_from, In_here, In_left, In_push, In_right}
use Rattle.mp_handoff.specs.Laws.{is_control_of, MoversAlwaysStay}
use Rattle.mp_handoff.specs.MoversState.{MoversState}
use Rattle.mp_handoff.specs.MoversOf.{IsMoversOf}

same_bool : (a b : Bool) → (a ≡ true → b ≡ true) → (b ≡ true → a ≡ true) → a ≡ b
same_bool true b to from = sym (to refl)
same_bool false true to from = from refl
same_bool false false to from = refl

-- a name more

pub In_last : (x : Name) (xs : List Name) → In x (xs ++ x ∷ [])
In_last x xs = In_right x xs (x ∷ []) (In_here x [])

pub has_other : (x y : Name) (xs : List Name) → (x ≡ y → ⊥) → has (xs ++ x ∷ []) y ≡ has xs y
has_other x y xs n = same_bool (has (xs ++ x ∷ []) y) (has xs y) (λ i. ⊎_elim (λ (k : In y xs). k) (λ (e : x ≡ y). absurd (n e)) (In_push y x xs i)) (λ i. In_left y xs (x ∷ []) i)

module _ (p : Name → Bool) (xs : List Name) (x : Name) where
  pub any_before : list_any p xs ≡ true → list_any p (xs ++ x ∷ []) ≡ true
  any_before h = let a = any_at p xs h in any_from p a.0 (xs ++ x ∷ []) (In_left a.0 xs (x ∷ []) a.1) a.2

  pub any_last : p x ≡ true → list_any p (xs ++ x ∷ []) ≡ true
  any_last h = any_from p x (xs ++ x ∷ []) (In_last x xs) h

  pub any_cases : list_any p (xs ++ x ∷ []) ≡ true → (list_any p xs ≡ true) ⊎ (p x ≡ true)
  any_cases h =
      let a = any_at p (xs ++ x ∷ []) h in
      ⊎_elim (λ (i : In a.0 xs). inl (any_from p a.0 xs i a.2)) (λ (e : x ≡ a.0). inr (subst (λ (y : Name). p y ≡ true) (sym e) a.2)) (In_push a.0 x xs a.1)

  pub any_other : p x ≡ false → list_any p (xs ++ x ∷ []) ≡ list_any p xs
  any_other n = same_bool (list_any p (xs ++ x ∷ [])) (list_any p xs) (λ h. ⊎_elim (λ (k : list_any p xs ≡ true). k) (λ (e : p x ≡ true). absurd (both_ways (p x) n e)) (any_cases h)) any_before

  -- what is left of a list with an item more
  pub filter_put_in : p x ≡ true → filter p (xs ++ x ∷ []) ≡ filter p xs ++ x ∷ []
  filter_put_in e = filter-append p xs (x ∷ []) ∙ rw e refl

  pub filter_left_out : p x ≡ false → filter p (xs ++ x ∷ []) ≡ filter p xs
  filter_left_out e = filter-append p xs (x ∷ []) ∙ rw e (append-nil (filter p xs))

-- the new log says of the stage what the old one said, and has all control records that it had
pub same_told :
    (o : Outline) (log new : Log) (m : MoversState)
    → IsMoversOf o log m
    → ((t : ℕ) → is_noted o new m.stage t ≡ is_noted o log m.stage t)
    → ((i : ℕ) → In (Ctrl i m.worker) log.took → In (Ctrl i m.worker) new.took)
    → ((b t : ℕ) → has new.sent (Packet m.stage b t) ≡ has log.sent (Packet m.stage b t))
    → ((t : ℕ) → has new.settled (Settled m.stage t) ≡ has log.settled (Settled m.stage t))
    → filter (is_packet m.stage) new.sent ≡ filter (is_packet m.stage) log.sent
    → IsMoversOf o new m
same_told o log new m h noted took sent settled packets =
    record {
      unsettled = λ t. (
        (λ c. let u = (h.unsettled t).0 c in (u.0, noted t ∙ u.1, settled t ∙ u.2)),
        (λ u. (h.unsettled t).1 (u.0, sym (noted t) ∙ u.1, sym (settled t) ∙ u.2)),
      );
      sent = λ b t owed. sent b t ∙ h.sent b t owed;
      known = λ i t done l le.
          took i (h.known i t (⊎_elim (λ (s : In (Settled m.stage t) new.settled). inl (sym (settled t) ∙ s)) (λ (s : (b : ℕ) × In (Packet m.stage b t) new.sent). inr (s.0, sym (sent s.0 t) ∙ s.1)) done) l le);
      settled = λ b t s owed. sent b t ∙ h.settled b t (sym (settled t) ∙ s) owed;
      packets = h.packets ∙ sym packets;
    }

-- room is no part of what is told
pub other_room : (o : Outline) (log : Log) (m : MoversState) (us : List ℕ) (room : ℕ) → us ≡ m.unsettled → IsMoversOf o log m → IsMoversOf o log (record m { unsettled = us; room = room })
other_room o log m us room e h = record {
  unsettled = λ t. ((λ c. (h.unsettled t).0 (subst (λ (l : List ℕ). Contains l t) e c)), (λ u. subst (λ (l : List ℕ). Contains l t) (sym e) ((h.unsettled t).1 u)));
  sent = h.sent;
  known = h.known;
  settled = h.settled;
  packets = h.packets;
}

pub other_room_for_sent : (o : Outline) (log : Log) (m : MoversState) (room : ℕ) → IsMoversOf o log m → IsMoversOf o log (record m { room_for_sent = room })
other_room_for_sent o log m room h = record {
  unsettled = h.unsettled;
  sent = h.sent;
  known = h.known;
  settled = h.settled;
  packets = h.packets;
}

-- names of other stages and kinds

own_stage : (j : ℕ) → (j == j) ≡ false → ⊥
own_stage j e = both_ways (j == j) e (eq-eqb j j refl)

no_control : (o : Outline) (j t : ℕ) (x : Name) → is_control_of o j x ≡ false → is_ctrl_of o j t x ≡ false
no_control o j t (Ctrl i v) e = and_left ((control_at o i).stage == j) ((control_at o i).time == t) e
no_control o j t _ e = refl

pub movers_always_stay : MoversAlwaysStay
movers_always_stay o log m h =
    record {
      ingested = λ x. same_told o log (with_ingested log x) m h (λ t. refl) (λ i k. k) (λ b t. refl) (λ t. refl) refl;
      applied = λ x. same_told o log (with_applied log x) m h (λ t. refl) (λ i k. k) (λ b t. refl) (λ t. refl) refl;
      took = λ x n. same_told o log (with_took log x) m h (λ t. any_other (is_ctrl_of o m.stage t) log.took x (no_control o m.stage t x n)) (λ i k. In_left (Ctrl i m.worker) log.took (x ∷ []) k) (λ b t. refl) (λ t. refl) refl;
      sent = λ x n. same_told o log (with_sent log x) m h (λ t. refl) (λ i k. k) (λ b t. has_other x (Packet m.stage b t) log.sent (λ e. own_stage m.stage (subst (λ (y : Name). is_packet m.stage y ≡ false) e n))) (λ t. refl) (filter_left_out (is_packet m.stage) log.sent x n);
      settled = λ x n. same_told o log (with_settled log x) m h (λ t. refl) (λ i k. k) (λ b t. refl) (λ t. has_other x (Settled m.stage t) log.settled (λ e. own_stage m.stage (subst (λ (y : Name). is_settled m.stage y ≡ false) e n))) refl;
    }
