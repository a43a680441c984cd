-- Movers once a control record is noted.
use Rattle.std.proofs.Common.{◌≡◌, ◌↔◌, ◌==◌, ℕ, IsTrue, Bool, true, false, List, [], ◌∷◌, Contains, refl, sym, ◌∙◌, subst, inl, ⊎_elim, arith}
use Rattle.std.proofs.lemmas.Bool.{and_from, and_parts, both_ways, eq-eqb, eqb-true, false_from_ne_true}
use Rattle.mp_names.specs.declared.names.Name.TheVariants.{Ctrl, Settled}
use Rattle.mp_names.specs.Logs.{Log, is_ctrl_of, is_noted, with_took}
use Rattle.mp_names.specs.Names.{has}
use Rattle.mp_names.specs.Outlines.{Outline, control_at}
use Rattle.mp_names.proofs.Lists.{In_left}
use Rattle.mp_model.specs.Ascending.{placed}
use Rattle.mp_handoff.specs.MoversState.{MoversState}
use Rattle.mp_handoff.specs.MoversOf.{IsMoversOf, IsNewControl}
use Rattle.mp_handoff.proofs.Same.{any_before, any_cases, any_last}
use Rattle.mp_handoff.proofs.Times.{placed_here, placed_there, there_placed}

module _ (o : Outline) (log : Log) (m : MoversState) (t i : ℕ) (h : IsMoversOf o log m) (new : IsNewControl o log m t i) where
  -- a time of which a control record is still to be taken isn't settled
  pub not_settled : has log.settled (Settled m.stage t) ≡ false
  not_settled = false_from_ne_true (has log.settled (Settled m.stage t)) (λ s. let e = new.of_time in both_ways (has log.took (Ctrl i m.worker)) new.not_taken (h.known i t (inl s) new.listed (omega arith)))

  -- so it is noted exactly where it stands there
  pub told : (r : Bool) → (IsTrue r ↔ Contains m.unsettled t) → (r ≡ is_noted o log m.stage t) × (has log.settled (Settled m.stage t) ≡ false)
  told true e = (sym ((h.unsettled t).0 (e.0 refl)).1, not_settled)
  told false e = (sym (false_from_ne_true (is_noted o log m.stage t) (λ n. absurd (both_ways false refl (e.1 ((h.unsettled t).1 (refl, n, not_settled)))))), not_settled)

  of_its_time : is_ctrl_of o m.stage t (Ctrl i m.worker) ≡ true
  of_its_time = and_from ((control_at o i).stage == m.stage) ((control_at o i).time == t) (eq-eqb (control_at o i).stage m.stage new.of_stage) (eq-eqb (control_at o i).time t new.of_time)

  of_no_other : (u : ℕ) → is_ctrl_of o m.stage u (Ctrl i m.worker) ≡ true → t ≡ u
  of_no_other u e = sym new.of_time ∙ eqb-true (control_at o i).time u (and_parts ((control_at o i).stage == m.stage) ((control_at o i).time == u) e).1

  -- the movers with the time at its place
  pub noted_on : (us : List ℕ) (room : ℕ) → us ≡ placed m.unsettled t → IsMoversOf o (with_took log (Ctrl i m.worker)) (record m { unsettled = us; room = room })
  noted_on us room e = record {
    unsettled = λ u. (
      (λ c.
          ⊎_elim
          (λ (same : t ≡ u). (refl, any_last (is_ctrl_of o m.stage u) log.took (Ctrl i m.worker) (subst (λ (v : ℕ). is_ctrl_of o m.stage v (Ctrl i m.worker) ≡ true) same of_its_time), subst (λ (v : ℕ). has log.settled (Settled m.stage v) ≡ false) same not_settled))
          (λ (k : Contains m.unsettled u). let n = (h.unsettled u).0 k in (refl, any_before (is_ctrl_of o m.stage u) log.took (Ctrl i m.worker) n.1, n.2))
          (there_placed t m.unsettled u (subst (λ (l : List ℕ). Contains l u) e c))),
      (λ n.
          subst
          (λ (l : List ℕ). Contains l u)
          (sym e)
          (⊎_elim
          (λ (before : is_noted o log m.stage u ≡ true). placed_there t m.unsettled u ((h.unsettled u).1 (refl, before, n.2)))
          (λ (last : is_ctrl_of o m.stage u (Ctrl i m.worker) ≡ true). subst (λ (v : ℕ). Contains (placed m.unsettled t) v) (of_no_other u last) (placed_here t m.unsettled))
          (any_cases (is_ctrl_of o m.stage u) log.took (Ctrl i m.worker) n.1))),
    );
    sent = h.sent;
    known = λ k u done l le. In_left (Ctrl k m.worker) log.took (Ctrl i m.worker ∷ []) (h.known k u done l le);
    settled = h.settled;
    packets = h.packets;
  }
