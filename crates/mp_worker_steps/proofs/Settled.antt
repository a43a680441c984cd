-- The time that a worker settles.
use Rattle.std.proofs.Common.{◌≡◌, ◌∙◌, ℕ, sym, subst}
use Rattle.mp_names.specs.declared.kinds.Kind.TheVariants.{Settle}
use Rattle.mp_names.specs.declared.names.Name.{Name}
use Rattle.mp_names.specs.declared.names.Name.TheVariants.{Packet, Settled}
use Rattle.mp_names.specs.Logs.{Log, with_settled}
use Rattle.mp_names.specs.Names.{In, IsLeast}
use Rattle.mp_names.specs.Keeping.{IsUnsettled}
use Rattle.mp_names.specs.Outlines.{IsOwedBy, OutlineIsSound}
use Rattle.mp_model.specs.Facts.{JobFacts, QueryFacts}
use Rattle.mp_outline.specs.JobOutline.{outline_of}
use Rattle.mp_rows.specs.Entries.{AreChanges}
use Rattle.mp_rows_laws.specs.Changes.{settled_at}
use Rattle.mp_rows_laws.proofs.Settled.{settled}
use Rattle.mp_handoff.specs.Due.{MoversMatchLogAndSeen, MaySettleHere}
use Rattle.mp_handoff.specs.MoversState.{MoversState}
use Rattle.mp_handoff.specs.MoversOf.{IsMoversOf}
use Rattle.mp_worker_invariant.specs.Kept.{with_movers}
use Rattle.mp_worker_invariant.specs.Laws.{CanDo}
use Rattle.mp_worker_invariant.specs.Parts.{AreMoversAt, ArePartsOf, Parts}
use Rattle.mp_worker_invariant.proofs.Standing.{movers_informed, steps, told}

module _ {Cell : Type 0} {q : QueryFacts Cell} {job : JobFacts} {p : Parts Cell} (sound : OutlineIsSound (outline_of q job)) (are : ArePartsOf q job p) (j : ℕ)
    (m : MoversState) (at : AreMoversAt q job p.number p.log j m) where
  informed : MoversMatchLogAndSeen (outline_of q job) p.log p.notes p.seen m
  informed = movers_informed sound are j m at

  -- what is told of movers that are asked by a log
  abbrev IfInformed : (Log → Type 0) → Type 0
  IfInformed P = (l : Log) → MoversMatchLogAndSeen (outline_of q job) l p.notes p.seen m → P l

  -- where they settle none, none may be settled
  pub none_to_settle : ((l : Log) (t : ℕ) → MoversMatchLogAndSeen (outline_of q job) l p.notes p.seen m → MaySettleHere (outline_of q job) l p.seen m t → ⊥) → (x : Name) → CanDo q job p (Settle j) x → ⊥
  none_to_settle none x can =
      (told sound are).no_settle j
      (λ t least passed sent.
      none p.log t informed (record {
        least = subst (λ (i : ℕ). IsLeast (IsUnsettled (outline_of q job) p.log i) (Settled i t)) (sym at.0) least;
        passed = passed;
        sent = λ b owed. subst (λ (i : ℕ). In (Packet i b t) p.log.sent) (sym at.0)
            (sent b (subst (λ (i : ℕ). IsOwedBy (outline_of q job) p.number (Packet i b t)) at.0 (subst (λ (w : ℕ). IsOwedBy (outline_of q job) w (Packet m.stage b t)) at.1 owed)));
      }))
      x can

  module _ (t : ℕ) (may : IfInformed (λ l. MaySettleHere (outline_of q job) l p.seen m t)) where
    here : MaySettleHere (outline_of q job) p.log p.seen m t
    here = may p.log informed

    least_here : IsLeast (IsUnsettled (outline_of q job) p.log j) (Settled j t)
    least_here = subst (λ (i : ℕ). IsLeast (IsUnsettled (outline_of q job) p.log i) (Settled i t)) at.0 here.least

    all_sent : (b : ℕ) → IsOwedBy (outline_of q job) p.number (Packet j b t) → In (Packet j b t) p.log.sent
    all_sent b owed =
        subst (λ (i : ℕ). In (Packet i b t) p.log.sent) at.0
        (here.sent b (subst (λ (w : ℕ). IsOwedBy (outline_of q job) w (Packet m.stage b t)) (sym at.1) (subst (λ (i : ℕ). IsOwedBy (outline_of q job) p.number (Packet i b t)) (sym at.0) owed)))

    pub can_settle : CanDo q job p (Settle j) (Settled j t)
    can_settle = (told sound are).settle j t least_here here.passed all_sent

    -- it is to be settled no longer
    pub settled_counted : AreChanges (outline_of q job) p.number p.log (with_settled p.log (Settled j t)) (settled_at j t)
    settled_counted = settled (outline_of q job) p.number p.log j t least_here.0

    pub settled_kept : (next : MoversState) → next.stage ≡ m.stage → next.worker ≡ m.worker → IfInformed (λ l. IsMoversOf (outline_of q job) (with_settled l (Settled m.stage t)) next)
        → ArePartsOf q job (with_movers p (with_settled p.log (Settled j t)) j next)
    settled_kept next stage same holds =
        (steps sound are).settle j t next least_here here.passed all_sent
        (stage ∙ at.0, same ∙ at.1, subst (λ (i : ℕ). IsMoversOf (outline_of q job) (with_settled p.log (Settled i t)) next) at.0 (holds p.log informed))
