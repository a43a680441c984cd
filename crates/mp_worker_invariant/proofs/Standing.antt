-- The router, the host and the movers of a stage of a worker, and what they are asked by.
use Rattle.std.proofs.Common.{◌≡◌, ℕ, ◌<◌, get_or, sym, subst}
use Rattle.mp_names.specs.Outlines.{OutlineIsSound}
use Rattle.mp_model.specs.Facts.{JobFacts, QueryFacts}
use Rattle.mp_outline.specs.JobOutline.{outline_of}
use Rattle.mp_route.specs.Routed.{Routed}
use Rattle.mp_host_laws.specs.Hosted.{Hosted}
use Rattle.mp_host_laws.specs.HostOf.{HostMatchesLogAndSeen, OwnersAreCurrent}
use Rattle.mp_handoff.specs.Due.{MoversMatchLogAndSeen}
use Rattle.mp_handoff.specs.MoversState.{MoversState}
use Rattle.mp_handoff.specs.MoversOf.{KnowsMoves}
use Rattle.mp_worker_invariant.specs.Kept.{PartsAreAsked, StepsKeepParts}
use Rattle.mp_worker_invariant.specs.Laws.{ConditionsAreTold}
use Rattle.mp_worker_invariant.specs.Parts.{AreMoversAt, ArePartsOf, IsHostAt, IsRouterAt, Parts}
use Rattle.mp_worker_invariant.proofs.Asked.{parts_are_asked}
use Rattle.mp_worker_invariant.proofs.Conditions.{conditions_are_told}
use Rattle.mp_worker_invariant.proofs.Kept.{steps_keep_parts}

module _ {Cell : Type 0} {q : QueryFacts Cell} {job : JobFacts} {p : Parts Cell} (sound : OutlineIsSound (outline_of q job)) (are : ArePartsOf q job p) where
  pub told : ConditionsAreTold q job p
  told = conditions_are_told q job sound p are

  pub steps : StepsKeepParts q job p
  steps = steps_keep_parts q job sound p are

  pub asked : PartsAreAsked q job p
  asked = parts_are_asked q job sound p are

module _ {Cell : Type 0} {q : QueryFacts Cell} {job : JobFacts} {p : Parts Cell} (are : ArePartsOf q job p) (j : ℕ) (below : j < job.shape.stages) where
  pub router_at : (r : Routed) → r ≡ get_or p.routers j r → IsRouterAt q job p.number p.log j r
  router_at r is = subst (IsRouterAt q job p.number p.log j) (sym is) (are.routers j r (subst (λ (n : ℕ). j < n) (sym are.all_routers) below))

  pub host_at : (h : Hosted Cell) → h ≡ get_or p.hosts j h → IsHostAt q job p.number p.log j h
  host_at h is = subst (IsHostAt q job p.number p.log j) (sym is) (are.hosts j h (subst (λ (n : ℕ). j < n) (sym are.all_hosts) below))

  pub movers_at : (m : MoversState) → m ≡ get_or p.movers j m → AreMoversAt q job p.number p.log j m
  movers_at m is = subst (AreMoversAt q job p.number p.log j) (sym is) (are.movers j m (subst (λ (n : ℕ). j < n) (sym are.all_movers) below))

module _ {Cell : Type 0} {q : QueryFacts Cell} {job : JobFacts} {p : Parts Cell} (sound : OutlineIsSound (outline_of q job)) (are : ArePartsOf q job p) (j : ℕ) where
  pub informed : (h : Hosted Cell) → IsHostAt q job p.number p.log j h → HostMatchesLogAndSeen q job p.log p.seen h
  informed = (asked sound are).informed j

  pub knows : j < job.shape.stages → (h : Hosted Cell) → IsHostAt q job p.number p.log j h → OwnersAreCurrent q job p.notes p.seen h.stage
  knows below h at = subst (λ (i : ℕ). OwnersAreCurrent q job p.notes p.seen i) (sym at.0) ((asked sound are).owners j below)

  pub movers_informed : (m : MoversState) → AreMoversAt q job p.number p.log j m → MoversMatchLogAndSeen (outline_of q job) p.log p.notes p.seen m
  movers_informed m at =
      let knows = (asked sound are).moves j in (
        at.2,
        subst (λ (w : ℕ). KnowsMoves (outline_of q job) p.log p.notes p.seen w m.stage) (sym at.1) (subst (λ (i : ℕ). KnowsMoves (outline_of q job) p.log p.notes p.seen p.number i) (sym at.0) knows),
      )
