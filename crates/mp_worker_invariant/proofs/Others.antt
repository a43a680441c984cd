-- Parts of which some are others that hold what the log says too.
use Rattle.std.proofs.Common.{◌≡◌, ◌∙◌, ℕ, List, length, refl, set}
use Rattle.std.proofs.lemmas.List.{length-set}
use Rattle.mp_bins.specs.Notes.{Notes}
use Rattle.mp_model.specs.Facts.{JobFacts, QueryFacts}
use Rattle.mp_route.specs.Routed.{Routed}
use Rattle.mp_host_laws.specs.Hosted.{Hosted}
use Rattle.mp_handoff.specs.MoversState.{MoversState}
use Rattle.mp_worker_invariant.specs.Parts.{AreMoversAt, ArePartsOf, AreTaken, AtEach, IsHostAt, IsRouterAt, Parts}
use Rattle.mp_worker_invariant.proofs.Items.{put_at}

module _ {Cell : Type 0} {q : QueryFacts Cell} {job : JobFacts} {p : Parts Cell} (are : ArePartsOf q job p) where
  others : (notes : Notes) (routers : List Routed) (hosts : List (Hosted Cell)) (movers : List MoversState)
      → AreTaken job p.number p.log notes
      → length routers ≡ length p.routers → AtEach routers (IsRouterAt q job p.number p.log)
      → length hosts ≡ length p.hosts → AtEach hosts (IsHostAt q job p.number p.log)
      → length movers ≡ length p.movers → AtEach movers (AreMoversAt q job p.number p.log)
      → ArePartsOf q job (record p { notes = notes; routers = routers; hosts = hosts; movers = movers })
  others notes routers hosts movers taken all_routers at_routers all_hosts at_hosts all_movers at_movers = record {
    worker = are.worker;
    legal = are.legal;
    done = are.done;
    notes = taken;
    controller = are.controller;
    all_routers = all_routers ∙ are.all_routers;
    routers = at_routers;
    all_hosts = all_hosts ∙ are.all_hosts;
    hosts = at_hosts;
    all_movers = all_movers ∙ are.all_movers;
    movers = at_movers;
    unsent = are.unsent;
    unwritten = are.unwritten;
  }

  pub other_notes : (notes : Notes) → AreTaken job p.number p.log notes → ArePartsOf q job (record p { notes = notes })
  other_notes notes taken = others notes p.routers p.hosts p.movers taken refl are.routers refl are.hosts refl are.movers

  pub other_routers : (routers : List Routed) → length routers ≡ length p.routers → AtEach routers (IsRouterAt q job p.number p.log) → ArePartsOf q job (record p { routers = routers })
  other_routers routers all at = others p.notes routers p.hosts p.movers are.notes all at refl are.hosts refl are.movers

  pub other_hosts : (hosts : List (Hosted Cell)) → length hosts ≡ length p.hosts → AtEach hosts (IsHostAt q job p.number p.log) → ArePartsOf q job (record p { hosts = hosts })
  other_hosts hosts all at = others p.notes p.routers hosts p.movers are.notes refl are.routers all at refl are.movers

  pub other_movers : (movers : List MoversState) → length movers ≡ length p.movers → AtEach movers (AreMoversAt q job p.number p.log) → ArePartsOf q job (record p { movers = movers })
  other_movers movers all at = others p.notes p.routers p.hosts movers are.notes refl are.routers refl are.hosts all at

  -- one router is another that holds what the log says
  pub other_router : (j : ℕ) (r : Routed) → IsRouterAt q job p.number p.log j r → ArePartsOf q job (record p { routers = set p.routers j r })
  other_router j r at = other_routers (set p.routers j r) (length-set p.routers j r) (put_at (IsRouterAt q job p.number p.log) p.routers j r at are.routers)
