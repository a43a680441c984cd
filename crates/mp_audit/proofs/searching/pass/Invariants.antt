use Rattle.std.proofs.Common.{◌≡◌, ◌<◌, ℕ, length}
use Rattle.mp_machine.specs.Worlds.{World}
use Rattle.mp_names.specs.declared.kinds.Kept.{Kept}
use Rattle.mp_journal_laws.specs.Searches.{MayBeTaken}
use Rattle.mp_audit.specs.Going.{Leads}
use Rattle.mp_audit.specs.Lists.{list_of}
use Rattle.mp_audit.proofs.searching.pass.Given as goal

abbrev pub invariant-loop-worker : goal.invariant-loop-worker
invariant-loop-worker g l =
    let o = g.P.Play.outline l.initial.player in
    let deep = g.P.Play.depth l.initial.player in
    record {
      outline : g.P.Play.outline l.player ≡ o;
      depth : g.P.Play.depth l.player ≡ deep;
      workers : length l.left ≡ length l.initial.left;
      went : (world : World) → g.P.Play.shows l.initial.player world → (after : World) × Leads o deep world (list_of l.initial.left) after (list_of l.left) l.taken × g.P.Play.shows l.player after × (l.taken ≡ 0 → (w : ℕ) → w < l.worker → (step : Kept) → MayBeTaken o deep after (list_of l.left) w step → ⊥);
    }
