use Rattle.std.proofs.Common.{◌≡◌, take}
use Rattle.std.specs.List.{filter_map}
use Rattle.mp_model.specs.declared.record.Rec.{Rec}
use Rattle.mp_q_window.specs.Counts.{row_at}
use Rattle.mp_q_window.proofs.counts.rows.Given as goal

abbrev pub invariant-loop-rec : goal.invariant-loop-rec
invariant-loop-rec l = l.rows.items ≡ filter_map (λ (r : Rec). row_at l.greatest r.value) (take l.rec-index l.recs)
