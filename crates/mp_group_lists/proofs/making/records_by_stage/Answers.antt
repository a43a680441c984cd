-- The records of one more stage come to those so far.
use Rattle.std.proofs.Common.{◌∙◌, ℕ, add-one, ap}
use Rattle.mp_names.specs.Names.{ascending}
use Rattle.mp_chart.specs.Entries.{entries_of}
use Rattle.mp_group_lists.specs.Parts.{next_records}
use Rattle.mp_group_lists.proofs.Held.{Part, map_more}
use Rattle.mp_group_lists.proofs.making.records_by_stage.Goals as goal

pub loop-stage-preserved : goal.loop-stage-preserved
loop-stage-preserved g c =
    let o = g.L.OutlineLists.outline c.args.lists.now in
    let j = c.loop-stage.stage in
    map_more (λ (part : Part). part.items) (next_records o) c.loop-stage.records.items c.push.new.self.items c.in_ok-records_of.field-0 j c.in_ok-push.ensures.items c.loop-stage.invariant (c.in_ok-records_of.ensures ∙ ap (λ (n : ℕ). entries_of o (ascending (o.records n))) (add-one j))
