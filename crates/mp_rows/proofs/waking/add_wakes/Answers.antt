use Rattle.std.proofs.Common.{[], ◌++◌, ap}
use Rattle.mp_names.specs.declared.controls.Shape.{Shape}
use Rattle.mp_model.specs.Tables.{table_of}
use Rattle.mp_rows.proofs.Wakes.{all_bins, entries_more, entries_none, none_below, one_bin_more}
use Rattle.mp_rows.proofs.waking.add_wakes.Goals as goal

pub loop-bin-init : goal.loop-bin-init
loop-bin-init g c = let job = c.args.job.now in ([], none_below (table_of g.Q.Query.facts job) job c.args.worker, entries_none c.args.entries.now.items)

pub loop-bin-preserved : goal.loop-bin-preserved
loop-bin-preserved g c =
    let job = c.args.job.now in
    let before = c.loop-bin.invariant in
    let own = c.own_wakes.result.now in (
      before.0 ++ own,
      one_bin_more (table_of g.Q.Query.facts job) job c.args.worker c.loop-bin.bin before.0 own before.1 c.own_wakes.ensures,
      entries_more _ _ _ before.0 own before.2 c.in_ok-add_each.ensures,
    )

pub returns : goal.returns
returns g c =
    let job = c.args.job.now in
    let h = c.loop-bin.invariant in
    let all = ap (λ (s : Shape). s.bins) c.shape-bin-end.ensures.shape in
    (h.0, all_bins (table_of g.Q.Query.facts job) job c.args.worker _ _ h.0 all c.loop-bin-test.false c.loop-bin.auto.bin-end h.1, h.2)
