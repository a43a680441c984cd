use Rattle.std.proofs.Common.{◌∙◌, sym}
use Rattle.std.proofs.lemmas.Result.{IfOk-weaker}
use Rattle.mp_step_lists.proofs.InTurn.{sent_by_index, sent_by_time}
use Rattle.mp_step_lists.proofs.controls.controls_to_send.Goals as goal

pub returns-then-not-is_paced-clause-all : goal.returns-then-not-is_paced-clause-all
returns-then-not-is_paced-clause-all g c =
    let o = g.L.OutlineLists.outline c.args.lists.now in
    IfOk-weaker c.by_index.result _ _ (λ entries are. sent_by_index o (sym c.is_paced.ensures ∙ c.if-not-is_paced.true) entries.items are) c.by_index.ensures

pub returns-clause-all : goal.returns-clause-all
returns-clause-all g c =
    let o = g.L.OutlineLists.outline c.args.lists.now in
    sent_by_time o (sym c.is_paced.ensures ∙ c.if-not-is_paced.false) c.in_ok-entries.entries.items c.sort_by_time.new.entries.items c.in_ok-entries.ensures c.in_ok-sort_by_time.ensures.rising c.in_ok-sort_by_time.ensures.stable
