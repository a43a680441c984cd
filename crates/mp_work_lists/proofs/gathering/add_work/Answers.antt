use Rattle.std.proofs.Common.{◌∙◌, ◌++◌, ◌∷◌, [], List, ap, subst, sym}
use Rattle.mp_chart.specs.declared.work.Work.{Work}
use Rattle.mp_chart.specs.Left.{part_at}
use Rattle.mp_work_lists.specs.Parts.{HasMore}
use Rattle.mp_work_lists.proofs.Growing.{more_by_push}
use Rattle.mp_work_lists.proofs.gathering.add_work.Goals as goal

pub returns-in_ok-push : goal.returns-in_ok-push
returns-in_ok-push c =
    let work = c.args.work in
    let works = c.args.works.now.items in
    let is = c.in_ok-push.ensures.items ∙ ap (λ (xs : List Work). xs ++ work ∷ []) (c.add_to_last.ensures.same c.if-not-add_to_last.true) in
    subst (HasMore (λ a t. part_at a t work) works) (sym is) (more_by_push work c.requires works)
