-- The list of a stage that is there.
use Rattle.std.proofs.Common.{◌≡◌, ◌∙◌, ap, arith, length, sym}
use Rattle.std.proofs.Math.ListN.{get_or-map}
use Rattle.std.proofs.lemmas.Grind.{common_steps}
use Rattle.std.proofs.lemmas.List.{length-map}
use Rattle.mp_model.specs.Tables.{table_of}
use Rattle.mp_job_lists.proofs.Stages.{names_at, names_count}
use Rattle.mp_job_lists.proofs.lists.JobListsOutlineLists.records.Goals as goal

pub index-requires : goal.index-requires
index-requires g c =
    let q = table_of g.Q.Query.facts g.J.Naming.job in
    let records = c.self.inside.records.items in
    let count : length records ≡ g.J.Naming.job.shape.stages = sym (length-map records (λ names. names.items)) ∙ ap length c.self.invariant.records_are ∙ names_count q g.J.Naming.job.events g.J.Naming.job.shape.stages in
    grind (arith, common_steps)

pub returns : goal.returns
returns g c =
    let q = table_of g.Q.Query.facts g.J.Naming.job in
    let records = c.self.inside.records.items in
    let v = c.index.result.now in
    let there = names_at q g.J.Naming.job c.args.stage v.items c.requires in
    let of_list = rw c.self.invariant.records_are at (get_or-map (λ names. names.items) records c.args.stage v) in
    c.as_slice.ensures.value ∙ ap (λ names. names.items) c.index.ensures ∙ sym of_list ∙ there
