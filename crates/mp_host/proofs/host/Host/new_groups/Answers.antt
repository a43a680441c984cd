use Rattle.std.proofs.Common.{◌≡◌, ◌<◌, ◌∙◌, ℕ, List, [], true, false, ap, arith, length, map, subst, sym, take}
use Rattle.mp_model.specs.declared.record.Rec.{Rec}
use Rattle.mp_model.specs.Tables.{table_of}
use Rattle.mp_outline.specs.JobOutline.{name_of_record, outline_of}
use Rattle.mp_outline.proofs.Soundness.{outline_is_sound}
use Rattle.mp_rows_laws.specs.Changes.{new_groups}
use Rattle.mp_rows_laws.proofs.Pushes.{or_false}
use Rattle.mp_rows_laws.proofs.Took.{unapplied}
use Rattle.mp_host_laws.specs.Hosted.{Hosted, StandsInOrder, waits_at}
use Rattle.mp_host_laws.proofs.Waiting.{waits_is_pending}
use Rattle.mp_host.specs.Receiving.{AreToCome, begins_group, groups_begun}
use Rattle.mp_host.proofs.Several.{all_begun, begun_is_new, element_at, one_more_begun}
use Rattle.mp_host.proofs.host.Host.new_groups.Goals as goal
use Rattle.mp_host.proofs.host.Host.new_groups.Goals.{then-begins_group, else-begins_group}

pub loop-at-preserved : goal.loop-at-preserved
loop-at-preserved g c =
    let job = g.J.Naming.job in
    let o = outline_of (table_of g.Q.Query.facts job) job in
    let h = c.args.self.now in
    let rs = c.recs-recs.result.now in
    let i = c.loop-at.at in
    let inside : i < length rs = omega (arith, c.loop-at-test.true) in
    let one = element_at rs i inside in
    let is = c.begins_group.ensures one.0 in
    let same = ap (λ (r : Rec). begins_group h (take i rs) r) one.1 in
    elim c.if-begins_group.branch [
      | then-begins_group w ↦
          let more = one_more_begun o h.worker h.stage h rs i c.loop-at.count one.0 inside one.1 true (same ∙ sym is ∙ w.if-begins_group.true) in
          rw w.count-is (record { few = omega (arith, c.loop-at.invariant.few); whole = sym more ∙ c.loop-at.invariant.whole })
      | else-begins_group w ↦
          let more = one_more_begun o h.worker h.stage h rs i c.loop-at.count one.0 inside one.1 false (same ∙ sym is ∙ w.if-begins_group.false) in
          rw w.count-is (record { few = omega (arith, c.loop-at.invariant.few); whole = omega (arith, more, c.loop-at.invariant.whole) })
    ]

pub returns-clause-told : goal.returns-clause-told
returns-clause-told g c = λ log host good come.
    let laws = g.met.Q.Query g.world.𝓛 g.world.𝓜 g.world.𝓡 ((λ s x. x), (λ x. x), (λ x. x), λ x. x) in
    let job = g.J.Naming.job in
    let q = table_of g.Q.Query.facts job in
    let o = outline_of q job in
    let h = c.args.self.now in
    let j = h.stage in
    let rs = c.args.bundle.now.recs in
    let sound = outline_is_sound q (laws.has_stages job.values) (laws.posts_are_later job.values) (laws.later_stages_post_nothing job.values) job c.self.invariant.legal in
    let order = subst (λ (k : Hosted g.row.Q-Cell.Denot). StandsInOrder q job k) c.self.view_is c.self.invariant.order in
    let inside = subst (λ (k : Hosted g.row.Q-Cell.Denot). k.stage < job.shape.stages) c.self.view_is c.self.invariant.stage in
    let coming : AreToCome o log h.worker (map (name_of_record j) rs) = subst (λ (n : ℕ). AreToCome o log h.worker (map (name_of_record n) rs)) c.requires come in
    let whole = subst (λ (ys : List Rec). c.loop-at.count ≡ groups_begun h [] ys) c.recs-recs.ensures (all_begun h c.recs-recs.result.now c.loop-at.at c.loop-at.count (omega (arith, c.loop-at-test.false)) c.loop-at.invariant.whole) in
    let new = begun_is_new o h.worker j h rs [] log
    (λ r i. unapplied o h.worker log good j r.time r.key r.tag (coming.owed (name_of_record j r) i) (coming.fresh (name_of_record j r) i))
    (λ t k n. sym (waits_is_pending q job sound log h inside host good order t k) ∙ sym (or_false (waits_at h t k))) in
    whole ∙ new ∙ ap (λ (n : ℕ). new_groups o h.worker log (map (name_of_record n) rs)) (sym c.requires)
