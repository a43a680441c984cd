use Rattle.std.proofs.Common.{◌≡◌, ◌∙◌, List, Some, ap, sym, arith, subst}
use Rattle.std.specs.Prelude.{slice_get}
use Rattle.mp_model.specs.declared.record.Rec.{Rec}
use Rattle.mp_host_laws.specs.Hosted.{Hosted}
use Rattle.mp_host.proofs.Unwoken.{standing_at, unwoken_none, unwoken_one}
use Rattle.mp_host.proofs.host.Host.count_unwoken.Goals as goal
use Rattle.mp_host.proofs.host.Host.count_unwoken.Goals.{then-begins_unwoken, else-begins_unwoken}

pub loop-rec-preserved : goal.loop-rec-preserved
loop-rec-preserved g c =
    let rs = c.args.self.now.records in
    let i = c.loop-rec.at in
    let r = c.in-Some.rec.now in
    let some = subst (λ (xs : List Rec). slice_get xs i ≡ Some r) (ap (λ (h : Hosted g.row.Q-Cell.Denot). h.records) c.self.view_is) c.in-Some.ensures.some in
    let at = standing_at rs i r some in
    let whole = c.loop-rec.invariant.whole in
    elim c.if-begins_unwoken.branch [
      | then-begins_unwoken w ↦
          let one = unwoken_one c.args.self.now c.args.time _ rs i c.loop-rec.count r at.0 at.1 (sym c.begins_unwoken.ensures ∙ w.if-begins_unwoken.true) in
          rw w.count-is (record { few = omega (arith, c.loop-rec.invariant.few); inside = omega (arith, at.0); whole = sym one ∙ whole })
      | else-begins_unwoken w ↦
          let none = unwoken_none c.args.self.now c.args.time _ rs i c.loop-rec.count r at.0 at.1 (sym c.begins_unwoken.ensures ∙ w.if-begins_unwoken.false) in
          rw w.count-is (record { few = omega (arith, c.loop-rec.invariant.few); inside = omega (arith, at.0); whole = sym none ∙ whole })
    ]
