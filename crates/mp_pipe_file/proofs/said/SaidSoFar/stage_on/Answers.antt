use Rattle.std.proofs.Common.{◌≡◌, ◌<◌, ◌∙◌, true, arith, length, subst, sym}
use Rattle.mp_pipe_file.specs.Lines.{MayFollow, is_in_order}
use Rattle.mp_pipe_file.proofs.StageSteps.{said_with, stage_passes}
use Rattle.mp_pipe_file.proofs.said.SaidSoFar.stage_on.Goals as goal

pub returns : goal.returns
returns c =
    let kind = c.self.inside.kind in
    let lines = c.self.inside.lines.items in
    let form = c.args.form in
    let read = c.in_ok-line.ensures in
    let pass = rw (c.record_fields.ensures, ← c.self.view_is) at read.0 in
    let order : is_in_order (said_with kind lines) form ≡ true = rw c.self.view_is (sym c.admits.ensures ∙ c.if-not-admits.false) in
    let few : length lines < 4 = omega (arith, c.len.ensures, c.if-len-ge-MOST_STAGES.false) in
    let both = stage_passes kind lines form c.args.fields.now c.self.invariant pass order few in
    (rw (← c.self.view_is) both.0, (read.1, rw (← c.self.view_is) (subst (MayFollow (said_with kind lines)) (sym read.1) both.1)))
