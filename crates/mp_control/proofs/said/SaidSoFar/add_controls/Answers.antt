use Rattle.std.proofs.Common.{◌∙◌, ◌++◌, ap, subst}
use Rattle.mp_control.specs.Kinds.{records_on_line}
use Rattle.mp_control.specs.Read.{LineFits}
use Rattle.mp_control.specs.Settings.{Said}
use Rattle.mp_control.proofs.DrainSteps.{may_be_kept_longer}
use Rattle.mp_control.proofs.LegalControls.{with_line}
use Rattle.mp_names.specs.declared.controls.Shape.{Shape}
use Rattle.mp_control.proofs.SaidSteps.{fails_control}
use Rattle.mp_control.proofs.said.SaidSoFar.add_controls.Goals as goal

pub returns-in-Err : goal.returns-in-Err
returns-in-Err c =
    let same = c.shape-shape.ensures ∙ ap (λ (s : Said). s.shape) c.self.view_is in
    fails_control c.args.self.now c.shape-shape.result c.args.fields.now c.in-Err.why same c.in-Err.ensures

pub invariant_of-self-2 : goal.invariant_of-self-2
invariant_of-self-2 c =
    let inside = c.self.inside in
    let line = c.in-Ok.line in
    let i = c.self.invariant in
    let fits = subst (λ (s : Shape). LineFits s line) c.shape-shape.ensures c.in-Ok.ensures.1.fits in
    let said = ap (λ (s : Shape). inside.controls.items ++ records_on_line s line) c.shape-shape.ensures in (
      i.0,
      i.1,
      i.2,
      with_line inside.firsts.shape line inside.controls.items c.append.new.list.items i.0 fits i.3 (c.in_ok-append.ensures.said ∙ said) c.in_ok-append.ensures.few,
      may_be_kept_longer inside.firsts inside.controls.items _ c.append.new.list.items inside.late inside.owners i.4 c.in_ok-append.ensures.said,
    )
