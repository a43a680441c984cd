use Rattle.std.proofs.Common.{◌∙◌, Ok, ap, subst, sym}
use Rattle.mp_control.specs.Settings.{SettingsFacts, settings_from}
use Rattle.mp_control.proofs.LegalSettings.{all_legal}
use Rattle.mp_job.specs.Legal.{ControlsFit, FirstsFit}
use Rattle.mp_model.specs.Rules.{are_within}
use Rattle.mp_names.specs.declared.controls.Shape.{Shape}
use Rattle.mp_control.proofs.reading.read_settings.Goals as goal

pub returns : goal.returns
returns c =
    let said = c.in_ok-said.said in
    let is = rw c.in_ok-start.ensures at c.in_ok-said.ensures.said in
    let same = c.into_settings.ensures in
    let legal = all_legal c.args.shape.now c.args.rules.now c.requires.workers c.requires.given c.args.text.now said is in record {
      settings = ap (settings_from c.args.rules.now) is ∙ ap Ok (sym same);
      firsts = rw (ap (λ (s : SettingsFacts). s.firsts) same) (subst (λ (s : Shape). FirstsFit s said.firsts) legal.same legal.firsts);
      values = ap (λ (s : SettingsFacts). are_within c.args.rules.now s.values) same ∙ legal.values;
      controls = rw (ap (λ (s : SettingsFacts). s.controls) same) (subst (λ (s : Shape). ControlsFit s said.controls) legal.same legal.controls);
      bad_line = tt;
    }
