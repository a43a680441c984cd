-- What fails no check is legal: first owners, values and control records are within their limits.
use Rattle.std.proofs.Common.{◌≡◌, ◌<◌, ◌∙◌, ◌==◌, ◌&&◌, lit<, ℕ, Bool, zero, suc, true, false, Option, None, Some, Ok, List, [], ◌∷◌, ◌++◌, get_or, length, set, ap, refl, sym, subst, arith}
use Rattle.std.proofs.lemmas.Bool.{and_from, and_parts, eq-eqb, ltb-true, not-true}
use Rattle.std.proofs.lemmas.List.Elements.{All-append, All-cons, All-nil}
use Rattle.std.proofs.lemmas.List.Folds.{list_any_at}
use Rattle.std.proofs.lemmas.List.Quantifiers.{all_pairs_push}
use Rattle.mp_bins.specs.Notes.{FirstFits, Layout}
use Rattle.mp_control.specs.declared.setting_kinds.SettingKind.{SettingKind}
use Rattle.mp_control.specs.declared.setting_kinds.SettingKind.TheVariants as kind
use Rattle.mp_control.specs.Controls.{numbers_in}
use Rattle.mp_control.specs.Drains.{drain_of, failures_of_drain, limits_of_drain, records_by_drain}
use Rattle.mp_control.specs.Firsts.{failures_of_first, first_of, has_first, limits_of_first}
use Rattle.mp_control.specs.Kinds.{failures_within}
use Rattle.mp_control.specs.Settings.{Said, failures_by, kind_behind, layout_in, nothing_said, said_by, setting_rules}
use Rattle.mp_control.specs.Values.{failures_of_value, limit_at, no_rule, place_of, values_by, with_value}
use Rattle.mp_control.proofs.DrainSteps.{with_drained}
use Rattle.mp_control.proofs.LegalControls.{one_more}
use Rattle.mp_control.proofs.Numbers.{fields_pass, number_passes}
use Rattle.mp_control.proofs.ValuesSaid.{by_none}
use Rattle.mp_job.specs.Legal.{ControlFits, ControlsFit, FirstsFit}
use Rattle.mp_lines.specs.declared.limits.NumberLimit.TheVariants.{Below}
use Rattle.mp_lines.specs.Checks.{field_at}
use Rattle.mp_lines.specs.Files.{file_of}
use Rattle.mp_lines.proofs.LimitSteps.{passes_limit}
use Rattle.mp_lines.proofs.Said.{kept_in_file}
use Rattle.mp_lines.proofs.Starts.{empty_map, empty_parts, passes}
use Rattle.mp_model.specs.Rules.{RuleFacts, are_within, given_values, is_within}
use Rattle.mp_names.specs.declared.controls.Control.{Control}
use Rattle.mp_names.specs.declared.controls.First.{First}
use Rattle.mp_names.specs.declared.controls.Shape.{Shape}
use Rattle.mp_text.specs.Numbers.{value_of}

module _ (shape : Shape) where
  -- the first owner of a line whose fields pass is within the limits of the shape
  first_fits : (fields : List (List ℕ)) → failures_within (limits_of_first shape) fields ≡ [] → FirstFits shape (first_of (numbers_in fields))
  first_fits fields e =
      let number = number_passes (limits_of_first shape) fields in
      let pass = fields_pass (limits_of_first shape) fields e in (
        ltb-true _ _ (number 2 (Below shape.workers) pass (lit< tt) refl),
        ltb-true _ _ (number 1 (Below shape.bins) pass (lit< tt) refl),
        ltb-true _ _ (number 0 (Below shape.stages) pass (lit< tt) refl),
      )

  -- none of these is of a bin that has none
  not_twice : (firsts : List First) (first : First) → has_first firsts first.stage first.bin ≡ false → (k : ℕ) (d : First) → k < length firsts
      → (((get_or firsts k d).stage ≡ first.stage) × ((get_or firsts k d).bin ≡ first.bin) → ⊥)
  not_twice firsts first none k d low both =
      let yes : has_first firsts first.stage first.bin ≡ true = list_any_at (λ f. f.stage == first.stage && f.bin == first.bin) firsts k d low (and_from _ _ (eq-eqb _ _ both.0) (eq-eqb _ _ both.1)) in
      cc

  -- with that of a line that fails no check, first owners still fit
  pub one_more_first : (late : Bool) (firsts : List First) (fields : List (List ℕ)) → FirstsFit shape firsts → failures_of_first shape late firsts fields ≡ []
      → FirstsFit shape (firsts ++ first_of (numbers_in fields) ∷ [])
  one_more_first late firsts fields fit e =
      let first = first_of (numbers_in fields) in
      let parts = empty_parts _ _ e in
      let none = not-true (has_first firsts first.stage first.bin) (passes _ _ parts.1) in
      let fits = first_fits fields (empty_parts (failures_within (limits_of_first shape) fields) _ parts.0).0 in record {
        each = All-append (FirstFits shape) firsts (first ∷ []) fit.each (All-cons (FirstFits shape) first [] fits (All-nil (FirstFits shape)));
        once = all_pairs_push (λ f g. (f.stage ≡ g.stage) × (f.bin ≡ g.bin) → ⊥) firsts first fit.once (not_twice firsts first none);
      }

-- with the control records of a line that drains a worker and fails no check, control records still fit
one_more_drain : (layout : Layout) → 0 < layout.shape.workers → (controls : List Control) (fields : List (List ℕ)) → ControlsFit layout.shape controls → failures_of_drain layout controls fields ≡ []
    → ControlsFit layout.shape (controls ++ records_by_drain layout controls (drain_of (numbers_in fields)))
one_more_drain layout some controls fields fit e =
    let limits = limits_of_drain layout.shape in
    let parts = empty_parts (failures_within limits fields) _ e in
    let low = ltb-true _ _ (number_passes limits fields 2 (Below layout.shape.stages) (fields_pass limits fields parts.0) (lit< tt) refl) in
    with_drained layout controls (drain_of (numbers_in fields)) some low fit parts.1

-- a value within its rule takes the place of another
set_within : (rules : List RuleFacts) (values : List (Option ℕ)) (k v : ℕ) (d : RuleFacts) → are_within rules (values_by rules values) ≡ true → is_within (get_or rules k d) v ≡ true
    → are_within rules (values_by rules (set values k (Some v))) ≡ true
set_within [] values k v d all one = refl
set_within (rule ∷ rules) [] k v d all one = all
set_within (rule ∷ rules) (value ∷ values) zero v d all one = and_from _ _ one (and_parts _ _ all).1
set_within (rule ∷ rules) (value ∷ values) (suc k) v d all one =
    and_from _ _ (and_parts _ _ all).0 (set_within rules values k v d (and_parts _ _ all).1 one)

-- so with that of a line that fails no check, values are still within their rules
value_within : (rules : List RuleFacts) (values : List (Option ℕ)) (place : Option ℕ) (field : List ℕ) → are_within rules (values_by rules values) ≡ true → failures_of_value rules place field ≡ []
    → are_within rules (values_by rules (with_value values place (value_of field))) ≡ true
value_within rules values None field all e = absurd (cc)
value_within rules values (Some place) field all e = set_within rules values place (value_of field) no_rule all (passes_limit (limit_at rules place) field (empty_map _ _ e))

-- what was said for a job of this shape is legal, and with it the settings
pub record IsLegal (shape : Shape) (rules : List RuleFacts) (said : Said) : Type 0 where
  pub same : said.shape ≡ shape
  pub firsts : FirstsFit said.shape said.firsts
  pub values : are_within rules (values_by rules said.values) ≡ true
  pub controls : ControlsFit said.shape said.controls

module _ (shape : Shape) (rules : List RuleFacts) (some : 0 < shape.workers) where
  -- with a line that fails no check it stays so
  legal_with : (said : Said) (line : SettingKind) (fields : List (List ℕ)) → IsLegal shape rules said → failures_by rules said line fields ≡ [] → IsLegal shape rules (said_by rules said line fields)
  legal_with said kind.Version fields h e = record { same = h.same; firsts = h.firsts; values = h.values; controls = h.controls }
  legal_with said kind.First fields h e =
      record { same = h.same; firsts = one_more_first said.shape said.late said.firsts fields h.firsts e; values = h.values; controls = h.controls }
  legal_with said kind.Rule fields h e =
      let place = place_of rules (field_at fields 1) in
      let pass = (empty_parts _ _ (empty_parts _ _ (empty_parts _ _ e).0).0).1 in
      record { same = h.same; firsts = h.firsts; values = value_within rules said.values place (field_at fields 2) h.values pass; controls = h.controls }
  legal_with said kind.Drain fields h e =
      let workers : 0 < said.shape.workers = subst (λ (s : Shape). 0 < s.workers) (sym h.same) some in
      record { same = h.same; firsts = h.firsts; values = h.values; controls = one_more_drain (layout_in said) workers said.controls fields h.controls e }
  legal_with said kind.Control fields h e =
      let workers : 0 < said.shape.workers = subst (λ (s : Shape). 0 < s.workers) (sym h.same) some in
      record { same = h.same; firsts = h.firsts; values = h.values; controls = one_more said.shape workers said.controls fields h.controls e }

  -- what a file says is legal, where the given values are within their rules
  pub all_legal : are_within rules (given_values rules) ≡ true → (text : List ℕ) (said : Said) → file_of (setting_rules rules) (nothing_said shape) text ≡ Ok said → IsLegal shape rules said
  all_legal given text said e =
      kept_in_file (setting_rules rules) (IsLegal shape rules) (λ before fields h pass. legal_with before (kind_behind before fields) fields h pass) (nothing_said shape) text said start e
    where
      start : IsLegal shape rules (nothing_said shape)
      start = record {
        same = refl;
        firsts = record { each = All-nil (FirstFits shape); once = λ i j d low there. absurd (omega (arith, there)) };
        values = ap (are_within rules) (by_none rules) ∙ given;
        controls = record { few = omega arith; each = All-nil (ControlFits shape) };
      }
