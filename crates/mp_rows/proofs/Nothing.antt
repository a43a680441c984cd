-- An empty log adds nothing but at the control records, at the source and at the host of the first stage.
use Rattle.std.proofs.Common.{◌≡◌, ℕ, zero, suc, ◌&&◌, ◌==◌, Bool, true, false, pos, refl, sym, ap, subst}
use Rattle.std.proofs.lemmas.Bool.{eqb-true, false≢true, false_from_ne_true}
use Rattle.mp_names.specs.declared.locations.Loc.{Loc}
use Rattle.mp_names.specs.declared.locations.Loc.TheVariants.{Ctl, CtlMail, Source, Route, Mail, Move, State, Host, OutRoute, OutMail}
use Rattle.mp_names.specs.declared.names.Name.{Name}
use Rattle.mp_names.specs.declared.names.Name.TheVariants.{Rec, Row, Group}
use Rattle.mp_names.specs.Frontiers.{contribution, is_held}
use Rattle.mp_names.specs.Logs.{empty_log, is_pending}
use Rattle.mp_names.specs.Names.{In, is_group, is_rec, is_row}
use Rattle.mp_names.specs.Outlines.{Outline, OutlineIsSound, groups_of, time_of}
use Rattle.mp_names.proofs.Listed.{groups_are}
use Rattle.mp_names.proofs.Lists.{count_none}
use Rattle.mp_names.proofs.Hosts.{pending_first}
use Rattle.mp_stamps.specs.Counts.{same_loc}

module _ (o : Outline) (w : ℕ) where
  record_not_held : (j : ℕ) (x : Name) → is_rec j x ≡ true → is_held o w empty_log x ≡ false
  record_not_held j (Rec zero t k g) e = refl
  record_not_held j (Rec (suc i) t k g) e = refl
  record_not_held j _ e = absurd (false≢true e)

  row_not_held : (x : Name) → is_row x ≡ true → is_held o w empty_log x ≡ false
  row_not_held (Row t g) e = refl
  row_not_held _ e = absurd (false≢true e)

  at_no_time : (x : Name) (b : Bool) (t : ℕ) → b ≡ false → (b && time_of o x == t) ≡ false
  at_no_time x b t e = ap (λ (a : Bool). a && time_of o x == t) e

  module _ (sound : OutlineIsSound o) (no_wakes : (j : ℕ) (x : Name) → In x (o.opening (suc j)) → ⊥) where
    none_pending : (j : ℕ) (x : Name) → is_group (suc j) x ≡ true → is_pending o w empty_log x ≡ false
    none_pending j (Group i u k) e =
        false_from_ne_true (is_pending o w empty_log (Group i u k)) (λ h. no_wakes j (Group i u k) (subst (λ (n : ℕ). In (Group i u k) (o.opening n)) (eqb-true i (suc j) e) (pending_first o w i u k h).0))
    none_pending j _ e = refl

    pub adds_nothing : (loc : Loc) (t : ℕ) → same_loc Ctl loc ≡ false → same_loc Source loc ≡ false → same_loc (Host 0) loc ≡ false → contribution o w empty_log loc t ≡ pos 0
    adds_nothing Ctl t e f g = absurd (false≢true (sym e))
    adds_nothing Source t e f g = absurd (false≢true (sym f))
    adds_nothing CtlMail t e f g = refl
    adds_nothing (Route j) t e f g =
        ap pos (count_none (λ x. is_held o w empty_log x && time_of o x == t) (o.records j) (λ x i. at_no_time x (is_held o w empty_log x) t (record_not_held j x (sound.records_are j x i).1)))
    adds_nothing (Mail j) t e f g = refl
    adds_nothing (Move j) t e f g = refl
    adds_nothing (State j) t e f g = refl
    adds_nothing (Host zero) t e f g = absurd (false≢true (sym g))
    adds_nothing (Host (suc j)) t e f g =
        ap pos (count_none (λ x. is_pending o w empty_log x && time_of o x == t) (groups_of o (suc j)) (λ x i. at_no_time x (is_pending o w empty_log x) t (none_pending j x (groups_are o sound (suc j) x i).1)))
    adds_nothing OutRoute t e f g =
        ap pos (count_none (λ x. is_held o w empty_log x && time_of o x == t) o.rows (λ x i. at_no_time x (is_held o w empty_log x) t (row_not_held x (sound.rows_are x i))))
    adds_nothing OutMail t e f g = refl
