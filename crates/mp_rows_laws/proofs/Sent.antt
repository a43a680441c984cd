-- A name that is sent from hand: one less at its router, one more on its way.
use Rattle.std.proofs.Common.{◌≡◌, ℕ, ◌+◌, ◌&&◌, ◌==◌, Bool, true, false, not, cond, List, pos, ◌-ℤ◌, refl, sym, ap, ◌∙◌, subst, arith}
use Rattle.std.proofs.lemmas.Bool.{and_from, and_right, eqb-true, not_from_false, not_from_true}
use Rattle.mp_names.specs.declared.locations.Loc.{Loc}
use Rattle.mp_names.specs.declared.locations.Loc.TheVariants.{Ctl, CtlMail, Source, Route, Mail, Move, State, Host, OutRoute, OutMail}
use Rattle.mp_names.specs.declared.names.Name.{Name}
use Rattle.mp_names.specs.declared.names.Name.TheVariants.{Ctrl, Rec, Row, Group}
use Rattle.mp_names.specs.declared.names.Tag.{Tag}
use Rattle.mp_names.specs.Frontiers.{contribution, is_held, number_at, sent_less_took}
use Rattle.mp_names.specs.Keeping.{IsHeld}
use Rattle.mp_names.specs.Logs.{Log, is_given, is_packet_after, is_pending, left_since, with_sent}
use Rattle.mp_names.specs.Names.{same_name, has, In, Distinct, is_ctrl, is_packet, is_rec, is_row}
use Rattle.mp_names.specs.Outlines.{Outline, OutlineIsSound, control_at, ctrl_names, groups_of, time_of}
use Rattle.mp_names.proofs.Lists.{same_name-refl}
use Rattle.mp_names.proofs.Listed.{ctrl_In, groups_are}
use Rattle.mp_rows.specs.Entries.{AreChanges, sum_at}
use Rattle.mp_rows_laws.specs.Changes.{control_sent_at, one_less, one_more, record_sent_at, row_sent_at}
use Rattle.mp_rows_laws.proofs.Entries.{less_first, nothing, sent_second, two_not_zero, two_once}
use Rattle.mp_rows_laws.proofs.Numbers.{number_kept, number_placed, number_same}
use Rattle.mp_rows_laws.proofs.Parts.{brought_same, given_same, pending_same}
use Rattle.mp_rows_laws.proofs.Places.{controls_once, no_control, no_record, no_row, record_place}
use Rattle.mp_rows_laws.proofs.Pushes.{any_other, has_new, has_other, number_push}

-- what is sent with one more name
module _ (o : Outline) (w : ℕ) (log : Log) (x : Name) where
  abbrev pub new : Log
  new = with_sent log x

  held_other : (y : Name) → same_name x y ≡ false → is_held o w new y ≡ is_held o w log y
  held_other y e =
      ap (λ (b : Bool). b && not (has new.sent y)) (given_same o log new w refl refl y) ∙ ap (λ (b : Bool). is_given o w log y && not b) (has_other log.sent x y e)

  -- lists without the name
  pub held_kept : (u : ℕ) (xs : List Name) → has xs x ≡ false → number_at o (is_held o w new) u xs ≡ number_at o (is_held o w log) u xs
  held_kept u xs e = number_kept o u (is_held o w new) (is_held o w log) x xs e held_other

  -- the list that may have it
  pub held_less : (p : Name → Bool) (c : Bool) (u : ℕ) (xs : List Name) → IsHeld o w log p x → has xs x ≡ c → Distinct xs → number_at o (is_held o w log) u xs ≡ number_at o (is_held o w new) u xs + cond (c && time_of o x == u) 1 0
  held_less p c u xs held e d =
      number_placed o u (is_held o w log) (is_held o w new) x c xs e d
      (and_from (is_given o w log x) (not (has log.sent x)) held.2 (not_from_false (has log.sent x) held.3))
      (and_right (is_given o w new x) (not (has new.sent x)) (not_from_true (has new.sent x) (has_new log.sent x x (same_name-refl x))))
      (λ y i e. sym (held_other y e))

  -- names of another kind on their way
  pub mail_kept : (p : Name → Bool) (u : ℕ) → p x ≡ false → sent_less_took o new p u ≡ sent_less_took o log p u
  mail_kept p u e =
      ap (λ (m : ℕ). pos m -ℤ pos (number_at o p u log.took)) (number_push o p u log.sent x ∙ ap (λ (b : Bool). number_at o p u log.sent + cond (b && time_of o x == u) 1 0) e ∙ plus_none (number_at o p u log.sent))
    where
      plus_none : (n : ℕ) → n + 0 ≡ n
      plus_none n = omega arith

  -- the groups of a stage whose bins don't leave
  pub waiting_kept : OutlineIsSound o → (j u : ℕ) → ((b m : ℕ) → is_packet_after j b m x ≡ false) → number_at o (is_pending o w new) u (groups_of o j) ≡ number_at o (is_pending o w log) u (groups_of o j)
  waiting_kept ok j u h = number_same o u (is_pending o w new) (is_pending o w log) (groups_of o j) same
    where
      left : (b m : ℕ) → left_since new j b m ≡ left_since log j b m
      left b m = any_other (is_packet_after j b m) log.sent x (h b m)

      one_group : (s k : ℕ) → is_pending o w new (Group j s k) ≡ is_pending o w log (Group j s k)
      one_group s k = pending_same o log new w j s k (λ m. refl) (left (o.bin_of k)) (λ m. brought_same o log new j (o.bin_of k) m s (left (o.bin_of k)) log.took) refl

      same : (y : Name) → In y (groups_of o j) → is_pending o w new y ≡ is_pending o w log y
      same (Group i s k) g = subst (λ (n : ℕ). is_pending o w new (Group n s k) ≡ is_pending o w log (Group n s k)) (sym (eqb-true i j (groups_are o ok j (Group i s k) g).1)) (one_group s k)
      same _ g = refl

module _ (o : Outline) (w : ℕ) (log : Log) (ok : OutlineIsSound o) (j t k : ℕ) (g : Tag) (held : IsHeld o w log (is_rec j) (Rec j t k g)) where
  abbrev record_name : Name
  record_name = Rec j t k g

  each_record : (loc : Loc) (u : ℕ) → sum_at (record_sent_at j t) loc u ≡ contribution o w (with_sent log (Rec j t k g)) loc u -ℤ contribution o w log loc u
  each_record Ctl u = nothing _ _ (ap pos (held_kept o w log record_name u (ctrl_names o) (no_control o ok record_name refl)))
  each_record CtlMail u = nothing _ _ (mail_kept o w log record_name is_ctrl u refl)
  each_record Source u = nothing (contribution o w log Source u) (contribution o w log Source u) refl
  each_record (Route i) u = less_first (j == i && t == u) _ _ (held_less o w log record_name (is_rec j) (j == i) u (o.records i) held (record_place o ok i j t k g held.1.1) (ok.records_once i))
  each_record (Mail i) u = sent_second (j == i && t == u) _ _ _ (number_push o (is_rec i) u log.sent record_name)
  each_record (Move i) u = nothing (contribution o w log (Move i) u) (contribution o w log (Move i) u) refl
  each_record (State i) u = nothing _ _ (mail_kept o w log record_name (is_packet i) u refl)
  each_record (Host i) u = nothing _ _ (ap pos (waiting_kept o w log record_name ok i u (λ b m. refl)))
  each_record OutRoute u = nothing _ _ (ap pos (held_kept o w log record_name u o.rows (no_row o ok record_name refl)))
  each_record OutMail u = nothing _ _ (mail_kept o w log record_name is_row u refl)

  pub record_sent : AreChanges o w log (with_sent log (Rec j t k g)) (record_sent_at j t)
  record_sent = record {
    sums = each_record;
    once = two_once (one_less (Route j) t) (one_more (Mail j) t) (λ e. cc);
    none_by_zero = two_not_zero (one_less (Route j) t) (one_more (Mail j) t) (λ e. cc) (λ e. cc);
  }

module _ (o : Outline) (w : ℕ) (log : Log) (ok : OutlineIsSound o) (t : ℕ) (g : Tag) (held : IsHeld o w log is_row (Row t g)) where
  each_row : (loc : Loc) (u : ℕ) → sum_at (row_sent_at t) loc u ≡ contribution o w (with_sent log (Row t g)) loc u -ℤ contribution o w log loc u
  each_row Ctl u = nothing _ _ (ap pos (held_kept o w log (Row t g) u (ctrl_names o) (no_control o ok (Row t g) refl)))
  each_row CtlMail u = nothing _ _ (mail_kept o w log (Row t g) is_ctrl u refl)
  each_row Source u = nothing (contribution o w log Source u) (contribution o w log Source u) refl
  each_row (Route i) u = nothing _ _ (ap pos (held_kept o w log (Row t g) u (o.records i) (no_record o ok i (Row t g) refl)))
  each_row (Mail i) u = nothing _ _ (mail_kept o w log (Row t g) (is_rec i) u refl)
  each_row (Move i) u = nothing (contribution o w log (Move i) u) (contribution o w log (Move i) u) refl
  each_row (State i) u = nothing _ _ (mail_kept o w log (Row t g) (is_packet i) u refl)
  each_row (Host i) u = nothing _ _ (ap pos (waiting_kept o w log (Row t g) ok i u (λ b m. refl)))
  each_row OutRoute u = less_first (t == u) _ _ (held_less o w log (Row t g) is_row true u o.rows held held.1 ok.rows_once)
  each_row OutMail u = sent_second (t == u) _ _ _ (number_push o is_row u log.sent (Row t g))

  pub row_sent : AreChanges o w log (with_sent log (Row t g)) (row_sent_at t)
  row_sent = record {
    sums = each_row;
    once = two_once (one_less OutRoute t) (one_more OutMail t) (λ e. cc);
    none_by_zero = two_not_zero (one_less OutRoute t) (one_more OutMail t) (λ e. cc) (λ e. cc);
  }

module _ (o : Outline) (w : ℕ) (log : Log) (ok : OutlineIsSound o) (i v : ℕ) (held : IsHeld o w log is_ctrl (Ctrl i v)) where
  abbrev time : ℕ
  time = (control_at o i).time

  each_control : (loc : Loc) (u : ℕ) → sum_at (control_sent_at time) loc u ≡ contribution o w (with_sent log (Ctrl i v)) loc u -ℤ contribution o w log loc u
  each_control Ctl u = less_first (time == u) _ _ (held_less o w log (Ctrl i v) is_ctrl true u (ctrl_names o) held (ctrl_In o i v held.1.0 held.1.1) (controls_once o ok))
  each_control CtlMail u = sent_second (time == u) _ _ _ (number_push o is_ctrl u log.sent (Ctrl i v))
  each_control Source u = nothing (contribution o w log Source u) (contribution o w log Source u) refl
  each_control (Route n) u = nothing _ _ (ap pos (held_kept o w log (Ctrl i v) u (o.records n) (no_record o ok n (Ctrl i v) refl)))
  each_control (Mail n) u = nothing _ _ (mail_kept o w log (Ctrl i v) (is_rec n) u refl)
  each_control (Move n) u = nothing (contribution o w log (Move n) u) (contribution o w log (Move n) u) refl
  each_control (State n) u = nothing _ _ (mail_kept o w log (Ctrl i v) (is_packet n) u refl)
  each_control (Host n) u = nothing _ _ (ap pos (waiting_kept o w log (Ctrl i v) ok n u (λ b m. refl)))
  each_control OutRoute u = nothing _ _ (ap pos (held_kept o w log (Ctrl i v) u o.rows (no_row o ok (Ctrl i v) refl)))
  each_control OutMail u = nothing _ _ (mail_kept o w log (Ctrl i v) is_row u refl)

  pub control_sent : AreChanges o w log (with_sent log (Ctrl i v)) (control_sent_at (control_at o i).time)
  control_sent = record {
    sums = each_control;
    once = two_once (one_less Ctl time) (one_more CtlMail time) (λ e. cc);
    none_by_zero = two_not_zero (one_less Ctl time) (one_more CtlMail time) (λ e. cc) (λ e. cc);
  }
