-- A name that is taken: one less on its way. A record makes its group wait, a control record its time one to be settled, where they don't yet.
use Rattle.std.proofs.Common.{◌≡◌, ℕ, ◌+◌, ◌&&◌, ◌||◌, ◌==◌, Bool, true, false, not, cond, List, ℤ, pos, negsuc, ◌+ℤ◌, ◌-ℤ◌, refl, sym, ap, ◌∙◌, subst, ◌⊎◌, ⊎_elim, arith}
use Rattle.std.specs.List.{list_any}
use Rattle.std.proofs.lemmas.Bool.{false≢true, and_from, and_parts, both_ways, cases_Bool, eq-eqb, eqb-true, false_from_ne_true, not_from_false, or_left, or_right}
use Rattle.mp_names.specs.declared.locations.Loc.{Loc}
use Rattle.mp_names.specs.declared.locations.Loc.TheVariants.{Ctl, CtlMail, Source, Route, Mail, Move, State, Host, OutRoute, OutMail}
use Rattle.mp_names.specs.declared.names.Name.{Name}
use Rattle.mp_names.specs.declared.names.Name.TheVariants.{Ctrl, Rec, Group, Settled}
use Rattle.mp_names.specs.declared.names.Tag.{Tag}
use Rattle.mp_names.specs.Frontiers.{contribution, is_held, number_at, sent_less_took}
use Rattle.mp_names.specs.Logs.{Log, LogIsLegal, brings_wake, has_record, has_wake, is_ctrl_of, is_noted, is_pending, is_record_of, with_took}
use Rattle.mp_names.specs.Names.{same_name, has, is_ctrl, is_packet, is_rec, is_row}
use Rattle.mp_names.specs.Outlines.{Outline, OutlineIsSound, control_at, ctrl_names, groups_of, IsOwedTo, time_of}
use Rattle.mp_names.proofs.Listed.{record_group}
use Rattle.mp_names.proofs.Lists.{same_name-true}
use Rattle.mp_stamps.specs.Counts.{same_loc}
use Rattle.mp_rows.specs.Entries.{AreChanges}
use Rattle.mp_rows_laws.specs.Changes.{control_taken_at, one_less, one_more, record_taken_at}
use Rattle.mp_rows_laws.proofs.Entries.{more_alone, not_zero_unless, nothing, once_unless, sum_unless, taken_first}
use Rattle.mp_rows_laws.proofs.Numbers.{number_placed, number_same}
use Rattle.mp_rows_laws.proofs.Parts.{brought_same, given_same, pending_same}
use Rattle.mp_rows_laws.proofs.Places.{group_place, groups_once}
use Rattle.mp_rows_laws.proofs.Pushes.{any_other, any_push, number_push}

-- what is taken with one more name
module _ (o : Outline) (w : ℕ) (log : Log) (x : Name) where
  abbrev pub new : Log
  new = with_took log x

  pub held_same : (u : ℕ) (xs : List Name) → number_at o (is_held o w new) u xs ≡ number_at o (is_held o w log) u xs
  held_same u xs = number_same o u (is_held o w new) (is_held o w log) xs (λ y i. ap (λ (b : Bool). b && not (has log.sent y)) (given_same o log new w refl refl y))

  -- names of another kind on their way
  pub mail_kept : (p : Name → Bool) (u : ℕ) → p x ≡ false → sent_less_took o new p u ≡ sent_less_took o log p u
  mail_kept p u e =
      ap (λ (m : ℕ). pos (number_at o p u log.sent) -ℤ pos m) (number_push o p u log.took x ∙ ap (λ (b : Bool). number_at o p u log.took + cond (b && time_of o x == u) 1 0) e ∙ plus_none (number_at o p u log.took))
    where
      plus_none : (n : ℕ) → n + 0 ≡ n
      plus_none n = omega arith

  -- no packet comes
  module _ (no_packet : (j b s u : ℕ) → brings_wake log j b s u x ≡ false) where
    pub brought_kept : (j b s u : ℕ) → list_any (brings_wake new j b s u) new.took ≡ list_any (brings_wake log j b s u) log.took
    brought_kept j b s u = brought_same o log new j b s u (λ m. refl) new.took ∙ any_other (brings_wake log j b s u) log.took x (no_packet j b s u)

    pub group_kept : (j u k : ℕ) → is_record_of j u k x ≡ false → is_pending o w new (Group j u k) ≡ is_pending o w log (Group j u k)
    group_kept j u k e = pending_same o log new w j u k (λ s. refl) (λ m. refl) (λ s. brought_kept j (o.bin_of k) s u) (any_other (is_record_of j u k) log.took x e)

module _
    (o : Outline) (w : ℕ) (log : Log) (ok : OutlineIsSound o) (j t k : ℕ) (g : Tag) (owed : IsOwedTo o w (Rec j t k g))
    (not_applied : has log.applied (Group j t k) ≡ false) where
  abbrev record_name : Name
  record_name = Rec j t k g

  abbrev group : Name
  group = Group j t k

  group_other : (y : Name) → same_name group y ≡ false → is_pending o w (new o w log record_name) y ≡ is_pending o w log y
  group_other (Group i u l) e = group_kept o w log record_name (λ n b s v. refl) i u l e
  group_other _ e = refl

  waits_now : is_pending o w (new o w log record_name) group ≡ true
  waits_now =
      let p = is_record_of j t k in
      let of_group : p record_name ≡ true = and_from (j == j) (t == t && k == k) (eq-eqb j j refl) (and_from (t == t) (k == k) (eq-eqb t t refl) (eq-eqb k k refl)) in
      let record_here : has_record (new o w log record_name) j t k ≡ true = any_push p log.took record_name ∙ or_right (list_any p log.took) (p record_name) of_group in
      and_from (not (has log.applied group)) (has_record (new o w log record_name) j t k || has_wake o w (new o w log record_name) j t k)
      (not_from_false (has log.applied group) not_applied)
      (or_left (has_record (new o w log record_name) j t k) (has_wake o w (new o w log record_name) j t k) record_here)

  module _ (waited : Bool) (known : is_pending o w log (Group j t k) ≡ waited) where
    waiting : (i u : ℕ) → number_at o (is_pending o w (new o w log record_name)) u (groups_of o i) ≡ number_at o (is_pending o w log) u (groups_of o i) + cond ((j == i && t == u) && not waited) 1 0
    waiting i u = by_case waited known
      where
        and_no : (b : Bool) (n m : ℕ) → n ≡ m → n ≡ m + cond (b && false) 1 0
        and_no true n m e = omega arith
        and_no false n m e = omega arith

        and_yes : (b : Bool) (n m : ℕ) → n ≡ m + cond b 1 0 → n ≡ m + cond (b && true) 1 0
        and_yes true n m e = e
        and_yes false n m e = e

        by_case : (b : Bool) → is_pending o w log group ≡ b → number_at o (is_pending o w (new o w log record_name)) u (groups_of o i) ≡ number_at o (is_pending o w log) u (groups_of o i) + cond ((j == i && t == u) && not b) 1 0
        by_case true e =
            and_no (j == i && t == u) _ _
            (number_same o u (is_pending o w (new o w log record_name)) (is_pending o w log) (groups_of o i) (λ y h. each_group y (cases_Bool (same_name group y))))
          where
            each_group : (y : Name) → (same_name group y ≡ true) ⊎ (same_name group y ≡ false) → is_pending o w (new o w log record_name) y ≡ is_pending o w log y
            each_group y c =
                ⊎_elim
                (λ (s : same_name group y ≡ true). subst (λ (z : Name). is_pending o w (new o w log record_name) z ≡ is_pending o w log z) (same_name-true group y s) (waits_now ∙ sym e))
                (λ (s : same_name group y ≡ false). group_other y s)
                c
        by_case false e =
            and_yes (j == i && t == u) _ _
            (number_placed o u (is_pending o w (new o w log record_name)) (is_pending o w log) group (j == i) (groups_of o i)
            (group_place o ok i j t k (record_group o j t k g owed.0.1))
            (groups_once o ok i) waits_now e
            (λ y h s. group_other y s))

    body : (loc : Loc) (u : ℕ) → cond (same_loc (Mail j) loc && t == u) (negsuc 0) (pos 0) +ℤ cond ((same_loc (Host j) loc && t == u) && not waited) (pos 1) (pos 0) ≡ contribution o w (with_took log (Rec j t k g)) loc u -ℤ contribution o w log loc u
    body Ctl u = nothing _ _ (ap pos (held_same o w log record_name u (ctrl_names o)))
    body CtlMail u = nothing _ _ (mail_kept o w log record_name is_ctrl u refl)
    body Source u = nothing (contribution o w log Source u) (contribution o w log Source u) refl
    body (Route i) u = nothing _ _ (ap pos (held_same o w log record_name u (o.records i)))
    body (Mail i) u = taken_first (j == i && t == u) _ _ _ (number_push o (is_rec i) u log.took record_name)
    body (Move i) u = nothing _ _ (ap (λ (b : Bool). pos (cond (b && not (has log.settled (Settled i u))) 1 0)) (any_other (is_ctrl_of o i u) log.took record_name refl))
    body (State i) u = nothing _ _ (mail_kept o w log record_name (is_packet i) u refl)
    body (Host i) u = more_alone ((j == i && t == u) && not waited) _ _ (waiting i u)
    body OutRoute u = nothing _ _ (ap pos (held_same o w log record_name u o.rows))
    body OutMail u = nothing _ _ (mail_kept o w log record_name is_row u refl)

    pub taken_unapplied : AreChanges o w log (with_took log (Rec j t k g)) (record_taken_at j t waited)
    taken_unapplied = record {
      sums = λ loc u. ap (λ (z : ℤ). cond (same_loc (Mail j) loc && t == u) (negsuc 0) (pos 0) +ℤ z) (sum_unless waited (Host j) t loc u) ∙ body loc u;
      once = once_unless waited (one_less (Mail j) t) (one_more (Host j) t) (λ e. cc);
      none_by_zero = not_zero_unless waited (one_less (Mail j) t) (one_more (Host j) t) (λ e. cc) (λ e. cc);
    }

-- the group of a record that isn't taken isn't applied
pub unapplied : (o : Outline) (w : ℕ) (log : Log) → LogIsLegal o w log → (j t k : ℕ) (g : Tag) → IsOwedTo o w (Rec j t k g) → has log.took (Rec j t k g) ≡ false → has log.applied (Group j t k) ≡ false
unapplied o w log good j t k g owed fresh =
    false_from_ne_true (has log.applied (Group j t k)) (λ i. both_ways (has log.took (Rec j t k g)) fresh ((good.applied_ready (Group j t k) i).1 g owed.0.1))

pub record_taken : (o : Outline) (w : ℕ) (log : Log) → OutlineIsSound o → LogIsLegal o w log → (j t k : ℕ) (g : Tag) → IsOwedTo o w (Rec j t k g) → has log.took (Rec j t k g) ≡ false → (waited : Bool) → is_pending o w log (Group j t k) ≡ waited → AreChanges o w log (with_took log (Rec j t k g)) (record_taken_at j t waited)
record_taken o w log ok good j t k g owed fresh = taken_unapplied o w log ok j t k g owed (unapplied o w log good j t k g owed fresh)

-- the time is that of the control record, or another
one_note : (h noted old s : Bool) → (h ≡ true → old ≡ noted) → (h ≡ true → noted ≡ false → s ≡ false) → cond ((old || h) && not s) 1 0 ≡ cond (old && not s) 1 0 + cond (h && not noted) 1 0
one_note true true true true f e = refl
one_note true true true false f e = refl
one_note true true false s f e = absurd (false≢true (f refl))
one_note true false true s f e = absurd (false≢true (sym (f refl)))
one_note true false false true f e = absurd (false≢true (sym (e refl refl)))
one_note true false false false f e = refl
one_note false noted true true f e = refl
one_note false noted true false f e = refl
one_note false noted false s f e = refl

module _
    (o : Outline) (w : ℕ) (log : Log) (i v : ℕ) (noted : Bool) (known : is_noted o log (control_at o i).stage (control_at o i).time ≡ noted)
    (open_time : noted ≡ false → has log.settled (Settled (control_at o i).stage (control_at o i).time) ≡ false) where
  abbrev stage : ℕ
  stage = (control_at o i).stage

  abbrev time : ℕ
  time = (control_at o i).time

  abbrev control_name : Name
  control_name = Ctrl i v

  to_settle : (n u : ℕ) → cond (is_noted o (with_took log (Ctrl i v)) n u && not (has log.settled (Settled n u))) 1 0 ≡ cond (is_noted o log n u && not (has log.settled (Settled n u))) 1 0 + cond ((stage == n && time == u) && not noted) 1 0
  to_settle n u =
      ap (λ (b : Bool). cond (b && not (has log.settled (Settled n u))) 1 0) (any_push (is_ctrl_of o n u) log.took control_name)
      ∙ one_note (stage == n && time == u) noted (is_noted o log n u) (has log.settled (Settled n u)) (λ e. here e (λ m s. is_noted o log m s ≡ noted) known) (λ e f. here e (λ m s. has log.settled (Settled m s) ≡ false) (open_time f))
    where
      here : (stage == n && time == u) ≡ true → (P : ℕ → ℕ → Type 0) → P stage time → P n u
      here e P h =
          let p = and_parts (stage == n) (time == u) e in
          subst (λ (m : ℕ). P m u) (eqb-true stage n p.0) (subst (λ (s : ℕ). P stage s) (eqb-true time u p.1) h)

  control_body : (loc : Loc) (u : ℕ) → cond (same_loc CtlMail loc && time == u) (negsuc 0) (pos 0) +ℤ cond ((same_loc (Move stage) loc && time == u) && not noted) (pos 1) (pos 0) ≡ contribution o w (with_took log (Ctrl i v)) loc u -ℤ contribution o w log loc u
  control_body Ctl u = nothing _ _ (ap pos (held_same o w log control_name u (ctrl_names o)))
  control_body CtlMail u = taken_first (time == u) _ _ _ (number_push o is_ctrl u log.took control_name)
  control_body Source u = nothing (contribution o w log Source u) (contribution o w log Source u) refl
  control_body (Route n) u = nothing _ _ (ap pos (held_same o w log control_name u (o.records n)))
  control_body (Mail n) u = nothing _ _ (mail_kept o w log control_name (is_rec n) u refl)
  control_body (Move n) u = more_alone ((stage == n && time == u) && not noted) _ _ (to_settle n u)
  control_body (State n) u = nothing _ _ (mail_kept o w log control_name (is_packet n) u refl)
  control_body (Host n) u = nothing _ _ (ap pos (number_same o u (is_pending o w (new o w log control_name)) (is_pending o w log) (groups_of o n) (λ y h. same y)))
    where
      same : (y : Name) → is_pending o w (new o w log control_name) y ≡ is_pending o w log y
      same (Group j s k) = group_kept o w log control_name (λ n b s v. refl) j s k refl
      same _ = refl
  control_body OutRoute u = nothing _ _ (ap pos (held_same o w log control_name u o.rows))
  control_body OutMail u = nothing _ _ (mail_kept o w log control_name is_row u refl)

  pub control_taken : AreChanges o w log (with_took log (Ctrl i v)) (control_taken_at (control_at o i).stage (control_at o i).time noted)
  control_taken = record {
    sums = λ loc u. ap (λ (z : ℤ). cond (same_loc CtlMail loc && time == u) (negsuc 0) (pos 0) +ℤ z) (sum_unless noted (Move stage) time loc u) ∙ control_body loc u;
    once = once_unless noted (one_less CtlMail time) (one_more (Move stage) time) (λ e. cc);
    none_by_zero = not_zero_unless noted (one_less CtlMail time) (one_more (Move stage) time) (λ e. cc) (λ e. cc);
  }
