-- Nothing is counted of a location that the job hasn't, or at a time that no name has.
use Rattle.std.proofs.Common.{pos, ◌≡◌, ℕ, ◌<◌, ◌⊎◌, ◌==◌, Bool, true, false, cond, not, ◌&&◌, List, refl, sym, ◌∙◌, subst, inl, inr, ⊎_elim, Contains}
use Rattle.std.proofs.lemmas.Bool.{false≢true, eqb-true, and_parts, false_from_ne_true}
use Rattle.mp_names.specs.declared.names.Name.{Name}
use Rattle.mp_names.specs.declared.names.Name.TheVariants.{Ctrl, Rec, Packet, Group, Settled}
use Rattle.mp_names.specs.declared.locations.Loc.{Loc}
use Rattle.mp_names.specs.declared.locations.Loc.TheVariants.{Ctl, CtlMail, Source, Route, Mail, Move, State, Host, OutRoute, OutMail}
use Rattle.mp_names.specs.Names.{has, In, is_ctrl, is_rec, is_packet, is_row, is_group}
use Rattle.mp_names.specs.Outlines.{Outline, OutlineIsSound, control_at, time_of, groups_of, IsOwed, ctrl_names, share, sender}
use Rattle.mp_names.specs.Logs.{Log, LogsAreLegal, is_pending, is_ctrl_of, is_noted}
use Rattle.mp_names.specs.Locations.{IsLocation}
use Rattle.mp_names.specs.Frontiers.{number_at, is_held, count_at}
use Rattle.mp_names.proofs.Lists.{In_filter, any_at, count_none}
use Rattle.mp_names.proofs.Mails.{total_below, each_zero}
use Rattle.mp_names.proofs.Owners.{move_in_shape}
use Rattle.mp_names.proofs.Listed.{ctrl_owed, record_owed, row_owed, groups_are}
use Rattle.mp_names.proofs.Steps.{IsEven, raised, each_even, zero_from_even}
use Rattle.mp_stamps.specs.Counts.{CountTable}
use Rattle.mp_board.specs.Soundness.{HoldsAllTimes}

-- a name that can be counted: one that is owed, or a group
abbrev MayCount : Outline → Name → Type 0
MayCount o x = IsOwed o x ⊎ ((j : ℕ) × In x (groups_of o j))

-- it is counted at this location
abbrev counts_at : Outline → Loc → Name → Bool
counts_at o Ctl x = is_ctrl x
counts_at o CtlMail x = is_ctrl x
counts_at o Source x = is_rec 0 x
counts_at o (Route j) x = is_rec j x
counts_at o (Mail j) x = is_rec j x
counts_at o (Move j) (Ctrl i v) = (control_at o i).stage == j
counts_at o (Move j) _ = false
counts_at o (State j) x = is_packet j x
counts_at o (Host j) x = is_group j x
counts_at o OutRoute x = is_row x
counts_at o OutMail x = is_row x

one_none : (b : Bool) → b ≡ false → ◌≡◌ {A = ℕ} (cond b 1 0) 0
one_none true e = absurd (false≢true (sym e))
one_none false e = refl

module _ (o : Outline) (logs : ℕ → Log) (ok : OutlineIsSound o) (good : LogsAreLegal o logs) where
  module _ (a : Loc) (t : ℕ) (none : (x : Name) → MayCount o x → counts_at o a x ≡ true → time_of o x ≡ t → ⊥) where
    none_of : (p : Name → Bool) (xs : List Name) → ((x : Name) → In x xs → p x ≡ true → MayCount o x × (counts_at o a x ≡ true)) → number_at o p t xs ≡ 0
    none_of p xs h =
        count_none (λ x. p x && time_of o x == t) xs (λ x i. false_from_ne_true (p x && time_of o x == t) (λ e.
        let q = and_parts (p x) (time_of o x == t) e in
        let c = h x i q.0 in
        none x c.0 c.1 (eqb-true (time_of o x) t q.1)))

    none_moves : (p : Name → Bool) → ((x : Name) → p x ≡ true → counts_at o a x ≡ true) → total_below o.workers (λ w. number_at o p t (logs w).sent) ≡ total_below o.workers (λ w. number_at o p t (logs w).took)
    none_moves p h =
        each_zero o.workers (λ w. number_at o p t (logs w).sent) (λ w l. none_of p (logs w).sent (λ x i e. (inl ((good w l).sent_owed x i).0, h x e)))
        ∙ sym (each_zero o.workers (λ w. number_at o p t (logs w).took) (λ w l. none_of p (logs w).took (λ x i e. (inl ((good w l).took_owed x i).0, h x e))))

  even_none : (a : Loc) (t : ℕ) → ((x : Name) → MayCount o x → counts_at o a x ≡ true → time_of o x ≡ t → ⊥) → IsEven o logs a t
  even_none Ctl t none = each_even o.workers (λ w. raised o w (logs w) Ctl t) (λ w l. none_of Ctl t none (is_held o w (logs w)) (ctrl_names o) (λ x i e. let r = ctrl_owed o x i in (inl r.0, r.1)))
  even_none CtlMail t none = none_moves CtlMail t none is_ctrl (λ x e. e)
  even_none Source t none =
      each_even o.workers (λ w. raised o w (logs w) Source t) (λ w l.
      none_of Source t none (λ x. not (has (logs w).ingested x)) (share o w) (λ x i e.
      let r = (In_filter (λ y. sender o y == w) x (o.records 0) i).0 in
      (inl (record_owed o ok 0 x r), (ok.records_are 0 x r).1)))
  even_none (Route j) t none =
      each_even o.workers (λ w. raised o w (logs w) (Route j) t) (λ w l. none_of (Route j) t none (is_held o w (logs w)) (o.records j) (λ x i e. (inl (record_owed o ok j x i), (ok.records_are j x i).1)))
  even_none (Mail j) t none = none_moves (Mail j) t none (is_rec j) (λ x e. e)
  even_none (Move j) t none =
      each_even o.workers (λ w. raised o w (logs w) (Move j) t) (λ w l.
      one_none (is_noted o (logs w) j t && not (has (logs w).settled (Settled j t))) (false_from_ne_true (is_noted o (logs w) j t && not (has (logs w).settled (Settled j t))) (λ e.
      let n = (and_parts (is_noted o (logs w) j t) (not (has (logs w).settled (Settled j t))) e).0 in
      let r = any_at (is_ctrl_of o j t) (logs w).took n in
      found r.0 ((good w l).took_owed r.0 r.1).0 r.2)))
    where
      found : (x : Name) → IsOwed o x → is_ctrl_of o j t x ≡ true → ⊥
      found (Ctrl i v) d e =
          let q = and_parts ((control_at o i).stage == j) ((control_at o i).time == t) e in
          none (Ctrl i v) (inl d) q.0 (eqb-true (control_at o i).time t q.1)
      found _ d e = false≢true e
  even_none (State j) t none = none_moves (State j) t none (is_packet j) (λ x e. e)
  even_none (Host j) t none =
      each_even o.workers (λ w. raised o w (logs w) (Host j) t) (λ w l. none_of (Host j) t none (is_pending o w (logs w)) (groups_of o j) (λ x i e. (inr (j, i), (groups_are o ok j x i).1)))
  even_none OutRoute t none = each_even o.workers (λ w. raised o w (logs w) OutRoute t) (λ w l. none_of OutRoute t none (is_held o w (logs w)) o.rows (λ x i e. (inl (row_owed o ok x i), ok.rows_are x i)))
  even_none OutMail t none = none_moves OutMail t none is_row (λ x e. e)

  -- the stage of a name that can be counted

  rec_stage : (j : ℕ) (x : Name) → MayCount o x → is_rec j x ≡ true → j < o.stages
  rec_stage j (Rec i t k g) c e =
      ⊎_elim
      (λ (d : IsOwed o (Rec i t k g)). subst (λ (n : ℕ). n < o.stages) (eqb-true i j e) d.0)
      (λ (d : (n : ℕ) × In (Rec i t k g) (groups_of o n)). absurd (false≢true (groups_are o ok d.0 (Rec i t k g) d.1).1))
      c
  rec_stage j _ c e = absurd (false≢true e)

  packet_stage : (j : ℕ) (x : Name) → MayCount o x → is_packet j x ≡ true → j < o.stages
  packet_stage j (Packet i b t) c e =
      ⊎_elim
      (λ (d : IsOwed o (Packet i b t)). subst (λ (n : ℕ). n < o.stages) (eqb-true i j e) (move_in_shape o ok i b t d).0)
      (λ (d : (n : ℕ) × In (Packet i b t) (groups_of o n)). absurd (false≢true (groups_are o ok d.0 (Packet i b t) d.1).1))
      c
  packet_stage j _ c e = absurd (false≢true e)

  group_stage : (j : ℕ) (x : Name) → MayCount o x → is_group j x ≡ true → j < o.stages
  group_stage j (Group i t k) c e =
      ⊎_elim
      (λ (d : IsOwed o (Group i t k)). absurd d)
      (λ (d : (n : ℕ) × In (Group i t k) (groups_of o n)).
      let r = groups_are o ok d.0 (Group i t k) d.1 in
      subst (λ (n : ℕ). n < o.stages) (sym (eqb-true i d.0 r.1) ∙ eqb-true i j e) r.0)
      c
  group_stage j _ c e = absurd (false≢true e)

  ctrl_stage : (j : ℕ) (x : Name) → MayCount o x → counts_at o (Move j) x ≡ true → j < o.stages
  ctrl_stage j (Ctrl i v) c e =
      ⊎_elim
      (λ (d : IsOwed o (Ctrl i v)). subst (λ (n : ℕ). n < o.stages) (eqb-true (control_at o i).stage j e) (ok.controls_fit i d.0).1)
      (λ (d : (n : ℕ) × In (Ctrl i v) (groups_of o n)). absurd (false≢true (groups_are o ok d.0 (Ctrl i v) d.1).1))
      c
  ctrl_stage j _ c e = absurd (false≢true e)

  counted_location : (a : Loc) (x : Name) → MayCount o x → counts_at o a x ≡ true → IsLocation o.stages a
  counted_location (Route j) x c e = rec_stage j x c e
  counted_location (Mail j) x c e = rec_stage j x c e
  counted_location (Move j) x c e = ctrl_stage j x c e
  counted_location (State j) x c e = packet_stage j x c e
  counted_location (Host j) x c e = group_stage j x c e
  counted_location Ctl x c e = tt
  counted_location CtlMail x c e = tt
  counted_location Source x c e = tt
  counted_location OutRoute x c e = tt
  counted_location OutMail x c e = tt

  -- so where there is no count it is zero
  pub nothing_elsewhere : (table : CountTable) → table.stages ≡ o.stages → HoldsAllTimes o table.times → (a : Loc) (t : ℕ) → (IsLocation table.stages a × Contains table.times t → ⊥) → count_at o logs a t ≡ pos 0
  nothing_elsewhere table stages times a t n =
      zero_from_even o logs a t (even_none a t (λ x c e f.
      n (subst (λ (k : ℕ). IsLocation k a) (sym stages) (counted_location a x c e), subst (Contains table.times) f (times x c))))
