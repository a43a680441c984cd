-- A frontier always exists: only names of the job are counted, so the least open time is among theirs.
use Rattle.std.proofs.Common.{pos, ◌≡◌, ℕ, zero, suc, ◌<◌, ◌≤◌, min, ◌⊎◌, ◌==◌, Bool, true, false, cond, not, ◌&&◌, ◌||◌, List, [], ◌∷◌, ◌++◌, filter, map, refl, sym, ap, ◌∙◌, subst, inl, inr, ⊎_elim, arith}
use Rattle.std.specs.List.{list_any}
use Rattle.std.specs.Ordering.{int_eq}
use Rattle.std.proofs.lemmas.Bool.{false≢true, eqb-true, eq-eqb, and_parts, and_from, or_cases, or_left, or_right, cases_Bool, cases_lt, false_from_ne_true, both_ways, not-true, not_from_false}
use Rattle.std.proofs.lemmas.Bool.Decides.{Decides-int_eq}
use Rattle.mp_names.specs.declared.names.Name.{Name}
use Rattle.mp_names.specs.declared.names.Name.TheVariants.{Ctrl, Rec, Packet, Group, Settled}
use Rattle.mp_names.specs.declared.locations.Loc.{Loc}
use Rattle.mp_names.specs.declared.locations.Loc.TheVariants.{Ctl, CtlMail, Source, Route, Mail, Move, State, Host, OutRoute, OutMail}
use Rattle.mp_names.specs.declared.locations.Frontier.{Frontier}
use Rattle.mp_names.specs.declared.locations.Frontier.TheVariants.{At, Done}
use Rattle.mp_names.specs.Names.{has, In, joined_below, is_ctrl, is_rec, is_packet, is_row, is_group}
use Rattle.mp_names.specs.Outlines.{Outline, OutlineIsSound, control_at, time_of, groups_of, IsOwed, ctrl_names, owed_names, share, sender}
use Rattle.mp_names.specs.Logs.{Log, LogsAreLegal, is_pending, is_ctrl_of, is_noted}
use Rattle.mp_names.specs.Locations.{Reaches, reaches, locations}
use Rattle.mp_names.specs.Frontiers.{number_at, is_held, count_at, IsQuiet, IsFrontier, times_of, is_open, earlier, least_of, frontier_of}
use Rattle.mp_names.proofs.Lists.{In_cases, In_filter, In_left, In_right, joined_In, any_at, count_none}
use Rattle.mp_names.proofs.Mails.{total_below, each_zero}
use Rattle.mp_names.proofs.Owners.{move_in_shape}
use Rattle.mp_names.proofs.Listed.{ctrl_owed, record_owed, row_owed, owed_In, groups_are}
use Rattle.mp_names.proofs.Reach.{table_from_path, path_from_table}
use Rattle.mp_names.proofs.Steps.{IsEven, raised, each_even, zero_from_even}

-- a name that can be counted: one that is owed, or a group
abbrev IsCounted : Outline → Name → Type 0
IsCounted o x = IsOwed o x ⊎ ((j : ℕ) × In x (groups_of o j))

-- it is counted at this location
abbrev counts_at : Outline → Loc → Name → Bool
counts_at o Ctl x = is_ctrl x
counts_at o CtlMail x = is_ctrl x
counts_at o Source x = is_rec 0 x
counts_at o (Route j) x = is_rec j x
counts_at o (Mail j) x = is_rec j x
counts_at o (Move j) (Ctrl i v) = (control_at o i).stage == j
counts_at o (Move j) _ = false
counts_at o (State j) x = is_packet j x
counts_at o (Host j) x = is_group j x
counts_at o OutRoute x = is_row x
counts_at o OutMail x = is_row x

abbrev one : Bool → ℕ
one b = cond b 1 0

one_none : (b : Bool) → b ≡ false → one b ≡ 0
one_none true e = absurd (false≢true (sym e))
one_none false e = refl

module _ (o : Outline) (logs : ℕ → Log) (ok : OutlineIsSound o) (good : LogsAreLegal o logs) where
  -- where no name is counted the count is zero

  module _ (a : Loc) (t : ℕ) (none : (x : Name) → IsCounted o x → counts_at o a x ≡ true → time_of o x ≡ t → ⊥) where
    none_of : (p : Name → Bool) (xs : List Name) → ((x : Name) → In x xs → p x ≡ true → IsCounted o x × (counts_at o a x ≡ true)) → number_at o p t xs ≡ 0
    none_of p xs h =
        count_none (λ x. p x && time_of o x == t) xs (λ x i. false_from_ne_true (p x && time_of o x == t) (λ e.
        let q = and_parts (p x) (time_of o x == t) e in
        let c = h x i q.0 in
        none x c.0 c.1 (eqb-true (time_of o x) t q.1)))

    none_moves : (p : Name → Bool) → ((x : Name) → p x ≡ true → counts_at o a x ≡ true) → total_below o.workers (λ w. number_at o p t (logs w).sent) ≡ total_below o.workers (λ w. number_at o p t (logs w).took)
    none_moves p h =
        each_zero o.workers (λ w. number_at o p t (logs w).sent) (λ w l. none_of p (logs w).sent (λ x i e. (inl ((good w l).sent_owed x i).0, h x e)))
        ∙ sym (each_zero o.workers (λ w. number_at o p t (logs w).took) (λ w l. none_of p (logs w).took (λ x i e. (inl ((good w l).took_owed x i).0, h x e))))

  even_none : (a : Loc) (t : ℕ) → ((x : Name) → IsCounted o x → counts_at o a x ≡ true → time_of o x ≡ t → ⊥) → IsEven o logs a t
  even_none Ctl t none = each_even o.workers (λ w. raised o w (logs w) Ctl t) (λ w l. none_of Ctl t none (is_held o w (logs w)) (ctrl_names o) (λ x i e. let r = ctrl_owed o x i in (inl r.0, r.1)))
  even_none CtlMail t none = none_moves CtlMail t none is_ctrl (λ x e. e)
  even_none Source t none =
      each_even o.workers (λ w. raised o w (logs w) Source t) (λ w l.
      none_of Source t none (λ x. not (has (logs w).ingested x)) (share o w) (λ x i e.
      let r = (In_filter (λ y. sender o y == w) x (o.records 0) i).0 in
      (inl (record_owed o ok 0 x r), (ok.records_are 0 x r).1)))
  even_none (Route j) t none =
      each_even o.workers (λ w. raised o w (logs w) (Route j) t) (λ w l. none_of (Route j) t none (is_held o w (logs w)) (o.records j) (λ x i e. (inl (record_owed o ok j x i), (ok.records_are j x i).1)))
  even_none (Mail j) t none = none_moves (Mail j) t none (is_rec j) (λ x e. e)
  even_none (Move j) t none =
      each_even o.workers (λ w. raised o w (logs w) (Move j) t) (λ w l.
      one_none (is_noted o (logs w) j t && not (has (logs w).settled (Settled j t))) (false_from_ne_true (is_noted o (logs w) j t && not (has (logs w).settled (Settled j t))) (λ e.
      let n = (and_parts (is_noted o (logs w) j t) (not (has (logs w).settled (Settled j t))) e).0 in
      let r = any_at (is_ctrl_of o j t) (logs w).took n in
      found r.0 ((good w l).took_owed r.0 r.1).0 r.2)))
    where
      found : (x : Name) → IsOwed o x → is_ctrl_of o j t x ≡ true → ⊥
      found (Ctrl i v) d e =
          let q = and_parts ((control_at o i).stage == j) ((control_at o i).time == t) e in
          none (Ctrl i v) (inl d) q.0 (eqb-true (control_at o i).time t q.1)
      found _ d e = false≢true e
  even_none (State j) t none = none_moves (State j) t none (is_packet j) (λ x e. e)
  even_none (Host j) t none =
      each_even o.workers (λ w. raised o w (logs w) (Host j) t) (λ w l. none_of (Host j) t none (is_pending o w (logs w)) (groups_of o j) (λ x i e. (inr (j, i), (groups_are o ok j x i).1)))
  even_none OutRoute t none = each_even o.workers (λ w. raised o w (logs w) OutRoute t) (λ w l. none_of OutRoute t none (is_held o w (logs w)) o.rows (λ x i e. (inl (row_owed o ok x i), ok.rows_are x i)))
  even_none OutMail t none = none_moves OutMail t none is_row (λ x e. e)

  -- a stage that the job hasn't has no names

  abbrev stage_of : Loc → ℕ
  stage_of (Route j) = j
  stage_of (Mail j) = j
  stage_of (Move j) = j
  stage_of (State j) = j
  stage_of (Host j) = j
  stage_of _ = 0

  rec_stage : (j : ℕ) (x : Name) → IsCounted o x → is_rec j x ≡ true → j < o.stages
  rec_stage j (Rec i t k g) c e =
      ⊎_elim
      (λ (d : IsOwed o (Rec i t k g)). subst (λ (n : ℕ). n < o.stages) (eqb-true i j e) d.0)
      (λ (d : (n : ℕ) × In (Rec i t k g) (groups_of o n)). absurd (false≢true (groups_are o ok d.0 (Rec i t k g) d.1).1))
      c
  rec_stage j _ c e = absurd (false≢true e)

  packet_stage : (j : ℕ) (x : Name) → IsCounted o x → is_packet j x ≡ true → j < o.stages
  packet_stage j (Packet i b t) c e =
      ⊎_elim
      (λ (d : IsOwed o (Packet i b t)). subst (λ (n : ℕ). n < o.stages) (eqb-true i j e) (move_in_shape o ok i b t d).0)
      (λ (d : (n : ℕ) × In (Packet i b t) (groups_of o n)). absurd (false≢true (groups_are o ok d.0 (Packet i b t) d.1).1))
      c
  packet_stage j _ c e = absurd (false≢true e)

  group_stage : (j : ℕ) (x : Name) → IsCounted o x → is_group j x ≡ true → j < o.stages
  group_stage j (Group i t k) c e =
      ⊎_elim
      (λ (d : IsOwed o (Group i t k)). absurd d)
      (λ (d : (n : ℕ) × In (Group i t k) (groups_of o n)).
      let r = groups_are o ok d.0 (Group i t k) d.1 in
      subst (λ (n : ℕ). n < o.stages) (sym (eqb-true i d.0 r.1) ∙ eqb-true i j e) r.0)
      c
  group_stage j _ c e = absurd (false≢true e)

  ctrl_stage : (j : ℕ) (x : Name) → IsCounted o x → counts_at o (Move j) x ≡ true → j < o.stages
  ctrl_stage j (Ctrl i v) c e =
      ⊎_elim
      (λ (d : IsOwed o (Ctrl i v)). subst (λ (n : ℕ). n < o.stages) (eqb-true (control_at o i).stage j e) (ok.controls_fit i d.0).1)
      (λ (d : (n : ℕ) × In (Ctrl i v) (groups_of o n)). absurd (false≢true (groups_are o ok d.0 (Ctrl i v) d.1).1))
      c
  ctrl_stage j _ c e = absurd (false≢true e)

  counted_stage : (a : Loc) (x : Name) → IsCounted o x → counts_at o a x ≡ true → stage_of a < o.stages
  counted_stage (Route j) x c e = rec_stage j x c e
  counted_stage (Mail j) x c e = rec_stage j x c e
  counted_stage (Move j) x c e = ctrl_stage j x c e
  counted_stage (State j) x c e = packet_stage j x c e
  counted_stage (Host j) x c e = group_stage j x c e
  counted_stage _ x c e = ok.some_stage

  -- every other location is listed

  any_left : (p : Loc → Bool) (xs ys : List Loc) → list_any p xs ≡ true → list_any p (xs ++ ys) ≡ true
  any_left p [] ys h = absurd (false≢true h)
  any_left p (x ∷ xs) ys h =
      ⊎_elim (λ (e : p x ≡ true). or_left (p x) (list_any p (xs ++ ys)) e) (λ (e : list_any p xs ≡ true). or_right (p x) (list_any p (xs ++ ys)) (any_left p xs ys e)) (or_cases (p x) (list_any p xs) h)

  any_right : (p : Loc → Bool) (xs ys : List Loc) → list_any p ys ≡ true → list_any p (xs ++ ys) ≡ true
  any_right p [] ys h = h
  any_right p (x ∷ xs) ys h = or_right (p x) (list_any p (xs ++ ys)) (any_right p xs ys h)

  any_joined : (p : Loc → Bool) (n : ℕ) (f : ℕ → List Loc) (j : ℕ) → j < n → list_any p (f j) ≡ true → list_any p (joined_below n f) ≡ true
  any_joined p zero f j l h = absurd (omega arith)
  any_joined p (suc n) f j l h =
      ⊎_elim
      (λ (k : j < n). any_left p (joined_below n f) (f n) (any_joined p n f j k h))
      (λ (k : n ≤ j). any_right p (joined_below n f) (f n) (subst (λ (i : ℕ). list_any p (f i) ≡ true) (let e : j ≡ n = omega arith in e) h))
      (cases_lt j n)

  abbrev of_stage : ℕ → List Loc
  of_stage j = Route j ∷ Mail j ∷ Move j ∷ State j ∷ Host j ∷ []

  abbrev outs : List Loc
  outs = OutRoute ∷ OutMail ∷ []

  abbrev ins : List Loc
  ins = Ctl ∷ CtlMail ∷ Source ∷ []

  at_stage : (p : Loc → Bool) (j : ℕ) → j < o.stages → list_any p (of_stage j) ≡ true → list_any p (locations o.stages) ≡ true
  at_stage p j l h =
      any_left p (ins ++ joined_below o.stages of_stage) outs (any_right p ins (joined_below o.stages of_stage) (any_joined p o.stages of_stage j l h))

  listed : (p : Loc → Bool) (a : Loc) → stage_of a < o.stages → p a ≡ true → list_any p (locations o.stages) ≡ true
  listed p Ctl l h = any_left p (ins ++ joined_below o.stages of_stage) outs (any_left p ins (joined_below o.stages of_stage) (or_left (p Ctl) (p CtlMail || (p Source || false)) h))
  listed p CtlMail l h =
      any_left p (ins ++ joined_below o.stages of_stage) outs (any_left p ins (joined_below o.stages of_stage) (or_right (p Ctl) (p CtlMail || (p Source || false)) (or_left (p CtlMail) (p Source || false) h)))
  listed p Source l h =
      any_left p (ins ++ joined_below o.stages of_stage) outs (any_left p ins (joined_below o.stages of_stage) (or_right (p Ctl) (p CtlMail || (p Source || false)) (or_right (p CtlMail) (p Source || false) (or_left (p Source) false h))))
  listed p (Route j) l h = at_stage p j l (or_left (p (Route j)) (p (Mail j) || (p (Move j) || (p (State j) || (p (Host j) || false)))) h)
  listed p (Mail j) l h = at_stage p j l (or_right (p (Route j)) (p (Mail j) || (p (Move j) || (p (State j) || (p (Host j) || false)))) (or_left (p (Mail j)) (p (Move j) || (p (State j) || (p (Host j) || false))) h))
  listed p (Move j) l h =
      at_stage p j l (or_right (p (Route j)) (p (Mail j) || (p (Move j) || (p (State j) || (p (Host j) || false)))) (or_right (p (Mail j)) (p (Move j) || (p (State j) || (p (Host j) || false))) (or_left (p (Move j)) (p (State j) || (p (Host j) || false)) h)))
  listed p (State j) l h =
      at_stage p j l (or_right (p (Route j)) (p (Mail j) || (p (Move j) || (p (State j) || (p (Host j) || false)))) (or_right (p (Mail j)) (p (Move j) || (p (State j) || (p (Host j) || false))) (or_right (p (Move j)) (p (State j) || (p (Host j) || false)) (or_left (p (State j)) (p (Host j) || false) h))))
  listed p (Host j) l h =
      at_stage p j l (or_right (p (Route j)) (p (Mail j) || (p (Move j) || (p (State j) || (p (Host j) || false)))) (or_right (p (Mail j)) (p (Move j) || (p (State j) || (p (Host j) || false))) (or_right (p (Move j)) (p (State j) || (p (Host j) || false)) (or_right (p (State j)) (p (Host j) || false) (or_left (p (Host j)) false h)))))
  listed p OutRoute l h = any_right p (ins ++ joined_below o.stages of_stage) outs (or_left (p OutRoute) (p OutMail || false) h)
  listed p OutMail l h = any_right p (ins ++ joined_below o.stages of_stage) outs (or_right (p OutRoute) (p OutMail || false) (or_left (p OutMail) false h))

  -- open times

  open_if : (at a : Loc) (t : ℕ) → Reaches a at → int_eq (count_at o logs a t) (pos 0) ≡ false → is_open o logs at t ≡ true
  open_if at a t r e =
      ⊎_elim
      (λ (l : stage_of a < o.stages). listed (λ b. reaches b at && not (int_eq (count_at o logs b t) (pos 0))) a l (and_from (reaches a at) (not (int_eq (count_at o logs a t) (pos 0))) (table_from_path a at r) (not_from_false (int_eq (count_at o logs a t) (pos 0)) e)))
      (λ (l : o.stages ≤ stage_of a).
      let z = zero_from_even o logs a t (even_none a t (λ x c k f. let m = counted_stage a x c k in omega arith)) in
      absurd (both_ways (int_eq (count_at o logs a t) (pos 0)) e ((Decides-int_eq (count_at o logs a t) (pos 0)).1 z)))
      (cases_lt (stage_of a) o.stages)

  pub quiet_unless_open : (at : Loc) (t : ℕ) → is_open o logs at t ≡ false → IsQuiet (count_at o logs) at t
  quiet_unless_open at t h a r =
      ⊎_elim
      (λ (e : int_eq (count_at o logs a t) (pos 0) ≡ true). (Decides-int_eq (count_at o logs a t) (pos 0)).0 e)
      (λ (e : int_eq (count_at o logs a t) (pos 0) ≡ false). absurd (both_ways (is_open o logs at t) h (open_if at a t r e)))
      (cases_Bool (int_eq (count_at o logs a t) (pos 0)))

  any_loc : (p : Loc → Bool) (xs : List Loc) → list_any p xs ≡ true → (a : Loc) × (p a ≡ true)
  any_loc p [] h = absurd (false≢true h)
  any_loc p (x ∷ xs) h = ⊎_elim (λ (e : p x ≡ true). (x, e)) (λ (e : list_any p xs ≡ true). any_loc p xs e) (or_cases (p x) (list_any p xs) h)

  open_location : (at : Loc) (t : ℕ) → is_open o logs at t ≡ true → (a : Loc) × Reaches a at × (int_eq (count_at o logs a t) (pos 0) ≡ false)
  open_location at t h =
      let r = any_loc (λ b. reaches b at && not (int_eq (count_at o logs b t) (pos 0))) (locations o.stages) h in
      let p = and_parts (reaches r.0 at) (not (int_eq (count_at o logs r.0 t) (pos 0))) r.1 in
      (r.0, path_from_table r.0 at p.0, not-true (int_eq (count_at o logs r.0 t) (pos 0)) p.1)

  pub not_quiet : (at : Loc) (t : ℕ) → is_open o logs at t ≡ true → IsQuiet (count_at o logs) at t → ⊥
  not_quiet at t h q =
      let r = open_location at t h in
      both_ways (int_eq (count_at o logs r.0 t) (pos 0)) r.2 ((Decides-int_eq (count_at o logs r.0 t) (pos 0)).1 (q r.0 r.1))

  -- an open time is one of a name

  abbrev Among : ℕ → List ℕ → Type 0
  Among t ts = list_any (λ u. u == t) ts ≡ true

  time_among : (xs : List Name) (x : Name) → In x xs → Among (time_of o x) (map (time_of o) xs)
  time_among [] x i = absurd (false≢true i)
  time_among (y ∷ ys) x i =
      ⊎_elim
      (λ (e : y ≡ x). or_left (time_of o y == time_of o x) (list_any (λ u. u == time_of o x) (map (time_of o) ys)) (eq-eqb (time_of o y) (time_of o x) (ap (time_of o) e)))
      (λ (k : In x ys). or_right (time_of o y == time_of o x) (list_any (λ u. u == time_of o x) (map (time_of o) ys)) (time_among ys x k))
      (In_cases x y ys i)

  counted_time : (x : Name) → IsCounted o x → Among (time_of o x) (times_of o)
  counted_time x c =
      time_among (owed_names o ++ joined_below o.stages (groups_of o)) x
      (⊎_elim
      (λ (d : IsOwed o x). In_left x (owed_names o) (joined_below o.stages (groups_of o)) (owed_In o x d))
      (λ (d : (j : ℕ) × In x (groups_of o j)). In_right x (owed_names o) (joined_below o.stages (groups_of o)) (joined_In o.stages (groups_of o) x d.0 (groups_are o ok d.0 x d.1).0 d.1))
      c)

  open_among : (at : Loc) (t : ℕ) → is_open o logs at t ≡ true → Among t (times_of o)
  open_among at t h =
      ⊎_elim
      (λ (e : list_any (λ u. u == t) (times_of o) ≡ true). e)
      (λ (e : list_any (λ u. u == t) (times_of o) ≡ false).
      absurd (not_quiet at t h (λ a r. zero_from_even o logs a t (even_none a t (λ x c k f. both_ways (list_any (λ u. u == t) (times_of o)) e (subst (λ (n : ℕ). Among n (times_of o)) f (counted_time x c)))))))
      (cases_Bool (list_any (λ u. u == t) (times_of o)))

  -- the least of them

  abbrev IsLeastAmong : (ℕ → Bool) → List ℕ → Frontier → Type 0
  IsLeastAmong p ts (At t) = (p t ≡ true) × ((u : ℕ) → Among u ts → p u ≡ true → t ≤ u)
  IsLeastAmong p ts Done = (u : ℕ) → Among u ts → p u ≡ false

  head_or_rest : (t u : ℕ) (ts : List ℕ) → Among u (t ∷ ts) → (t ≡ u) ⊎ Among u ts
  head_or_rest t u ts h = ⊎_elim (λ (e : (t == u) ≡ true). inl (eqb-true t u e)) (λ (e : Among u ts). inr e) (or_cases (t == u) (list_any (λ v. v == u) ts) h)

  min_one : (t v : ℕ) (p : ℕ → Bool) → p t ≡ true → p v ≡ true → p (min t v) ≡ true
  min_one t v p h k =
      ⊎_elim
      (λ (l : t < v). subst (λ (n : ℕ). p n ≡ true) (let e : t ≡ min t v = omega arith in e) h)
      (λ (l : v ≤ t). subst (λ (n : ℕ). p n ≡ true) (let e : v ≡ min t v = omega arith in e) k)
      (cases_lt t v)

  with_head : (p : ℕ → Bool) (t : ℕ) (ts : List ℕ) (f : Frontier) → p t ≡ true → IsLeastAmong p ts f → IsLeastAmong p (t ∷ ts) (earlier t f)
  with_head p t ts (At v) e h = (
    min_one t v p e h.0,
    (λ u i k. ⊎_elim (λ (q : t ≡ u). omega arith) (λ (q : Among u ts). let l = h.1 u q k in omega arith) (head_or_rest t u ts i)),
  )
  with_head p t ts Done e h = (e, (λ u i k. ⊎_elim (λ (q : t ≡ u). omega arith) (λ (q : Among u ts). absurd (both_ways (p u) (h u q) k)) (head_or_rest t u ts i)))

  without_head : (p : ℕ → Bool) (t : ℕ) (ts : List ℕ) (f : Frontier) → p t ≡ false → IsLeastAmong p ts f → IsLeastAmong p (t ∷ ts) f
  without_head p t ts (At v) e h = (h.0, (λ u i k. ⊎_elim (λ (q : t ≡ u). absurd (both_ways (p u) (subst (λ (n : ℕ). p n ≡ false) q e) k)) (λ (q : Among u ts). h.1 u q k) (head_or_rest t u ts i)))
  without_head p t ts Done e h = λ u i. ⊎_elim (λ (q : t ≡ u). subst (λ (n : ℕ). p n ≡ false) q e) (λ (q : Among u ts). h u q) (head_or_rest t u ts i)

  least_is : (p : ℕ → Bool) (ts : List ℕ) → IsLeastAmong p ts (least_of (filter p ts))
  least_is p [] = λ u i. absurd (false≢true i)
  least_is p (t ∷ ts) = pick (p t) refl (least_is p ts)
    where
      pick : (b : Bool) → p t ≡ b → IsLeastAmong p ts (least_of (filter p ts)) → IsLeastAmong p (t ∷ ts) (least_of (cond b (t ∷ filter p ts) (filter p ts)))
      pick true e h = with_head p t ts (least_of (filter p ts)) e h
      pick false e h = without_head p t ts (least_of (filter p ts)) e h

  frontier_from : (at : Loc) (f : Frontier) → IsLeastAmong (is_open o logs at) (times_of o) f → IsFrontier o logs at f
  frontier_from at (At t) h = (
    not_quiet at t h.0,
    (λ u l. quiet_unless_open at u (false_from_ne_true (is_open o logs at u) (λ e. let k = h.1 u (open_among at u e) e in omega arith))),
  )
  frontier_from at Done h = λ u. quiet_unless_open at u (false_from_ne_true (is_open o logs at u) (λ e. both_ways (is_open o logs at u) (h u (open_among at u e)) e))

  pub frontier_is : (at : Loc) → IsFrontier o logs at (frontier_of o logs at)
  frontier_is at = frontier_from at (frontier_of o logs at) (least_is (is_open o logs at) (times_of o))
