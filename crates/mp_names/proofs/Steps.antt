-- One location after the other: where all that leads to it is done, its count is zero exactly where it is done too.
use Rattle.std.proofs.Common.{ℤ, pos, ◌-ℤ◌, ◌≡◌, ℕ, zero, suc, ◌-◌, ◌<◌, ◌==◌, Bool, true, false, cond, not, ◌&&◌, List, filter, refl, sym, ◌∙◌, subst, arith}
use Rattle.std.proofs.lemmas.Bool.{false≢true, eqb-true, eq-eqb, and_parts, and_from, false_from_ne_true, both_ways, not-true}
use Rattle.std.proofs.lemmas.Int.{ints}
use Rattle.mp_names.specs.declared.names.Name.{Name}
use Rattle.mp_names.specs.declared.names.Name.TheVariants.{Ctrl, Rec, Packet, Row, Group, Settled}
use Rattle.mp_names.specs.declared.locations.Loc.{Loc}
use Rattle.mp_names.specs.declared.locations.Loc.TheVariants.{Ctl, CtlMail, Source, Route, Mail, Move, State, Host, OutRoute, OutMail}
use Rattle.mp_names.specs.Names.{has, In, is_ctrl, is_rec, is_packet, is_row, is_group}
use Rattle.mp_names.specs.Outlines.{Outline, OutlineIsSound, IsBeforeStop, control_at, time_of, group_owner, groups_of, due_groups, HasControl, sender, receiver, IsOwed, IsOwedBy, ctrl_names, share}
use Rattle.mp_names.specs.Logs.{Log, LogIsLegal, LogsAreLegal, is_given, is_pending, is_ctrl_of, is_noted, is_owned, owned_groups}
use Rattle.mp_names.specs.Frontiers.{number_at, is_held, contribution, sum_below, count_at, SentAll, TookAll, IsDoneBy}
use Rattle.mp_names.proofs.Lists.{In_filter, filter_In, In_prefix, any_from, any_at, count_none, none_counted}
use Rattle.mp_names.proofs.Mails.{total_below, taken_from_sum, sum_from_taken, each_zero, zero_each}
use Rattle.mp_names.proofs.Owners.{move_has_control}
use Rattle.mp_names.proofs.Listed.{due_group, ctrl_In, ctrl_owed, record_owed, row_owed, edges}

-- the counts, as sums of natural numbers

abbrev pub raised : Outline → ℕ → Log → Loc → ℕ → ℕ
raised o w log Ctl t = number_at o (is_held o w log) t (ctrl_names o)
raised o w log CtlMail t = number_at o is_ctrl t log.sent
raised o w log Source t = number_at o (λ x. not (has log.ingested x)) t (share o w)
raised o w log (Route j) t = number_at o (is_held o w log) t (o.records j)
raised o w log (Mail j) t = number_at o (is_rec j) t log.sent
raised o w log (Move j) t = cond (is_noted o log j t && not (has log.settled (Settled j t))) 1 0
raised o w log (State j) t = number_at o (is_packet j) t log.sent
raised o w log (Host j) t = number_at o (is_pending o w log) t (groups_of o j)
raised o w log OutRoute t = number_at o (is_held o w log) t o.rows
raised o w log OutMail t = number_at o is_row t log.sent

abbrev pub lowered : Outline → ℕ → Log → Loc → ℕ → ℕ
lowered o w log CtlMail t = number_at o is_ctrl t log.took
lowered o w log (Mail j) t = number_at o (is_rec j) t log.took
lowered o w log (State j) t = number_at o (is_packet j) t log.took
lowered o w log OutMail t = number_at o is_row t log.took
lowered o w log _ t = 0

less_zero : (n : ℕ) → pos n ≡ pos n -ℤ pos 0
less_zero n = omega (arith, ints)

pub contribution_is : (o : Outline) (w : ℕ) (log : Log) (a : Loc) (t : ℕ) → contribution o w log a t ≡ pos (raised o w log a t) -ℤ pos (lowered o w log a t)
contribution_is o w log Ctl t = less_zero (raised o w log Ctl t)
contribution_is o w log CtlMail t = refl
contribution_is o w log Source t = less_zero (raised o w log Source t)
contribution_is o w log (Route j) t = less_zero (raised o w log (Route j) t)
contribution_is o w log (Mail j) t = refl
contribution_is o w log (Move j) t = less_zero (raised o w log (Move j) t)
contribution_is o w log (State j) t = refl
contribution_is o w log (Host j) t = less_zero (raised o w log (Host j) t)
contribution_is o w log OutRoute t = less_zero (raised o w log OutRoute t)
contribution_is o w log OutMail t = refl

sum_is : (n : ℕ) (c : ℕ → ℤ) (f g : ℕ → ℕ) → ((w : ℕ) → c w ≡ pos (f w) -ℤ pos (g w)) → sum_below n c ≡ pos (total_below n f) -ℤ pos (total_below n g)
sum_is zero c f g h = refl
sum_is (suc n) c f g h =
    let e = sum_is n c f g h in
    let d = h n in
    omega (arith, ints)

abbrev pub IsEven : Outline → (ℕ → Log) → Loc → ℕ → Type 0
IsEven o logs a t = total_below o.workers (λ w. raised o w (logs w) a t) ≡ total_below o.workers (λ w. lowered o w (logs w) a t)

even_zero : (x : ℤ) (m n : ℕ) → x ≡ pos m -ℤ pos n → m ≡ n → x ≡ pos 0
even_zero x m n e h = omega (arith, ints)

zero_even : (x : ℤ) (m n : ℕ) → x ≡ pos m -ℤ pos n → x ≡ pos 0 → m ≡ n
zero_even x m n e h = omega (arith, ints)

count_is : (o : Outline) (logs : ℕ → Log) (a : Loc) (t : ℕ) → count_at o logs a t ≡ pos (total_below o.workers (λ w. raised o w (logs w) a t)) -ℤ pos (total_below o.workers (λ w. lowered o w (logs w) a t))
count_is o logs a t =
    sum_is o.workers (λ w. contribution o w (logs w) a t) (λ w. raised o w (logs w) a t) (λ w. lowered o w (logs w) a t) (λ w. contribution_is o w (logs w) a t)

pub even_from_zero : (o : Outline) (logs : ℕ → Log) (a : Loc) (t : ℕ) → count_at o logs a t ≡ pos 0 → IsEven o logs a t
even_from_zero o logs a t h =
    zero_even (count_at o logs a t) (total_below o.workers (λ w. raised o w (logs w) a t)) (total_below o.workers (λ w. lowered o w (logs w) a t)) (count_is o logs a t) h

pub zero_from_even : (o : Outline) (logs : ℕ → Log) (a : Loc) (t : ℕ) → IsEven o logs a t → count_at o logs a t ≡ pos 0
zero_from_even o logs a t h =
    even_zero (count_at o logs a t) (total_below o.workers (λ w. raised o w (logs w) a t)) (total_below o.workers (λ w. lowered o w (logs w) a t)) (count_is o logs a t) h

abbrev pub IsDoneByAll : Outline → (ℕ → Log) → Loc → ℕ → Type 0
IsDoneByAll o logs a t = (w : ℕ) → w < o.workers → IsDoneBy o w (logs w) a t

-- the count is zero exactly where all is done
abbrev pub Step : Outline → (ℕ → Log) → Loc → ℕ → Type 0
Step o logs a t = (IsEven o logs a t → IsDoneByAll o logs a t) × (IsDoneByAll o logs a t → IsEven o logs a t)

-- sums with nothing to take off

none_off : (n : ℕ) → total_below n (λ w. 0) ≡ 0
none_off n = each_zero n (λ w. 0) (λ w l. refl)

pub even_each : (n : ℕ) (f : ℕ → ℕ) → total_below n f ≡ total_below n (λ w. 0) → (w : ℕ) → w < n → f w ≡ 0
even_each n f h = zero_each n f (h ∙ none_off n)

pub each_even : (n : ℕ) (f : ℕ → ℕ) → ((w : ℕ) → w < n → f w ≡ 0) → total_below n f ≡ total_below n (λ w. 0)
each_even n f h = each_zero n f h ∙ sym (none_off n)

-- tests that are false

sent_if : (g h b : Bool) → ((g && not h) && b) ≡ false → g ≡ true → b ≡ true → h ≡ true
sent_if g true b e f k = refl
sent_if true false true e f k = absurd (false≢true (sym e))
sent_if true false false e f k = absurd (false≢true k)
sent_if false false b e f k = absurd (false≢true f)

not_if : (h b : Bool) → (not h && b) ≡ false → b ≡ true → h ≡ true
not_if true b e f = refl
not_if false b e f = absurd (false≢true (sym e ∙ f))

abbrev one : Bool → ℕ
one b = cond b 1 0

settled_if : (q s : Bool) → one (q && not s) ≡ 0 → q ≡ true → s ≡ true
settled_if q true e f = refl
settled_if true false e f = absurd (omega arith)
settled_if false false e f = absurd (false≢true f)

if_settled : (q s : Bool) → (q ≡ true → s ≡ true) → one (q && not s) ≡ 0
if_settled true true h = refl
if_settled true false h = absurd (false≢true (h refl))
if_settled false s h = refl

-- what a legal log has, its worker sends

pub ingested_own : (o : Outline) (w : ℕ) (log : Log) → LogIsLegal o w log → (x : Name) → In x log.ingested → In x (o.records 0) × (sender o x ≡ w)
ingested_own o w log good x h =
    let r = In_filter (λ y. sender o y == w) x (o.records 0) (In_prefix x log.ingested (share o w) good.ingested_in_order h) in
    (r.0, eqb-true (sender o x) w r.1)

pub applied_due : (o : Outline) (w : ℕ) (log : Log) → LogIsLegal o w log → (j t k : ℕ) → In (Group j t k) log.applied → In (Group j t k) (due_groups o j) × (group_owner o j t k ≡ w)
applied_due o w log good j t k h =
    let l = (good.applied_ready (Group j t k) h).0 in
    let i = filter_In (is_group j) (Group j t k) log.applied h (eq-eqb j j refl) in
    let r = In_filter (is_owned o w) (Group j t k) (due_groups o j) (In_prefix (Group j t k) (filter (is_group j) log.applied) (owned_groups o w j) (good.applied_in_order j l) i) in
    (r.0, eqb-true (group_owner o j t k) w r.1)

pub applied_own : (o : Outline) (w : ℕ) (log : Log) → LogIsLegal o w log → (j t k : ℕ) → In (Group j t k) log.applied → In (Group j t k) (groups_of o j) × (group_owner o j t k ≡ w)
applied_own o w log good j t k h = let r = applied_due o w log good j t k h in ((due_group o j (Group j t k) r.0).0, r.1)

-- only groups before the stop time are applied
pub applied_before_stop : (o : Outline) (w : ℕ) (log : Log) → LogIsLegal o w log → (j t k : ℕ) → In (Group j t k) log.applied → IsBeforeStop o.until t
applied_before_stop o w log good j t k h = (due_group o j (Group j t k) (applied_due o w log good j t k h).0).1

pub given_own : (o : Outline) (w : ℕ) (log : Log) → LogIsLegal o w log → (x : Name) → is_given o w log x ≡ true → sender o x ≡ w
given_own o w log good (Ctrl i v) h = sym (eqb-true w 0 h)
given_own o w log good (Rec zero t k g) h = (ingested_own o w log good (Rec 0 t k g) h).1
given_own o w log good (Rec (suc j) t k g) h = (applied_own o w log good j t g.0 h).1
given_own o w log good (Row t g) h = (applied_own o w log good (o.stages - 1) t g.0 h).1
given_own o w log good _ h = absurd (false≢true h)

-- a control record of this stage and time is taken, where one has been noted
pub noted_control : (o : Outline) (w : ℕ) (log : Log) → LogIsLegal o w log → (j t : ℕ) → is_noted o log j t ≡ true → HasControl o j t
noted_control o w log good j t h = let r = any_at (is_ctrl_of o j t) log.took h in found r.0 (good.took_owed r.0 r.1).0 r.2
  where
    found : (x : Name) → IsOwed o x → is_ctrl_of o j t x ≡ true → HasControl o j t
    found (Ctrl i v) m e =
        let p = and_parts ((control_at o i).stage == j) ((control_at o i).time == t) e in
        (i, m.0, eqb-true (control_at o i).stage j p.0, eqb-true (control_at o i).time t p.1)
    found _ m e = absurd (false≢true e)

pub control_noted : (o : Outline) (w : ℕ) (log : Log) (j t : ℕ) → w < o.workers → TookAll o w log is_ctrl t → HasControl o j t → is_noted o log j t ≡ true
control_noted o w log j t l d c =
    any_from (is_ctrl_of o j t) (Ctrl c.0 w) log.took (d (Ctrl c.0 w) ((c.1, l), refl) refl c.3)
    (and_from ((control_at o c.0).stage == j) ((control_at o c.0).time == t) (eq-eqb (control_at o c.0).stage j c.2) (eq-eqb (control_at o c.0).time t c.3))

module _ (o : Outline) (logs : ℕ → Log) (ok : OutlineIsSound o) (good : LogsAreLegal o logs) where
  -- a list of names that are to be sent on: none is held exactly where all that are given are sent

  module _ (p : Name → Bool) (xs : List Name) (t : ℕ) where
    sent_from_none : ((x : Name) → IsOwed o x → p x ≡ true → In x xs) → ((x : Name) → IsOwed o x → p x ≡ true → time_of o x ≡ t → is_given o (sender o x) (logs (sender o x)) x ≡ true) → total_below o.workers (λ w. number_at o (is_held o w (logs w)) t xs) ≡ total_below o.workers (λ w. 0) → (w : ℕ) → w < o.workers → SentAll o w (logs w) p t
    sent_from_none listed given z w l x d e f =
        let n = none_counted (λ y. is_held o w (logs w) y && time_of o y == t) xs (even_each o.workers (λ w. number_at o (is_held o w (logs w)) t xs) z w l) x (listed x d.0 e) in
        let g = subst (λ (v : ℕ). is_given o v (logs v) x ≡ true) d.1 (given x d.0 e f) in
        sent_if (is_given o w (logs w) x) (has (logs w).sent x) (time_of o x == t) n g (eq-eqb (time_of o x) t f)

    none_from_sent : ((x : Name) → In x xs → IsOwed o x × (p x ≡ true)) → ((w : ℕ) → w < o.workers → SentAll o w (logs w) p t) → total_below o.workers (λ w. number_at o (is_held o w (logs w)) t xs) ≡ total_below o.workers (λ w. 0)
    none_from_sent kind all =
        each_even o.workers (λ w. number_at o (is_held o w (logs w)) t xs) (λ w l.
        count_none (λ y. is_held o w (logs w) y && time_of o y == t) xs (λ x i. false_from_ne_true (is_held o w (logs w) x && time_of o x == t) (λ e.
        let a = and_parts (is_held o w (logs w) x) (time_of o x == t) e in
        let b = and_parts (is_given o w (logs w) x) (not (has (logs w).sent x)) a.0 in
        let k = kind x i in
        both_ways (has (logs w).sent x) (not-true (has (logs w).sent x) b.1) (all w l x (k.0, given_own o w (logs w) (good w l) x b.0) k.1 (eqb-true (time_of o x) t a.1)))))

  -- a mailbox location: where all is sent, the count is zero exactly where all is taken

  module _ (p : Name → Bool) (t : ℕ) (all : (w : ℕ) → w < o.workers → SentAll o w (logs w) p t) where
    all_sent : (x : Name) → IsOwed o x → (p x && time_of o x == t) ≡ true → In x (logs (sender o x)).sent
    all_sent x d f =
        let q = and_parts (p x) (time_of o x == t) f in
        all (sender o x) (edges o ok x d).0 x (d, refl) q.0 (eqb-true (time_of o x) t q.1)

    taken_from_even : total_below o.workers (λ w. number_at o p t (logs w).sent) ≡ total_below o.workers (λ w. number_at o p t (logs w).took) → (w : ℕ) → w < o.workers → TookAll o w (logs w) p t
    taken_from_even z w l x d e f =
        subst (λ (v : ℕ). In x (logs v).took) d.1
        (taken_from_sum o.workers (λ w. (logs w).sent) (λ w. (logs w).took) (sender o) (receiver o) (IsOwed o) (λ x. p x && time_of o x == t)
        (λ w l. (good w l).sent_once)
        (λ w l. (good w l).took_once)
        (λ w x l i. (good w l).sent_owed x i)
        (λ w x l i. (good w l).took_owed x i)
        (edges o ok)
        all_sent
        z x d.0 (and_from (p x) (time_of o x == t) e (eq-eqb (time_of o x) t f)))

    even_from_taken : ((w : ℕ) → w < o.workers → TookAll o w (logs w) p t) → total_below o.workers (λ w. number_at o p t (logs w).sent) ≡ total_below o.workers (λ w. number_at o p t (logs w).took)
    even_from_taken h =
        sum_from_taken o.workers (λ w. (logs w).sent) (λ w. (logs w).took) (sender o) (receiver o) (IsOwed o) (λ x. p x && time_of o x == t)
        (λ w l. (good w l).sent_once)
        (λ w l. (good w l).took_once)
        (λ w x l i. (good w l).sent_owed x i)
        (λ w x l i. (good w l).took_owed x i)
        (edges o ok)
        all_sent
        (λ x d f.
        let q = and_parts (p x) (time_of o x == t) f in
        h (receiver o x) (edges o ok x d).1 x (d, refl) q.0 (eqb-true (time_of o x) t q.1))

  -- the control stream

  pub step_ctl : (t : ℕ) → Step o logs Ctl t
  step_ctl t = (
    sent_from_none is_ctrl (ctrl_names o) t listed given,
    none_from_sent is_ctrl (ctrl_names o) t (ctrl_owed o),
  )
    where
      listed : (x : Name) → IsOwed o x → is_ctrl x ≡ true → In x (ctrl_names o)
      listed (Ctrl i v) d e = ctrl_In o i v d.0 d.1
      listed _ d e = absurd (false≢true e)

      given : (x : Name) → IsOwed o x → is_ctrl x ≡ true → time_of o x ≡ t → is_given o (sender o x) (logs (sender o x)) x ≡ true
      given (Ctrl i v) d e f = refl
      given _ d e f = absurd (false≢true e)

  pub step_ctl_mail : (t : ℕ) → IsDoneByAll o logs Ctl t → Step o logs CtlMail t
  step_ctl_mail t d = (taken_from_even is_ctrl t d, even_from_taken is_ctrl t d)

  -- the records

  pub step_source : (t : ℕ) → Step o logs Source t
  step_source t = (
    (λ z w l x i f.
        let e = none_counted (λ y. not (has (logs w).ingested y) && time_of o y == t) (share o w) (even_each o.workers (λ w. number_at o (λ x. not (has (logs w).ingested x)) t (share o w)) z w l) x i in
        not_if (has (logs w).ingested x) (time_of o x == t) e (eq-eqb (time_of o x) t f)),
    (λ h. each_even o.workers (λ w. number_at o (λ x. not (has (logs w).ingested x)) t (share o w)) (λ w l.
        count_none (λ y. not (has (logs w).ingested y) && time_of o y == t) (share o w) (λ x i. false_from_ne_true (not (has (logs w).ingested x) && time_of o x == t) (λ e.
        let p = and_parts (not (has (logs w).ingested x)) (time_of o x == t) e in
        both_ways (has (logs w).ingested x) (not-true (has (logs w).ingested x) p.0) (h w l x i (eqb-true (time_of o x) t p.1)))))),
  )

  -- what must be done before records are routed: those of stage 0 are ingested, those of a later stage given by applied groups
  abbrev pub Fed : ℕ → ℕ → Type 0
  Fed zero t = IsDoneByAll o logs Source t
  Fed (suc j) t = IsDoneByAll o logs (Host j) t

  fed_given : (j t : ℕ) → Fed j t → (x : Name) → IsOwed o x → is_rec j x ≡ true → time_of o x ≡ t → is_given o (sender o x) (logs (sender o x)) x ≡ true
  fed_given zero t f (Rec zero s k g) d e h =
      let w = sender o (Rec 0 s k g) in
      f w (edges o ok (Rec 0 s k g) d).0 (Rec 0 s k g) (filter_In (λ y. sender o y == w) (Rec 0 s k g) (o.records 0) d.1 (eq-eqb w w refl)) h
  fed_given (suc j) t f (Rec (suc i) s k g) d e h = applied
    where
      same : i ≡ j
      same = let q = eqb-true (suc i) (suc j) e in omega arith

      done : IsDoneByAll o logs (Host i) t
      done = subst (λ (n : ℕ). IsDoneByAll o logs (Host n) t) (sym same) f

      applied : In (Group i s g.0) (logs (group_owner o i s g.0)).applied
      applied =
          let w = group_owner o i s g.0 in
          done w (edges o ok (Rec (suc i) s k g) d).0 (Group i s g.0) (ok.records_given i s k g d.1) (eq-eqb w w refl) h
  fed_given zero t f (Rec (suc i) s k g) d e h = absurd (let q = eqb-true (suc i) 0 e in omega arith)
  fed_given (suc j) t f (Rec zero s k g) d e h = absurd (let q = eqb-true 0 (suc j) e in omega arith)
  fed_given zero t f _ d e h = absurd (false≢true e)
  fed_given (suc j) t f _ d e h = absurd (false≢true e)

  pub step_route : (j t : ℕ) → Fed j t → Step o logs (Route j) t
  step_route j t f = (
    sent_from_none (is_rec j) (o.records j) t listed (fed_given j t f),
    none_from_sent (is_rec j) (o.records j) t (λ x i. (record_owed o ok j x i, (ok.records_are j x i).1)),
  )
    where
      listed : (x : Name) → IsOwed o x → is_rec j x ≡ true → In x (o.records j)
      listed (Rec i s k g) d e = subst (λ (n : ℕ). In (Rec i s k g) (o.records n)) (eqb-true i j e) d.1
      listed _ d e = absurd (false≢true e)

  pub step_mail : (j t : ℕ) → IsDoneByAll o logs (Route j) t → Step o logs (Mail j) t
  step_mail j t d = (taken_from_even (is_rec j) t d, even_from_taken (is_rec j) t d)

  -- moves

  pub step_move : (j t : ℕ) → IsDoneByAll o logs CtlMail t → Step o logs (Move j) t
  step_move j t d = (
    (λ z w l.
        let settled : HasControl o j t → In (Settled j t) (logs w).settled = λ c. settled_if (is_noted o (logs w) j t) (has (logs w).settled (Settled j t)) (even_each o.workers (λ w. raised o w (logs w) (Move j) t) z w l) (control_noted o w (logs w) j t l (d w l) c) in
        (settled, packets w l settled)),
    (λ h. each_even o.workers (λ w. raised o w (logs w) (Move j) t) (λ w l. if_settled (is_noted o (logs w) j t) (has (logs w).settled (Settled j t)) (λ e. (h w l).0 (noted_control o w (logs w) (good w l) j t e)))),
  )
    where
      packets : (w : ℕ) → w < o.workers → (HasControl o j t → In (Settled j t) (logs w).settled) → SentAll o w (logs w) (is_packet j) t
      packets w l settled (Packet i b s) q e f =
          let e0 = eqb-true i j e in
          let c = move_has_control o i b s q.0 in
          let c' = subst (λ (n : ℕ). HasControl o n t) e0 (subst (λ (n : ℕ). HasControl o i n) f c) in
          let owed = subst (λ (n : ℕ). IsOwedBy o w (Packet n b t)) e0 (subst (λ (n : ℕ). IsOwedBy o w (Packet i b n)) f q) in
          let sent = ((good w l).settled_ready (Settled j t) (settled c')).1 b owed in
          subst (λ (n : ℕ). In (Packet n b s) (logs w).sent) (sym e0) (subst (λ (n : ℕ). In (Packet j b n) (logs w).sent) (sym f) sent)
      packets w l settled _ q e f = absurd (false≢true e)

  pub step_state : (j t : ℕ) → IsDoneByAll o logs (Move j) t → Step o logs (State j) t
  step_state j t d = (taken_from_even (is_packet j) t (λ w l. (d w l).1), even_from_taken (is_packet j) t (λ w l. (d w l).1))

  -- answer rows

  pub step_out_route : (t : ℕ) → IsDoneByAll o logs (Host (o.stages - 1)) t → Step o logs OutRoute t
  step_out_route t d = (
    sent_from_none is_row o.rows t listed given,
    none_from_sent is_row o.rows t (λ x i. (row_owed o ok x i, ok.rows_are x i)),
  )
    where
      listed : (x : Name) → IsOwed o x → is_row x ≡ true → In x o.rows
      listed (Row s g) q e = q
      listed _ q e = absurd (false≢true e)

      given : (x : Name) → IsOwed o x → is_row x ≡ true → time_of o x ≡ t → is_given o (sender o x) (logs (sender o x)) x ≡ true
      given (Row s g) q e f =
          let w = group_owner o (o.stages - 1) s g.0 in
          d w (edges o ok (Row s g) q).0 (Group (o.stages - 1) s g.0) (ok.rows_given s g q) (eq-eqb w w refl) f
      given _ q e f = absurd (false≢true e)

  pub step_out_mail : (t : ℕ) → IsDoneByAll o logs OutRoute t → Step o logs OutMail t
  step_out_mail t d = (taken_from_even is_row t d, even_from_taken is_row t d)
