-- Of each kind of step, what it does of the work that is left.
use Rattle.std.proofs.Common.{◌≡◌, ℕ, ◌+◌, ◌<◌, ◌==◌, Bool, true, false, List, [], ◌∷◌, ◌++◌, length, filter, Some, refl, sym, ap, ◌∙◌, subst, ⊎_elim, append_assoc, arith}
use Rattle.std.specs.List.{All}
use Rattle.std.proofs.lemmas.Option.{none-some}
use Rattle.std.proofs.lemmas.Bool.{false≢true, both_ways, eqb-true, eq-eqb, false_from_ne_true}
use Rattle.mp_names.specs.declared.names.Name.{Name}
use Rattle.mp_names.specs.declared.names.Name.TheVariants.{Ctrl, Rec, Packet, Row, Group, Settled, Written}
use Rattle.mp_names.specs.declared.locations.Loc.{Loc}
use Rattle.mp_names.specs.declared.locations.Loc.TheVariants.{Ctl, CtlMail, Source, Route, Mail, Move, State, Host, OutRoute, OutMail}
use Rattle.mp_names.specs.declared.kinds.Kind.{Kind}
use Rattle.mp_names.specs.declared.kinds.Kind.TheVariants.{Ingest, SendControl, Route as RouteStep, Receive, Extract, Settle, Apply, SendRow, Write, Exchange}
use Rattle.mp_names.specs.Names.{has, In, Distinct, IsPrefix, IsLeast, is_ctrl, is_rec, is_packet, is_row, is_group, is_settled}
use Rattle.mp_names.specs.Outlines.{Outline, OutlineIsSound, time_of, sender, owed_by, owed_to, groups_of, due_groups, control_times, share, IsOwed, IsOwedBy, IsOwedTo}
use Rattle.mp_names.specs.Logs.{Log, LogIsLegal, is_owned, owned_groups}
use Rattle.mp_names.specs.Keeping.{IsUnsentPacket, IsUnwritten}
use Rattle.mp_names.proofs.Lists.{In_here, In_left, In_right, In_cases, In_prefix, In_filter, filter_In, Distinct_filter}
use Rattle.mp_names.proofs.Orders.{ascending_once, filter_ascends}
use Rattle.mp_names.proofs.Listed.{groups_ascend, due_group, groups_are, control_times_ascend, control_time_is}
use Rattle.mp_names.proofs.Steps.{given_own}
use Rattle.mp_machine.specs.Worlds.{Worker, World}
use Rattle.mp_machine.specs.Messages.{joined, first_message, IsMessage, bundle_of}
use Rattle.mp_machine.specs.Steps.{IsDue, CanStep, names_of, logged}
use Rattle.mp_machine.proofs.Mailboxes.{once_apart, waiting_is_right, waiting_once}
use Rattle.mp_machine.proofs.Messages.{bundle_held, bundle_time, bundle_ascends}
use Rattle.mp_machine.proofs.Searches.{some_same}
use Rattle.mp_machine.proofs.Worlds.{WorldIsRight, known}
use Rattle.mp_player_laws.specs.WorkLeft.{undone, hosted_groups, left_at, mail_of, WorkFalls}
use Rattle.mp_player_laws.proofs.Next.{next_in, next_is_new}
use Rattle.mp_player_laws.proofs.Decided.{not_in_filter, owned_ascend, apply_to, settle_to}
use Rattle.mp_player_laws.proofs.Falling.{undone_falls, sent_falls, took_falls, sent_stays, took_stays, applied_stays, settled_stays, ingested_stays}
use Rattle.mp_player_laws.proofs.Sending.{ctrl_packet, ctrl_row, packet_row, record_alone}

-- one name

one_is : (x y : Name) → In y (x ∷ []) → x ≡ y
one_is x y i = ⊎_elim (λ (e : x ≡ y). e) (λ (k : In y []). absurd (false≢true k)) (In_cases y x [] i)

for_one : (P : Name → Type 0) (x : Name) → P x → (y : Name) → In y (x ∷ []) → P y
for_one P x p y i = subst P (one_is x y i) p

of_one : (p : Name → Bool) (x y : Name) → In y (x ∷ []) → p y ≡ true → p x ≡ true
of_one p x y i e = subst (λ (z : Name). p z ≡ true) (sym (one_is x y i)) e

one_once : (x : Name) → Distinct (x ∷ [])
one_once x = (refl, tt)

-- kinds of names

ctrl_rec : (j : ℕ) (x : Name) → is_ctrl x ≡ true → is_rec j x ≡ true → ⊥
ctrl_rec j x a b = both_ways (is_ctrl x) (record_alone j x b).0 a

packet_rec : (i j : ℕ) (x : Name) → is_packet i x ≡ true → is_rec j x ≡ true → ⊥
packet_rec i j x a b = both_ways (is_packet i x) ((record_alone j x b).1 i) a

row_rec : (j : ℕ) (x : Name) → is_row x ≡ true → is_rec j x ≡ true → ⊥
row_rec j x a b = both_ways (is_row x) (record_alone j x b).2 a

one_stage : (i j : ℕ) (x : Name) → is_rec i x ≡ true → is_rec j x ≡ true → i ≡ j
one_stage i j (Rec n t k g) a b = sym (eqb-true n i a) ∙ eqb-true n j b
one_stage i j _ a b = absurd (false≢true a)

one_packet_stage : (i j : ℕ) (x : Name) → is_packet i x ≡ true → is_packet j x ≡ true → i ≡ j
one_packet_stage i j (Packet n t k) a b = sym (eqb-true n i a) ∙ eqb-true n j b
one_packet_stage i j _ a b = absurd (false≢true a)

one_group_stage : (i j : ℕ) (x : Name) → is_group i x ≡ true → is_group j x ≡ true → i ≡ j
one_group_stage i j (Group n t k) a b = sym (eqb-true n i a) ∙ eqb-true n j b
one_group_stage i j _ a b = absurd (false≢true a)

-- where a name comes by mail

mail_ctrl : (y : Name) → is_ctrl y ≡ true → mail_of y ≡ CtlMail
mail_ctrl (Ctrl i v) e = refl
mail_ctrl _ e = absurd (false≢true e)

mail_rec : (j : ℕ) (y : Name) → is_rec j y ≡ true → mail_of y ≡ Mail j
mail_rec j (Rec i t k g) e = ap Mail (eqb-true i j e)
mail_rec j _ e = absurd (false≢true e)

mail_packet : (j : ℕ) (y : Name) → is_packet j y ≡ true → mail_of y ≡ State j
mail_packet j (Packet i b t) e = ap State (eqb-true i j e)
mail_packet j _ e = absurd (false≢true e)

mail_row : (y : Name) → is_row y ≡ true → mail_of y ≡ OutMail
mail_row (Row t g) e = refl
mail_row _ e = absurd (false≢true e)

-- the names of a message come to one location
same_mail : (o : Outline) (x : Name) (rest : List Name) → IsMessage o (x ∷ rest) → (y : Name) → In y (x ∷ rest) → mail_of y ≡ mail_of x
same_mail o x [] m y i = ap mail_of (sym (one_is x y i))
same_mail o x (z ∷ rest) m y i = let r = m.records (omega arith) in mail_rec r.0 y (r.1 y i) ∙ sym (mail_rec r.0 x (r.1 x (In_here x (z ∷ rest))))

left_once : (xs ys : List Name) → Distinct (xs ++ ys) → Distinct xs
left_once [] ys d = tt
left_once (x ∷ xs) ys d = (false_from_ne_true (has xs x) (λ i. both_ways (has (xs ++ ys) x) d.0 (In_left x xs ys i)), left_once xs ys d.1)

unsent_facts : (o : Outline) (w : ℕ) (log : Log) (j : ℕ) (x : Name) → IsUnsentPacket o w log j x → (is_packet j x ≡ true) × IsOwedBy o w x × (has log.sent x ≡ false)
unsent_facts o w log j (Packet i b t) u =
    let P : ℕ → Type 0 = λ n. (is_packet j (Packet n b t) ≡ true) × IsOwedBy o w (Packet n b t) × (has log.sent (Packet n b t) ≡ false) in
    subst P (sym u.0) (eq-eqb j j refl, u.1, u.2)
unsent_facts o w log j _ u = absurd u

due_unsent : (o : Outline) (w : ℕ) (worker : Worker) (j : ℕ) (x : Name) → IsDue o w worker j x → IsUnsentPacket o w worker.log j x
due_unsent o w worker j (Packet i b t) d = d.0
due_unsent o w worker j _ d = absurd d

-- sums

second_part : (a b c n : ℕ) → b ≡ c + n → a + b ≡ a + c + n
second_part a b c n e = omega arith

first_part : (a b c n : ℕ) → a ≡ c + n → a + b ≡ c + b + n
first_part a b c n e = omega arith

module _ (o : Outline) (ok : OutlineIsSound o) (depth : ℕ) (world : World) (right : WorldIsRight o depth world) (w : ℕ) (l : w < o.workers) where
  abbrev log : Log
  log = (world.worker w).log

  abbrev good : LogIsLegal o w (world.worker w).log
  good = right.logs w l

  abbrev Does : Kind → Name → Type 0
  Does kind x = WorkFalls o w log (logged kind log (names_of o world w kind x)) kind x (length (names_of o world w kind x))

  share_once : Distinct (share o w)
  share_once = Distinct_filter (λ x. sender o x == w) (o.records 0) (ok.records_once 0)

  ingests : (x : Name) → IsPrefix (log.ingested ++ x ∷ []) (share o w) → Does Ingest x
  ingests x next =
      let apart = once_apart log.ingested ((x ∷ []) ++ next.0) x (subst Distinct (sym next.1 ∙ append_assoc log.ingested (x ∷ []) next.0) share_once) (In_here x next.0) in
      let there = In_prefix x (log.ingested ++ x ∷ []) (share o w) next (In_right x log.ingested (x ∷ []) (In_here x [])) in
      record {
        falls = λ a e.
            subst (λ (a : Loc). left_at o w log a (time_of o x) ≡ left_at o w (logged Ingest log (x ∷ [])) a (time_of o x) + 1) (some_same Source a e)
            (undone_falls o (time_of o x) (share o w) log.ingested (x ∷ []) share_once (one_once x) (for_one (λ y. In y (share o w) × (has log.ingested y ≡ false) × (time_of o y ≡ time_of o x)) x (there, apart, refl)));
        stays = λ a t other. ingested_stays o ok w log (x ∷ []) x (for_one (λ y. time_of o y ≡ time_of o x) x refl) a t (λ e. other (ap Some e));
      }

  abbrev Sends : (Name → Bool) → Name → Type 0
  Sends p y = (p y ≡ true) × IsOwedBy o w y × (has log.sent y ≡ false)

  controls : (x : Name) → Sends is_ctrl x → Does SendControl x
  controls x s =
      record {
        falls = λ a e.
            subst (λ (a : Loc). left_at o w log a (time_of o x) ≡ left_at o w (logged SendControl log (x ∷ [])) a (time_of o x) + 1) (some_same Ctl a e)
            (sent_falls o ok w log (x ∷ []) x (one_once x) is_ctrl (for_one (λ y. (is_ctrl y ≡ true) × IsOwedBy o w y × (has log.sent y ≡ false) × (time_of o y ≡ time_of o x)) x (s.0, s.1, s.2, refl)));
        stays = λ a t other.
            sent_stays o ok w log (x ∷ []) x (for_one (λ y. time_of o y ≡ time_of o x) x refl) Ctl
            (λ y i e. refl)
            (λ j y i e. absurd (ctrl_rec j x s.0 (of_one (is_rec j) x y i e)))
            (λ j y i e. absurd (ctrl_packet j x s.0 (of_one (is_packet j) x y i e)))
            (λ y i e. absurd (ctrl_row x s.0 (of_one is_row x y i e)))
            a t (λ e. other (ap Some e));
      }

  rows : (x : Name) → Sends is_row x → Does SendRow x
  rows x s =
      record {
        falls = λ a e.
            subst (λ (a : Loc). left_at o w log a (time_of o x) ≡ left_at o w (logged SendRow log (x ∷ [])) a (time_of o x) + 1) (some_same OutRoute a e)
            (sent_falls o ok w log (x ∷ []) x (one_once x) is_row (for_one (λ y. (is_row y ≡ true) × IsOwedBy o w y × (has log.sent y ≡ false) × (time_of o y ≡ time_of o x)) x (s.0, s.1, s.2, refl)));
        stays = λ a t other.
            sent_stays o ok w log (x ∷ []) x (for_one (λ y. time_of o y ≡ time_of o x) x refl) OutRoute
            (λ y i e. absurd (ctrl_row x (of_one is_ctrl x y i e) s.0))
            (λ j y i e. absurd (row_rec j x s.0 (of_one (is_rec j) x y i e)))
            (λ j y i e. absurd (packet_row j x (of_one (is_packet j) x y i e) s.0))
            (λ y i e. refl)
            a t (λ e. other (ap Some e));
      }

  packets : (j : ℕ) (x : Name) → Sends (is_packet j) x → Does (Extract j) x
  packets j x s =
      record {
        falls = λ a e.
            subst (λ (a : Loc). left_at o w log a (time_of o x) ≡ left_at o w (logged (Extract j) log (x ∷ [])) a (time_of o x) + 1) (some_same (Move j) a e)
            (second_part (undone o (time_of o x) (control_times o j) log.settled) (undone o (time_of o x) (filter (is_packet j) (owed_by o w)) log.sent) (undone o (time_of o x) (filter (is_packet j) (owed_by o w)) (log.sent ++ x ∷ [])) 1
            (sent_falls o ok w log (x ∷ []) x (one_once x) (is_packet j) (for_one (λ y. (is_packet j y ≡ true) × IsOwedBy o w y × (has log.sent y ≡ false) × (time_of o y ≡ time_of o x)) x (s.0, s.1, s.2, refl))));
        stays = λ a t other.
            sent_stays o ok w log (x ∷ []) x (for_one (λ y. time_of o y ≡ time_of o x) x refl) (Move j)
            (λ y i e. absurd (ctrl_packet j x (of_one is_ctrl x y i e) s.0))
            (λ n y i e. absurd (packet_rec j n x s.0 (of_one (is_rec n) x y i e)))
            (λ n y i e. ap Move (one_packet_stage j n x s.0 (of_one (is_packet n) x y i e)))
            (λ y i e. absurd (packet_row j x s.0 (of_one is_row x y i e)))
            a t (λ e. other (ap Some e));
      }

  records : (j : ℕ) (x : Name) → Does (RouteStep j) x
  records j x =
      let xs = bundle_of o w log j x in
      let held = bundle_held o ok w (world.worker w) j x in
      let timed = bundle_time o ok w (world.worker w) j x in
      record {
        falls = λ a e.
            subst (λ (a : Loc). left_at o w log a (time_of o x) ≡ left_at o w (logged (RouteStep j) log xs) a (time_of o x) + length xs) (some_same (Route j) a e)
            (sent_falls o ok w log xs x (ascending_once xs (bundle_ascends o ok w (world.worker w) j x)) (is_rec j) (λ y i. let h = held y i in (h.0, (h.1, given_own o w log good y h.2), h.3, timed y i)));
        stays = λ a t other.
            sent_stays o ok w log xs x timed (Route j)
            (λ y i e. absurd (ctrl_rec j y e (held y i).0))
            (λ n y i e. ap Route (one_stage j n y (held y i).0 e))
            (λ n y i e. absurd (packet_rec n j y e (held y i).0))
            (λ y i e. absurd (row_rec j y e (held y i).0))
            a t (λ e. other (ap Some e));
      }

  applies : (j : ℕ) (x : Name) → In x (hosted_groups o w j) → has log.applied x ≡ false → Does (Apply j) x
  applies j x there new =
      let is : (n : ℕ) → In x (hosted_groups o w n) → is_group n x ≡ true = λ n i. (groups_are o ok n x (In_filter (is_owned o w) x (groups_of o n) i).0).1 in
      let once = ascending_once (hosted_groups o w j) (filter_ascends (is_owned o w) (groups_of o j) (groups_ascend o j)) in
      record {
        falls = λ a e.
            subst (λ (a : Loc). left_at o w log a (time_of o x) ≡ left_at o w (logged (Apply j) log (x ∷ [])) a (time_of o x) + 1) (some_same (Host j) a e)
            (undone_falls o (time_of o x) (hosted_groups o w j) log.applied (x ∷ []) once (one_once x) (for_one (λ y. In y (hosted_groups o w j) × (has log.applied y ≡ false) × (time_of o y ≡ time_of o x)) x (there, new, refl)));
        stays = λ a t other.
            applied_stays o ok w log (x ∷ []) x (for_one (λ y. time_of o y ≡ time_of o x) x refl) (Host j)
            (λ n y i k. ap Host (one_group_stage j n x (is j there) (is n (subst (λ (z : Name). In z (hosted_groups o w n)) (sym (one_is x y i)) k))))
            a t (λ e. other (ap Some e));
      }

  settles : (j t : ℕ) → In (Settled j t) (control_times o j) → has log.settled (Settled j t) ≡ false → Does (Settle j) (Settled j t)
  settles j t there new =
      let x = Settled j t in
      let once = ascending_once (control_times o j) (control_times_ascend o j) in
      record {
        falls = λ a e.
            subst (λ (a : Loc). left_at o w log a t ≡ left_at o w (logged (Settle j) log (x ∷ [])) a t + 1) (some_same (Move j) a e)
            (first_part (undone o t (control_times o j) log.settled) (undone o t (filter (is_packet j) (owed_by o w)) log.sent) (undone o t (control_times o j) (log.settled ++ x ∷ [])) 1
            (undone_falls o t (control_times o j) log.settled (x ∷ []) once (one_once x) (for_one (λ y. In y (control_times o j) × (has log.settled y ≡ false) × (time_of o y ≡ t)) x (there, new, refl))));
        stays = λ a u other.
            settled_stays o ok w log (x ∷ []) x (for_one (λ y. time_of o y ≡ t) x refl) (λ (b : Loc). Move j ≡ b)
            (λ n y i k. let r = control_time_is o n y k in settled_stage j t n r.0 (one_is x y i ∙ r.1))
            a u (λ e. other (ap Some e));
      }
    where
      settled_stage : (j t n u : ℕ) → Settled j t ≡ Settled n u → Move j ≡ Move n
      settled_stage j t n u e = let d : j ≡ n = cc in ap Move d

  writes : (t : ℕ) → Does Write (Written t)
  writes t =
      record {
        falls = λ a e. absurd (none-some a e);
        stays = λ a u other.
            settled_stays o ok w log (Written t ∷ []) (Written t) (for_one (λ y. time_of o y ≡ t) (Written t) refl) (λ (b : Loc). ⊥)
            (λ n y i k. let r = control_time_is o n y k in not_settled t n r.0 (one_is (Written t) y i ∙ r.1))
            a u (λ e. absurd e);
      }
    where
      not_settled : (t n u : ℕ) → Written t ≡ Settled n u → ⊥
      not_settled t n u e = cc

  -- what is received

  abbrev Takes : List Name → Name → Name → Type 0
  Takes xs x y = IsOwedTo o w y × (has log.took y ≡ false) × (time_of o y ≡ time_of o x) × (mail_of y ≡ mail_of x)

  -- of the names that have to be sent, those that come to the location of x are of its kind
  module _ (xs : List Name) (once : Distinct xs) (x : Name) (takes : (y : Name) → In y xs → Takes xs x y) where
    abbrev new : Log
    new = record log { took = log.took ++ xs }

    fall_by : (p : Name → Bool) → ((y : Name) → IsOwed o y → mail_of y ≡ mail_of x → p y ≡ true) → undone o (time_of o x) (filter p (owed_to o w)) log.took ≡ undone o (time_of o x) (filter p (owed_to o w)) (log.took ++ xs) + length xs
    fall_by p h = took_falls o ok w log xs x once p (λ y i. let r = takes y i in (h y r.0.0 r.3, r.0, r.1, r.2))

  is_ctrl_mail : (y : Name) → mail_of y ≡ CtlMail → is_ctrl y ≡ true
  is_ctrl_mail (Ctrl i v) e = refl
  is_ctrl_mail (Rec j t k g) e = absurd (cc)
  is_ctrl_mail (Packet j b t) e = absurd (cc)
  is_ctrl_mail _ e = absurd (cc)

  is_rec_mail : (j : ℕ) (y : Name) → mail_of y ≡ Mail j → is_rec j y ≡ true
  is_rec_mail j (Rec i t k g) e = let d : i ≡ j = cc in eq-eqb i j d
  is_rec_mail j (Ctrl i v) e = absurd (cc)
  is_rec_mail j (Packet i b t) e = absurd (cc)
  is_rec_mail j _ e = absurd (cc)

  is_packet_mail : (j : ℕ) (y : Name) → mail_of y ≡ State j → is_packet j y ≡ true
  is_packet_mail j (Packet i b t) e = let d : i ≡ j = cc in eq-eqb i j d
  is_packet_mail j (Ctrl i v) e = absurd (cc)
  is_packet_mail j (Rec i t k g) e = absurd (cc)
  is_packet_mail j _ e = absurd (cc)

  is_row_mail : (y : Name) → IsOwed o y → mail_of y ≡ OutMail → is_row y ≡ true
  is_row_mail (Row t g) m e = refl
  is_row_mail (Ctrl i v) m e = absurd (cc)
  is_row_mail (Rec j t k g) m e = absurd (cc)
  is_row_mail (Packet j b t) m e = absurd (cc)
  is_row_mail _ m e = absurd m

  fall_at : (xs : List Name) → Distinct xs → (x : Name) → IsOwed o x → ((y : Name) → In y xs → Takes xs x y) → left_at o w log (mail_of x) (time_of o x) ≡ left_at o w (record log { took = log.took ++ xs }) (mail_of x) (time_of o x) + length xs
  fall_at xs once (Ctrl i v) m takes = fall_by xs once (Ctrl i v) takes is_ctrl (λ y n e. is_ctrl_mail y e)
  fall_at xs once (Rec j t k g) m takes = fall_by xs once (Rec j t k g) takes (is_rec j) (λ y n e. is_rec_mail j y e)
  fall_at xs once (Packet j b t) m takes = fall_by xs once (Packet j b t) takes (is_packet j) (λ y n e. is_packet_mail j y e)
  fall_at xs once (Row t g) m takes = fall_by xs once (Row t g) takes is_row (λ y n e. is_row_mail y n e)
  fall_at xs once _ m takes = absurd m

  receives : (v : ℕ) (x : Name) (xs : List Name) → names_of o world w (Receive v) x ≡ xs → Distinct xs → IsOwed o x → ((y : Name) → In y xs → Takes xs x y) → Does (Receive v) x
  receives v x xs is once m takes =
      subst (λ (ys : List Name). WorkFalls o w log (logged (Receive v) log ys) (Receive v) x (length ys)) (sym is)
      (record {
        falls = λ a e. subst (λ (a : Loc). left_at o w log a (time_of o x) ≡ left_at o w (logged (Receive v) log xs) a (time_of o x) + length xs) (some_same (mail_of x) a e) (fall_at xs once x m takes);
        stays = λ a t other.
            took_stays o ok w log xs x (λ y i. (takes y i).2) (mail_of x)
            (λ y i e. sym (takes y i).3 ∙ mail_ctrl y e)
            (λ j y i e. sym (takes y i).3 ∙ mail_rec j y e)
            (λ j y i e. sym (takes y i).3 ∙ mail_packet j y e)
            (λ y i e. sym (takes y i).3 ∙ mail_row y e)
            a t (λ e. other (ap Some e));
      })

  comes : (v : ℕ) → v < o.workers → (x : Name) (rest : List Name) (others : List (List Name)) → world.mailbox v w ≡ (x ∷ rest) ∷ others → Does (Receive v) x
  comes v lv x rest others e =
      let xs = x ∷ rest in
      let waits : (y : Name) → In y xs → In y (joined (world.mailbox v w)) = λ y i. subst (λ (l : List (List Name)). In y (joined l)) (sym e) (In_left y xs (joined others) i) in
      let right_one = λ (y : Name) (i : In y xs). waiting_is_right o ok depth world right.mail right.logs v w lv l y (waits y i) in
      let once : Distinct xs = left_once xs (joined others) (subst (λ (l : List (List Name)). Distinct (joined l)) e (waiting_once o ok depth world right.mail right.logs v w lv l)) in
      let message : IsMessage o xs = subst (All (IsMessage o)) e (right.mail.messages v w lv l) 0 [] (omega arith) in
      let here = In_here x rest in
      receives v x xs (ap first_message e) once (right_one x here).0.0 (λ y i. let r = right_one y i in (r.0, r.2, (message.together x y here i).0, same_mail o x rest message y i))

  pub does : (kind : Kind) (x : Name) → CanStep o depth world w kind x → Does kind x
  does Ingest x can = ingests x can.1
  does SendControl x can = let held = can.1.0.0 in controls x (held.0, (held.1, given_own o w log good x held.2), held.3)
  does (RouteStep j) x can = records j x
  does (Receive v) x can = comes v can.0.1 x can.3.0 can.3.1 can.3.2
  does (Extract j) x can = packets j x (unsent_facts o w log j x (due_unsent o w (world.worker w) j x can.1.0))
  does (Settle j) x can =
      let knows = known o ok depth world right w l in
      let d = settle_to o ok w l (world.worker w) good knows j x can.1 can.2 in
      let all = control_times o j in
      let done = filter (is_settled j) log.settled in
      let there = next_in done all x d.1 in
      let r = control_time_is o j x there in
      let new = not_in_filter (is_settled j) log.settled x (subst (λ (y : Name). is_settled j y ≡ true) (sym r.1) (eq-eqb j j refl)) (next_is_new done all x (control_times_ascend o j) d.1) in
      subst (Does (Settle j)) (sym r.1) (settles j r.0 (subst (λ (y : Name). In y all) r.1 there) (subst (λ (y : Name). has log.settled y ≡ false) r.1 new))
  does (Apply j) x can =
      let knows = known o ok depth world right w l in
      let d = apply_to o ok w l (world.worker w) good knows j x can.1 can.2 in
      let all = owned_groups o w j in
      let done = filter (is_group j) log.applied in
      let ascends = owned_ascend o ok w l (world.worker w) good knows j in
      let there = next_in done all x d.1 in
      let mine = In_filter (is_owned o w) x (due_groups o j) there in
      let group = (due_group o j x mine.0).0 in
      let is = (groups_are o ok j x group).1 in
      applies j x (filter_In (is_owned o w) x (groups_of o j) group mine.1) (not_in_filter (is_group j) log.applied x is (next_is_new done all x ascends d.1))
  does SendRow x can = rows x (can.1.0.0, (can.1.0.1, given_own o w log good x can.1.0.2), can.1.0.3)
  does Write x can = written x can.1.1
    where
      written : (x : Name) → IsLeast (IsUnwritten log) x → Does Write x
      written (Written t) h = writes t
      written _ h = absurd h.0
  does Exchange x can = absurd can.1
