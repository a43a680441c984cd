-- Each step does its part of the work that is left.
use Rattle.std.proofs.Common.{◌≡◌, ℕ, ◌+◌, ◌==◌, Bool, true, false, cond, not, ◌&&◌, ◌||◌, List, [], ◌∷◌, ◌++◌, length, filter, refl, sym, ap, ◌∙◌, ⊎_elim}
use Rattle.std.proofs.lemmas.Bool.{eqb-true, eq-eqb, and_parts, and_from, not_from_false, and_right, cases_Bool}
use Rattle.mp_names.specs.declared.names.Name.{Name}
use Rattle.mp_names.specs.declared.locations.Loc.{Loc}
use Rattle.mp_names.specs.declared.locations.Loc.TheVariants.{Ctl, CtlMail, Source, Route, Mail, Move, State, Host, OutRoute, OutMail}
use Rattle.mp_names.specs.Names.{same_name, has, In, Distinct, is_ctrl, is_rec, is_packet, is_row}
use Rattle.mp_names.specs.Outlines.{Outline, OutlineIsSound, time_of, sender, receiver, owed_names, owed_by, owed_to, share, control_times, IsOwedBy, IsOwedTo}
use Rattle.mp_names.specs.Logs.{Log}
use Rattle.mp_names.proofs.Listed.{owed_once, owed_by_In, owed_to_In}
use Rattle.mp_names.proofs.Lists.{In_filter, filter_In, Distinct_filter, count_split, count_agree, same_count, all_counted}
use Rattle.mp_player_laws.specs.WorkLeft.{undone, hosted_groups, left_at}

-- as the lemmas on counts have it
abbrev one : Bool → ℕ
one b = cond b 1 0

has_append : (xs ys : List Name) (x : Name) → has (xs ++ ys) x ≡ (has xs x || has ys x)
has_append [] ys x = refl
has_append (z ∷ xs) ys x = ap (λ (b : Bool). same_name z x || b) (has_append xs ys x) ∙ or_assoc (same_name z x) (has xs x) (has ys x)
  where
    or_assoc : (a b c : Bool) → (a || (b || c)) ≡ ((a || b) || c)
    or_assoc true b c = refl
    or_assoc false b c = refl

parts : (d x t : Bool) → one (not d && t) ≡ one (not (d || x) && t) + one ((x && not d) && t)
parts true true true = refl
parts true true false = refl
parts true false true = refl
parts true false false = refl
parts false true true = refl
parts false true false = refl
parts false false true = refl
parts false false false = refl

module _ (o : Outline) (t : ℕ) (all done xs : List Name) where
  -- names that aren't of the list, or not of the time, leave it
  pub undone_stays : ((y : Name) → In y xs → In y all → time_of o y ≡ t → ⊥) → undone o t all (done ++ xs) ≡ undone o t all done
  undone_stays none =
      count_agree (λ x. not (has (done ++ xs) x) && time_of o x == t) (λ x. not (has done x) && time_of o x == t) all (λ x i.
      ⊎_elim
      (λ (e : time_of o x == t ≡ true).
      ⊎_elim
      (λ (h : has xs x ≡ true). absurd (none x h i (eqb-true (time_of o x) t e)))
      (λ (h : has xs x ≡ false). ap (λ (b : Bool). not b && time_of o x == t) (has_append done xs x ∙ ap (λ (b : Bool). has done x || b) h ∙ or_false (has done x)))
      (cases_Bool (has xs x)))
      (λ (e : time_of o x == t ≡ false). and_right (not (has (done ++ xs) x)) (time_of o x == t) e ∙ sym (and_right (not (has done x)) (time_of o x == t) e))
      (cases_Bool (time_of o x == t)))
    where
      or_false : (b : Bool) → (b || false) ≡ b
      or_false true = refl
      or_false false = refl

  -- names of the list and the time, none done before, are so many less
  pub undone_falls : Distinct all → Distinct xs → ((y : Name) → In y xs → In y all × (has done y ≡ false) × (time_of o y ≡ t)) → undone o t all done ≡ undone o t all (done ++ xs) + length xs
  undone_falls once once_each h =
      count_split (λ x. not (has done x) && time_of o x == t) (λ x. not (has (done ++ xs) x) && time_of o x == t) (λ x. (has xs x && not (has done x)) && time_of o x == t) all
      (λ x. parts (has done x) (has xs x) (time_of o x == t) ∙ ap (λ (b : Bool). one (not b && time_of o x == t) + one ((has xs x && not (has done x)) && time_of o x == t)) (sym (has_append done xs x)))
      ∙ ap (λ (n : ℕ). undone o t all (done ++ xs) + n)
      (same_count (λ x. (has xs x && not (has done x)) && time_of o x == t) xs all once_each once (λ x i e. (h x i).0) (λ x i e. (and_parts (has xs x) (not (has done x)) (and_parts (has xs x && not (has done x)) (time_of o x == t) e).0).0)
      ∙ all_counted (λ x. (has xs x && not (has done x)) && time_of o x == t) xs (λ x i.
      let r = h x i in
      and_from (has xs x && not (has done x)) (time_of o x == t) (and_from (has xs x) (not (has done x)) i (not_from_false (has done x) r.1)) (eq-eqb (time_of o x) t r.2)))

-- what is sent

module _ (o : Outline) (ok : OutlineIsSound o) (w : ℕ) (log : Log) (xs : List Name) (x : Name) where
  abbrev time : ℕ
  time = time_of o x

  once_to_send : Distinct (owed_by o w)
  once_to_send = Distinct_filter (λ y. sender o y == w) (owed_names o) (owed_once o ok)

  once_to_take : Distinct (owed_to o w)
  once_to_take = Distinct_filter (λ y. receiver o y == w) (owed_names o) (owed_once o ok)

  module _ (once : Distinct xs) where
    pub sent_falls : (p : Name → Bool) → ((y : Name) → In y xs → (p y ≡ true) × IsOwedBy o w y × (has log.sent y ≡ false) × (time_of o y ≡ time)) → undone o time (filter p (owed_by o w)) log.sent ≡ undone o time (filter p (owed_by o w)) (log.sent ++ xs) + length xs
    sent_falls p h =
        undone_falls o time (filter p (owed_by o w)) log.sent xs (Distinct_filter p (owed_by o w) once_to_send) once (λ y i.
        let r = h y i in (filter_In p y (owed_by o w) (owed_by_In o w y r.1) r.0, r.2, r.3))

    pub took_falls : (p : Name → Bool) → ((y : Name) → In y xs → (p y ≡ true) × IsOwedTo o w y × (has log.took y ≡ false) × (time_of o y ≡ time)) → undone o time (filter p (owed_to o w)) log.took ≡ undone o time (filter p (owed_to o w)) (log.took ++ xs) + length xs
    took_falls p h =
        undone_falls o time (filter p (owed_to o w)) log.took xs (Distinct_filter p (owed_to o w) once_to_take) once (λ y i.
        let r = h y i in (filter_In p y (owed_to o w) (owed_to_In o w y r.1) r.0, r.2, r.3))

  module _ (same_time : (y : Name) → In y xs → time_of o y ≡ time) where
    pub stays_if : (all done : List Name) (t : ℕ) → ((y : Name) → In y xs → In y all → t ≡ time → ⊥) → undone o t all (done ++ xs) ≡ undone o t all done
    stays_if all done t none = undone_stays o t all done xs (λ y i k e. none y i k (sym e ∙ same_time y i))

    -- where the names that are sent are of the location's kind, it is the step's
    pub sent_stays : (at : Loc) → ((y : Name) → In y xs → is_ctrl y ≡ true → at ≡ Ctl) → ((j : ℕ) (y : Name) → In y xs → is_rec j y ≡ true → at ≡ Route j) → ((j : ℕ) (y : Name) → In y xs → is_packet j y ≡ true → at ≡ Move j) → ((y : Name) → In y xs → is_row y ≡ true → at ≡ OutRoute) → (a : Loc) (t : ℕ) → (at ≡ a → t ≡ time → ⊥) → left_at o w (record log { sent = log.sent ++ xs }) a t ≡ left_at o w log a t
    sent_stays at c r p q Ctl t other = stays_if (filter is_ctrl (owed_by o w)) log.sent t (λ y i k. other (c y i (In_filter is_ctrl y (owed_by o w) k).1))
    sent_stays at c r p q (Route j) t other = stays_if (filter (is_rec j) (owed_by o w)) log.sent t (λ y i k. other (r j y i (In_filter (is_rec j) y (owed_by o w) k).1))
    sent_stays at c r p q (Move j) t other =
        ap (λ (n : ℕ). undone o t (control_times o j) log.settled + n)
        (stays_if (filter (is_packet j) (owed_by o w)) log.sent t (λ y i k. other (p j y i (In_filter (is_packet j) y (owed_by o w) k).1)))
    sent_stays at c r p q OutRoute t other = stays_if (filter is_row (owed_by o w)) log.sent t (λ y i k. other (q y i (In_filter is_row y (owed_by o w) k).1))
    sent_stays at c r p q _ t other = refl

    pub took_stays : (at : Loc) → ((y : Name) → In y xs → is_ctrl y ≡ true → at ≡ CtlMail) → ((j : ℕ) (y : Name) → In y xs → is_rec j y ≡ true → at ≡ Mail j) → ((j : ℕ) (y : Name) → In y xs → is_packet j y ≡ true → at ≡ State j) → ((y : Name) → In y xs → is_row y ≡ true → at ≡ OutMail) → (a : Loc) (t : ℕ) → (at ≡ a → t ≡ time → ⊥) → left_at o w (record log { took = log.took ++ xs }) a t ≡ left_at o w log a t
    took_stays at c r p q CtlMail t other = stays_if (filter is_ctrl (owed_to o w)) log.took t (λ y i k. other (c y i (In_filter is_ctrl y (owed_to o w) k).1))
    took_stays at c r p q (Mail j) t other = stays_if (filter (is_rec j) (owed_to o w)) log.took t (λ y i k. other (r j y i (In_filter (is_rec j) y (owed_to o w) k).1))
    took_stays at c r p q (State j) t other = stays_if (filter (is_packet j) (owed_to o w)) log.took t (λ y i k. other (p j y i (In_filter (is_packet j) y (owed_to o w) k).1))
    took_stays at c r p q OutMail t other = stays_if (filter is_row (owed_to o w)) log.took t (λ y i k. other (q y i (In_filter is_row y (owed_to o w) k).1))
    took_stays at c r p q _ t other = refl

    pub applied_stays : (at : Loc) → ((j : ℕ) (y : Name) → In y xs → In y (hosted_groups o w j) → at ≡ Host j) → (a : Loc) (t : ℕ) → (at ≡ a → t ≡ time → ⊥) → left_at o w (record log { applied = log.applied ++ xs }) a t ≡ left_at o w log a t
    applied_stays at g (Host j) t other = stays_if (hosted_groups o w j) log.applied t (λ y i k. other (g j y i k))
    applied_stays at g _ t other = refl

    pub settled_stays : (P : Loc → Type 0) → ((j : ℕ) (y : Name) → In y xs → In y (control_times o j) → P (Move j)) → (a : Loc) (t : ℕ) → (P a → t ≡ time → ⊥) → left_at o w (record log { settled = log.settled ++ xs }) a t ≡ left_at o w log a t
    settled_stays P g (Move j) t other = ap (λ (n : ℕ). n + undone o t (filter (is_packet j) (owed_by o w)) log.sent) (stays_if (control_times o j) log.settled t (λ y i k. other (g j y i k)))
    settled_stays P g _ t other = refl

    pub ingested_stays : (a : Loc) (t : ℕ) → (Source ≡ a → t ≡ time → ⊥) → left_at o w (record log { ingested = log.ingested ++ xs }) a t ≡ left_at o w log a t
    ingested_stays Source t other = stays_if (share o w) log.ingested t (λ y i k. other refl)
    ingested_stays _ t other = refl
