-- A group that is applied gives its outputs: so many more names are held at the router after it, and nowhere else.
use Rattle.std.proofs.Common.{◌≡◌, ℕ, zero, suc, ◌+◌, ◌-◌, ◌&&◌, ◌||◌, ◌==◌, Bool, true, false, not, cond, List, count_by, refl, sym, ap, ◌∙◌, subst, arith}
use Rattle.std.proofs.lemmas.Bool.{false≢true, both_ways, eqb-true, false_from_ne_true}
use Rattle.mp_names.specs.declared.names.Name.{Name}
use Rattle.mp_names.specs.declared.names.Name.TheVariants.{Ctrl, Rec, Row, Group}
use Rattle.mp_names.specs.Frontiers.{is_held, number_at}
use Rattle.mp_names.specs.Logs.{Log, LogIsLegal, is_given, with_applied}
use Rattle.mp_names.specs.Names.{same_name, has, In, is_ctrl, is_rec, is_row}
use Rattle.mp_names.specs.Outlines.{Outline, OutlineIsSound, ctrl_names, time_of}
use Rattle.mp_names.proofs.Listed.{ctrl_owed}
use Rattle.mp_names.proofs.Lists.{count_agree, count_none, count_split, same_name-true}
use Rattle.mp_rows_laws.specs.Changes.{is_output}
use Rattle.mp_rows_laws.proofs.Pushes.{has_push, or_false}

abbrev one : Bool → ℕ
one b = cond b 1 0

-- given by the group or given before, not sent, of the time
one_held : (a d s b : Bool) → (d ≡ true → a ≡ false) → (d ≡ true → s ≡ false) → one (((a || d) && not s) && b) ≡ one ((a && not s) && b) + one (d && b)
one_held true true s b f g = absurd (false≢true (sym (f refl)))
one_held false true true b f g = absurd (false≢true (sym (g refl)))
one_held false true false true f g = refl
one_held false true false false f g = refl
one_held true false true b f g = refl
one_held true false false true f g = refl
one_held true false false false f g = refl
one_held false false s b f g = refl

-- of two equal times either can be asked for
other_time : (a same c now then : Bool) → (same ≡ true → now ≡ then) → ((a && (same && c)) && now) ≡ ((a && then) && (same && c))
other_time false same c now then h = refl
other_time true false c now true h = refl
other_time true false c now false h = refl
other_time true true false now true h = refl
other_time true true false now false h = refl
other_time true true true true true h = refl
other_time true true true false false h = refl
other_time true true true true false h = h refl
other_time true true true false true h = h refl

count_where : (c : Bool) (p : Name → Bool) (xs : List Name) → count_by (λ y. c && p y) xs ≡ cond c (count_by p xs) 0
count_where true p xs = refl
count_where false p xs = count_none (λ y. false) xs (λ y i. refl)

module _ (o : Outline) (w : ℕ) (log : Log) (ok : OutlineIsSound o) (good : LogIsLegal o w log) (j t k : ℕ) (fresh : has log.applied (Group j t k) ≡ false) where
  abbrev group : Name
  group = Group j t k

  abbrev new : Log
  new = with_applied log group

  -- the name is one that the group gives
  abbrev is_of_group : Name → Bool
  is_of_group (Rec zero s l g) = false
  is_of_group (Rec (suc i) s l g) = same_name group (Group i s g.0)
  is_of_group (Row s g) = same_name group (Group (o.stages - 1) s g.0)
  is_of_group _ = false

  given_more : (y : Name) → is_given o w new y ≡ (is_given o w log y || is_of_group y)
  given_more (Rec zero s l g) = sym (or_false (has log.ingested (Rec 0 s l g)))
  given_more (Rec (suc i) s l g) = has_push log.applied group (Group i s g.0)
  given_more (Row s g) = has_push log.applied group (Group (o.stages - 1) s g.0)
  given_more (Ctrl i v) = sym (or_false (w == 0))
  given_more _ = refl

  not_given : (y : Name) → is_of_group y ≡ true → is_given o w log y ≡ false
  not_given (Rec (suc i) s l g) e = subst (λ (z : Name). has log.applied z ≡ false) (same_name-true group (Group i s g.0) e) fresh
  not_given (Row s g) e = subst (λ (z : Name). has log.applied z ≡ false) (same_name-true group (Group (o.stages - 1) s g.0) e) fresh
  not_given (Rec zero s l g) e = absurd (false≢true e)
  not_given _ e = absurd (false≢true e)

  not_sent : (y : Name) → is_of_group y ≡ true → has log.sent y ≡ false
  not_sent (Rec (suc i) s l g) e = false_from_ne_true (has log.sent (Rec (suc i) s l g)) (λ h. both_ways (has log.applied (Group i s g.0)) (not_given (Rec (suc i) s l g) e) (good.sent_given (Rec (suc i) s l g) h))
  not_sent (Row s g) e = false_from_ne_true (has log.sent (Row s g)) (λ h. both_ways (has log.applied (Group (o.stages - 1) s g.0)) (not_given (Row s g) e) (good.sent_given (Row s g) h))
  not_sent (Rec zero s l g) e = absurd (false≢true e)
  not_sent _ e = absurd (false≢true e)

  held_more : (u : ℕ) (xs : List Name) → number_at o (is_held o w new) u xs ≡ number_at o (is_held o w log) u xs + count_by (λ y. is_of_group y && time_of o y == u) xs
  held_more u xs =
      count_split (λ y. is_held o w new y && time_of o y == u) (λ y. is_held o w log y && time_of o y == u) (λ y. is_of_group y && time_of o y == u) xs
      (λ y. ap (λ (b : Bool). one ((b && not (has log.sent y)) && time_of o y == u)) (given_more y)
      ∙ one_held (is_given o w log y) (is_of_group y) (has log.sent y) (time_of o y == u) (not_given y) (not_sent y))

  -- nothing more in a list of which the group gives nothing
  none_more : (u : ℕ) (xs : List Name) → ((y : Name) → In y xs → is_of_group y ≡ false) → number_at o (is_held o w new) u xs ≡ number_at o (is_held o w log) u xs
  none_more u xs h =
      let m = held_more u xs in
      let z = count_none (λ y. is_of_group y && time_of o y == u) xs (λ y i. ap (λ (b : Bool). b && time_of o y == u) (h y i)) in
      omega arith

  pub controls_held : (u : ℕ) → number_at o (is_held o w (with_applied log (Group j t k))) u (ctrl_names o) ≡ number_at o (is_held o w log) u (ctrl_names o)
  controls_held u = none_more u (ctrl_names o) (λ y i. none y (ctrl_owed o y i).1)
    where
      none : (y : Name) → is_ctrl y ≡ true → is_of_group y ≡ false
      none (Ctrl i v) e = refl
      none _ e = absurd (false≢true e)

  pub inputs_held : (u : ℕ) → number_at o (is_held o w (with_applied log (Group j t k))) u (o.records 0) ≡ number_at o (is_held o w log) u (o.records 0)
  inputs_held u = none_more u (o.records 0) (λ y i. none y (ok.records_are 0 y i).1)
    where
      none : (y : Name) → is_rec 0 y ≡ true → is_of_group y ≡ false
      none (Rec zero s l g) e = refl
      none (Rec (suc i) s l g) e = absurd (let q = eqb-true (suc i) 0 e in omega arith)
      none _ e = absurd (false≢true e)

  -- what the group gives to a stage or to the answer
  some_more : (c : Bool) (u : ℕ) (xs : List Name) → ((y : Name) → In y xs → (is_of_group y && time_of o y == u) ≡ ((c && t == u) && is_output t k y)) → number_at o (is_held o w new) u xs ≡ number_at o (is_held o w log) u xs + cond (c && t == u) (count_by (is_output t k) xs) 0
  some_more c u xs h =
      held_more u xs ∙ ap (λ (n : ℕ). number_at o (is_held o w log) u xs + n) (count_agree (λ y. is_of_group y && time_of o y == u) (λ y. (c && t == u) && is_output t k y) xs h ∙ count_where (c && t == u) (is_output t k) xs)

  same_time : (s u : ℕ) → (t == s) ≡ true → (s == u) ≡ (t == u)
  same_time s u e = ap (λ (v : ℕ). v == u) (sym (eqb-true t s e))

  pub records_held : (i u : ℕ) → number_at o (is_held o w (with_applied log (Group j t k))) u (o.records (suc i)) ≡ number_at o (is_held o w log) u (o.records (suc i)) + cond (j == i && t == u) (count_by (is_output t k) (o.records (suc i))) 0
  records_held i u = some_more (j == i) u (o.records (suc i)) (λ y h. each y (ok.records_are (suc i) y h).1)
    where
      each : (y : Name) → is_rec (suc i) y ≡ true → (is_of_group y && time_of o y == u) ≡ ((j == i && t == u) && is_output t k y)
      each (Rec (suc n) s l g) e =
          other_time (j == n) (t == s) (k == g.0) (s == u) (t == u) (same_time s u)
          ∙ ap (λ (m : ℕ). (j == m && t == u) && (t == s && k == g.0)) (let q = eqb-true (suc n) (suc i) e in omega arith)
      each (Rec zero s l g) e = absurd (let q = eqb-true 0 (suc i) e in omega arith)
      each _ e = absurd (false≢true e)

  pub rows_held : (u : ℕ) → number_at o (is_held o w (with_applied log (Group j t k))) u o.rows ≡ number_at o (is_held o w log) u o.rows + cond (j == o.stages - 1 && t == u) (count_by (is_output t k) o.rows) 0
  rows_held u = some_more (j == o.stages - 1) u o.rows (λ y h. each y (ok.rows_are y h))
    where
      each : (y : Name) → is_row y ≡ true → (is_of_group y && time_of o y == u) ≡ ((j == o.stages - 1 && t == u) && is_output t k y)
      each (Row s g) e = other_time (j == o.stages - 1) (t == s) (k == g.0) (s == u) (t == u) (same_time s u)
      each _ e = absurd (false≢true e)
