-- A group that is applied: it waits no longer, its outputs are at the router, and the groups that it wakes wait.
use Rattle.std.proofs.Common.{◌≡◌, ◌≢◌, ◌↔◌, ℕ, zero, suc, ◌+◌, ◌-◌, ◌<◌, ◌&&◌, ◌==◌, Bool, true, false, cond, List, [], ◌∷◌, ◌++◌, count_by, map, ℤ, pos, negsuc, ◌+ℤ◌, ◌-ℤ◌, refl, sym, ap, ◌∙◌, subst, ⊎_elim, arith}
use Rattle.std.specs.List.{All, AllPairs, Contains}
use Rattle.std.specs.Prelude.{if◌then◌else◌}
use Rattle.std.proofs.lemmas.Bool.{false≢true, cases_Bool, eq-eqb, eqb-false, eqb-true, ne_eqb}
use Rattle.std.proofs.lemmas.Int.{ints}
use Rattle.std.proofs.lemmas.List.Elements.{All-cons, All-contains_itself, All-map, All-weaker}
use Rattle.std.proofs.lemmas.List.Kept.{AllPairs-cons}
use Rattle.mp_names.specs.declared.locations.Loc.{Loc}
use Rattle.mp_names.specs.declared.locations.Loc.TheVariants.{Ctl, CtlMail, Source, Route, Mail, Move, State, Host, OutRoute, OutMail}
use Rattle.mp_names.specs.declared.names.Name.TheVariants.{Group}
use Rattle.mp_names.specs.declared.pointstamps.Change.{Change}
use Rattle.mp_names.specs.Frontiers.{contribution, is_held, number_at}
use Rattle.mp_names.specs.Keeping.{IsWaiting}
use Rattle.mp_names.specs.Logs.{Log, LogIsLegal, is_pending, with_applied}
use Rattle.mp_names.specs.Names.{has}
use Rattle.mp_names.specs.Outlines.{Outline, OutlineIsSound, groups_of}
use Rattle.mp_names.proofs.Hosts.{pending_new}
use Rattle.mp_names.proofs.Listed.{groups_are}
use Rattle.mp_names.proofs.Lists.{count_none}
use Rattle.mp_stamps.specs.Counts.{same_loc}
use Rattle.mp_rows.specs.Entries.{AreChanges, change_at, sum_at}
use Rattle.mp_rows.proofs.Sums.{sum_at-append, sum_elsewhere, sum_here}
use Rattle.mp_rows_laws.specs.Changes.{applied_at, is_output, location_after, one_less, one_more, outputs_of, some_more}
use Rattle.mp_rows_laws.proofs.Entries.{IsApart, IsNotZero, same_loc_of, same_time_of}
use Rattle.mp_rows_laws.proofs.Given.{controls_held, inputs_held, records_held, rows_held}
use Rattle.mp_rows_laws.proofs.Places.{both}
use Rattle.mp_rows_laws.proofs.Times.{once_at, times_in}
use Rattle.mp_rows_laws.proofs.Waking.{not_itself, waiting, waiting_elsewhere}

-- sums

some_there : (b : Bool) (n : ℕ) → cond b (pos n) (pos 0) +ℤ pos 0 ≡ pos (cond b n 0)
some_there true n = omega (arith, ints)
some_there false n = refl

none_there : (b : Bool) (n : ℕ) → n ≡ 0 → pos 0 ≡ pos (cond b n 0)
none_there true n e = ap pos (sym e)
none_there false n e = refl

none_anyway : (b : Bool) (n : ℕ) → n ≡ 0 → cond b n 0 ≡ 0
none_anyway true n e = e
none_anyway false n e = refl

sum_some : (at : Loc) (t n : ℕ) (loc : Loc) (u : ℕ) → sum_at (some_more at t n) loc u ≡ pos (cond (same_loc at loc && t == u) n 0)
sum_some at t n loc u = by_zero (n == 0) refl
  where
    by_zero : (b : Bool) → (n == 0) ≡ b → sum_at (if b then [] else change_at at t (pos n) ∷ []) loc u ≡ pos (cond (same_loc at loc && t == u) n 0)
    by_zero true e = none_there (same_loc at loc && t == u) n (eqb-true n 0 e)
    by_zero false e = some_there (same_loc at loc && t == u) n

sum_times : (at : Loc) (us : List ℕ) (loc : Loc) (u : ℕ) → sum_at (map (one_more at) us) loc u ≡ pos (cond (same_loc at loc) (times_in us u) 0)
sum_times at us loc u =
    ⊎_elim
    (λ (e : same_loc at loc ≡ true). sum_here at loc (λ v. v) 1 u e us ∙ sym (ap (λ (b : Bool). pos (cond b (times_in us u) 0)) e))
    (λ (e : same_loc at loc ≡ false). sum_elsewhere at loc (λ v. v) 1 u e us ∙ sym (ap (λ (b : Bool). pos (cond b (times_in us u) 0)) e))
    (cases_Bool (same_loc at loc))

two_more : (a b c : ℤ) (m n : ℕ) → b ≡ pos m → c ≡ pos n → a +ℤ (b +ℤ c) ≡ a +ℤ pos (m + n)
two_more a b c m n e f = omega (arith, ints)

-- a place where nothing changes, the router's place
quiet : (r b : Bool) (n : ℕ) (x y : ℤ) → r ≡ false → x ≡ y → pos 0 +ℤ pos (cond (r && b) n 0 + 0) ≡ x -ℤ y
quiet true b n x y e f = absurd (false≢true (sym e))
quiet false b n x y e f = omega (arith, ints)

-- the host of the stage, and that of another
at_host : (r b c d : Bool) (n m x y : ℕ) → r ≡ false → (c ≡ true → x + cond d 1 0 ≡ y + m) → (c ≡ false → x ≡ y) → cond (c && d) (negsuc 0) (pos 0) +ℤ pos (cond (r && b) n 0 + cond c m 0) ≡ pos x -ℤ pos y
at_host true b c d n m x y e f g = absurd (false≢true (sym e))
at_host false b true true n m x y e f g = let h = f refl in omega (arith, ints)
at_host false b true false n m x y e f g = let h = f refl in omega (arith, ints)
at_host false b false d n m x y e f g = let h = g refl in omega (arith, ints)

-- the router
at_route : (m x y : ℕ) → x ≡ y + m → pos 0 +ℤ pos (m + 0) ≡ pos x -ℤ pos y
at_route m x y e = omega (arith, ints)

-- the place of the outputs, by whether the stage is the last
route_by : (b : Bool) (n : ℕ) (loc : Loc) → same_loc OutRoute loc ≡ false → same_loc (Route n) loc ≡ false → same_loc (if b then OutRoute else Route n) loc ≡ false
route_by true n loc e f = e
route_by false n loc e f = f

next_stage : (i j : ℕ) → (suc j == suc i) ≡ (j == i)
next_stage i j =
    both (suc j == suc i) (j == i)
    (λ e. eq-eqb j i (let q = eqb-true (suc j) (suc i) e in omega arith))
    (λ e. eq-eqb (suc j) (suc i) (let q = eqb-true j i e in omega arith))

module _
    (o : Outline) (w : ℕ) (log : Log) (ok : OutlineIsSound o) (good : LogIsLegal o w log) (j t k : ℕ) (woken : List ℕ) (waits : IsWaiting o w log j (Group j t k))
    (once : AllPairs (λ u v. u ≢ v) woken)
    (are : (u : ℕ) → (Contains woken u ↔ ((is_pending o w (with_applied log (Group j t k)) (Group j u k) ≡ true) × (is_pending o w log (Group j u k) ≡ false)))) where
  fresh : has log.applied (Group j t k) ≡ false
  fresh = pending_new o w log j t k waits.1

  stage : j < o.stages
  stage = (groups_are o ok j (Group j t k) waits.0).0

  -- the outputs, by where they go

  to_stage : (i u : ℕ) (b : Bool) → (suc j == o.stages) ≡ b → cond (j == i && t == u) (count_by (is_output t k) (o.records (suc i))) 0 ≡ cond (same_loc (if b then OutRoute else Route (suc j)) (Route (suc i)) && t == u) (count_by (is_output t k) (if b then o.rows else o.records (suc j))) 0
  to_stage i u true e = nothing_given (j == i) refl
    where
      no_stage : (j == i) ≡ true → count_by (is_output t k) (o.records (suc i)) ≡ 0
      no_stage f = count_none (is_output t k) (o.records (suc i)) (λ y h. absurd (let l = (ok.records_are (suc i) y h).0 in let a = eqb-true j i f in let c = eqb-true (suc j) o.stages e in omega arith))

      nothing_given : (c : Bool) → (j == i) ≡ c → cond (c && t == u) (count_by (is_output t k) (o.records (suc i))) 0 ≡ 0
      nothing_given true f = none_anyway (t == u) (count_by (is_output t k) (o.records (suc i))) (no_stage f)
      nothing_given false f = refl
  to_stage i u false e = given (j == i) refl ∙ sym (ap (λ (c : Bool). cond (c && t == u) (count_by (is_output t k) (o.records (suc j))) 0) (next_stage i j))
    where
      given : (c : Bool) → (j == i) ≡ c → cond (c && t == u) (count_by (is_output t k) (o.records (suc i))) 0 ≡ cond (c && t == u) (count_by (is_output t k) (o.records (suc j))) 0
      given true f = ap (λ (n : ℕ). cond (t == u) (count_by (is_output t k) (o.records (suc n))) 0) (sym (eqb-true j i f))
      given false f = refl

  to_answer : (u : ℕ) (b : Bool) → (suc j == o.stages) ≡ b → cond (j == o.stages - 1 && t == u) (count_by (is_output t k) o.rows) 0 ≡ cond (same_loc (if b then OutRoute else Route (suc j)) OutRoute && t == u) (count_by (is_output t k) (if b then o.rows else o.records (suc j))) 0
  to_answer u true e = ap (λ (c : Bool). cond (c && t == u) (count_by (is_output t k) o.rows) 0) (eq-eqb j (o.stages - 1) (let q = eqb-true (suc j) o.stages e in omega arith))
  to_answer u false e = ap (λ (c : Bool). cond (c && t == u) (count_by (is_output t k) o.rows) 0) (ne_eqb j (o.stages - 1) (λ f. eqb-false (suc j) o.stages e (let l = stage in omega arith)))

  -- each place

  abbrev elsewhere : Loc → Bool
  elsewhere loc = same_loc (location_after j o.stages) loc

  not_route : (loc : Loc) → same_loc OutRoute loc ≡ false → same_loc (Route (suc j)) loc ≡ false → elsewhere loc ≡ false
  not_route loc e f = route_by (suc j == o.stages) (suc j) loc e f

  calm : (loc : Loc) (u : ℕ) → same_loc OutRoute loc ≡ false → same_loc (Route (suc j)) loc ≡ false → (x y : ℤ) → x ≡ y → pos 0 +ℤ pos (cond (elsewhere loc && t == u) (outputs_of o j t k) 0 + 0) ≡ x -ℤ y
  calm loc u e f x y h = quiet (elsewhere loc) (t == u) (outputs_of o j t k) x y (not_route loc e f) h

  body : (loc : Loc) (u : ℕ) → cond (same_loc (Host j) loc && t == u) (negsuc 0) (pos 0) +ℤ pos (cond (elsewhere loc && t == u) (outputs_of o j t k) 0 + cond (same_loc (Host j) loc) (times_in woken u) 0) ≡ contribution o w (with_applied log (Group j t k)) loc u -ℤ contribution o w log loc u
  body Ctl u = calm Ctl u refl refl _ _ (ap pos (controls_held o w log ok good j t k fresh u))
  body CtlMail u = calm CtlMail u refl refl (contribution o w log CtlMail u) (contribution o w log CtlMail u) refl
  body Source u = calm Source u refl refl (contribution o w log Source u) (contribution o w log Source u) refl
  body (Route zero) u = calm (Route 0) u refl (ne_eqb (suc j) 0 (λ e. omega arith)) _ _ (ap pos (inputs_held o w log ok good j t k fresh u))
  body (Route (suc i)) u =
      at_route (cond (elsewhere (Route (suc i)) && t == u) (outputs_of o j t k) 0) _ _
      (records_held o w log ok good j t k fresh i u ∙ ap (λ (n : ℕ). number_at o (is_held o w log) u (o.records (suc i)) + n) (to_stage i u (suc j == o.stages) refl))
  body (Mail i) u = calm (Mail i) u refl refl (contribution o w log (Mail i) u) (contribution o w log (Mail i) u) refl
  body (Move i) u = calm (Move i) u refl refl (contribution o w log (Move i) u) (contribution o w log (Move i) u) refl
  body (State i) u = calm (State i) u refl refl (contribution o w log (State i) u) (contribution o w log (State i) u) refl
  body (Host i) u =
      at_host (elsewhere (Host i)) (t == u) (j == i) (t == u) (outputs_of o j t k) (times_in woken u) (number_at o (is_pending o w (with_applied log (Group j t k))) u (groups_of o i)) (number_at o (is_pending o w log) u (groups_of o i))
      (not_route (Host i) refl refl)
      (λ e. subst (λ (n : ℕ). number_at o (is_pending o w (with_applied log (Group j t k))) u (groups_of o n) + cond (t == u) 1 0 ≡ number_at o (is_pending o w log) u (groups_of o n) + times_in woken u) (eqb-true j i e) (waiting o w log ok good j t k waits woken once are u))
      (λ e. waiting_elsewhere o w log ok good j t k waits i u e)
  body OutRoute u =
      at_route (cond (elsewhere OutRoute && t == u) (outputs_of o j t k) 0) _ _
      (rows_held o w log ok good j t k fresh u ∙ ap (λ (n : ℕ). number_at o (is_held o w log) u o.rows + n) (to_answer u (suc j == o.stages) refl))
  body OutMail u = calm OutMail u refl refl (contribution o w log OutMail u) (contribution o w log OutMail u) refl

  sums : (loc : Loc) (u : ℕ) → sum_at (applied_at o j t k woken) loc u ≡ contribution o w (with_applied log (Group j t k)) loc u -ℤ contribution o w log loc u
  sums loc u =
      let given = some_more (location_after j o.stages) t (outputs_of o j t k) in
      let first = cond (same_loc (Host j) loc && t == u) (negsuc 0) (pos 0) in
      ap (λ (z : ℤ). first +ℤ z) (sum_at-append given (map (one_more (Host j)) woken) loc u)
      ∙ two_more first (sum_at given loc u) (sum_at (map (one_more (Host j)) woken) loc u) (cond (elsewhere loc && t == u) (outputs_of o j t k) 0) (cond (same_loc (Host j) loc) (times_in woken u) 0)
      (sum_some (location_after j o.stages) t (outputs_of o j t k) loc u)
      (sum_times (Host j) woken loc u)
      ∙ body loc u

  -- each place once

  abbrev more : List Change
  more = map (one_more (Host j)) woken

  not_host : (b : Bool) (i : ℕ) → (if b then OutRoute else Route (suc j)) ≡ Host i → ⊥
  not_host true i e = cc
  not_host false i e = cc

  host_apart : All (IsApart (one_less (Host j) t)) more
  host_apart =
      All-map (IsApart (one_less (Host j) t)) (one_more (Host j)) woken
      (All-weaker (Contains woken) (λ u. IsApart (one_less (Host j) t) (one_more (Host j) u)) (λ u c e. not_itself o w log ok good j t k waits woken once are (subst (λ (v : ℕ). Contains woken v) (sym (same_time_of (one_less (Host j) t) (one_more (Host j) u) e)) c)) woken (All-contains_itself woken))

  route_apart : (n : ℕ) → All (IsApart (change_at (location_after j o.stages) t (pos n))) more
  route_apart n =
      All-map (IsApart (change_at (location_after j o.stages) t (pos n))) (one_more (Host j)) woken
      (All-weaker (Contains woken) (λ u. IsApart (change_at (location_after j o.stages) t (pos n)) (one_more (Host j) u)) (λ u c e. not_host (suc j == o.stages) j (same_loc_of (change_at (location_after j o.stages) t (pos n)) (one_more (Host j) u) e)) woken (All-contains_itself woken))

  places : (n : ℕ) → AllPairs IsApart (one_less (Host j) t ∷ (some_more (location_after j o.stages) t n ++ more))
  places n = by_zero (n == 0)
    where
      by_zero : (b : Bool) → AllPairs IsApart (one_less (Host j) t ∷ ((if b then [] else change_at (location_after j o.stages) t (pos n) ∷ []) ++ more))
      by_zero true = AllPairs-cons IsApart (one_less (Host j) t) more host_apart (once_at (Host j) (λ u. u) (λ u. pos 1) woken once)
      by_zero false =
          let given : Change = change_at (location_after j o.stages) t (pos n) in
          AllPairs-cons IsApart (one_less (Host j) t) (given ∷ more)
          (All-cons (IsApart (one_less (Host j) t)) given more (λ e. not_host (suc j == o.stages) j (sym (same_loc_of (one_less (Host j) t) given e))) host_apart)
          (AllPairs-cons IsApart given more (route_apart n) (once_at (Host j) (λ u. u) (λ u. pos 1) woken once))

  none_zero : (n : ℕ) → All IsNotZero (one_less (Host j) t ∷ (some_more (location_after j o.stages) t n ++ more))
  none_zero n = All-cons IsNotZero (one_less (Host j) t) (some_more (location_after j o.stages) t n ++ more) (λ e. cc) (by_zero (n == 0) refl)
    where
      last : All IsNotZero more
      last = All-map IsNotZero (one_more (Host j)) woken (All-weaker (Contains woken) (λ u. IsNotZero (one_more (Host j) u)) (λ u c e. one_not_zero e) woken (All-contains_itself woken))
        where
          one_not_zero : pos 1 ≡ pos 0 → ⊥
          one_not_zero e = cc

      by_zero : (b : Bool) → (n == 0) ≡ b → All IsNotZero ((if b then [] else change_at (location_after j o.stages) t (pos n) ∷ []) ++ more)
      by_zero true e = last
      by_zero false e = All-cons IsNotZero (change_at (location_after j o.stages) t (pos n)) more (λ f. eqb-false n 0 e (same_number n 0 f)) last
        where
          same_number : (m n : ℕ) → pos m ≡ pos n → m ≡ n
          same_number m n e = cc

  pub applied : AreChanges o w log (with_applied log (Group j t k)) (applied_at o j t k woken)
  applied = record { sums = sums; once = places (outputs_of o j t k); none_by_zero = none_zero (outputs_of o j t k) }
