-- A time that is settled is to be settled no longer; one that is written counts nowhere.
use Rattle.std.proofs.Common.{◌≡◌, ℕ, ◌+◌, ◌&&◌, ◌||◌, ◌==◌, Bool, true, false, not, cond, List, [], ◌∷◌, ◌++◌, pos, ◌-ℤ◌, refl, sym, ap, ◌∙◌, subst}
use Rattle.std.proofs.lemmas.Bool.{false≢true, true≢false, and_parts, eqb-true}
use Rattle.mp_names.specs.declared.locations.Loc.{Loc}
use Rattle.mp_names.specs.declared.locations.Loc.TheVariants.{Ctl, CtlMail, Source, Route, Mail, Move, State, Host, OutRoute, OutMail}
use Rattle.mp_names.specs.declared.names.Name.{Name}
use Rattle.mp_names.specs.declared.names.Name.TheVariants.{Settled, Written}
use Rattle.mp_names.specs.Frontiers.{contribution, is_held, number_at}
use Rattle.mp_names.specs.Keeping.{IsUnsettled}
use Rattle.mp_names.specs.Logs.{Log, is_noted, is_pending, with_settled}
use Rattle.mp_names.specs.Names.{has}
use Rattle.mp_names.specs.Outlines.{Outline, ctrl_names, groups_of}
use Rattle.mp_rows.specs.Entries.{AreChanges, sum_at}
use Rattle.mp_rows_laws.specs.Changes.{one_less, settled_at}
use Rattle.mp_rows_laws.proofs.Entries.{less_first, none_once, none_zero, nothing, one_not_zero, one_once}
use Rattle.mp_rows_laws.proofs.Numbers.{number_same}
use Rattle.mp_rows_laws.proofs.Parts.{given_same, pending_kept}
use Rattle.mp_rows_laws.proofs.Pushes.{has_other, has_push}

-- what is settled with one more name
module _ (o : Outline) (w : ℕ) (log : Log) (x : Name) where
  abbrev pub new : Log
  new = with_settled log x

  pub held_same : (u : ℕ) (xs : List Name) → number_at o (is_held o w new) u xs ≡ number_at o (is_held o w log) u xs
  held_same u xs = number_same o u (is_held o w new) (is_held o w log) xs (λ y i. ap (λ (b : Bool). b && not (has log.sent y)) (given_same o log new w refl refl y))

  pub waiting_same : (j u : ℕ) → number_at o (is_pending o w new) u (groups_of o j) ≡ number_at o (is_pending o w log) u (groups_of o j)
  waiting_same j u = number_same o u (is_pending o w new) (is_pending o w log) (groups_of o j) (λ y i. pending_kept o log new w refl refl refl y)

-- the name is that of this time, or another
one_time : (h noted s : Bool) → (h ≡ true → noted ≡ true) → (h ≡ true → s ≡ false) → cond (noted && not s) 1 0 ≡ cond (noted && not (s || h)) 1 0 + cond h 1 0
one_time true true true f g = absurd (true≢false (g refl))
one_time true true false f g = refl
one_time true false s f g = absurd (false≢true (f refl))
one_time false true true f g = refl
one_time false true false f g = refl
one_time false false s f g = refl

module _ (o : Outline) (w : ℕ) (log : Log) (j t : ℕ) (open_time : IsUnsettled o log j (Settled j t)) where
  to_settle : (n u : ℕ) → cond (is_noted o log n u && not (has log.settled (Settled n u))) 1 0 ≡ cond (is_noted o log n u && not (has (log.settled ++ Settled j t ∷ []) (Settled n u))) 1 0 + cond (j == n && t == u) 1 0
  to_settle n u =
      one_time (j == n && t == u) (is_noted o log n u) (has log.settled (Settled n u)) (λ e. (here e).0) (λ e. (here e).1)
      ∙ ap (λ (b : Bool). cond (is_noted o log n u && not b) 1 0 + cond (j == n && t == u) 1 0) (sym (has_push log.settled (Settled j t) (Settled n u)))
    where
      here : (j == n && t == u) ≡ true → (is_noted o log n u ≡ true) × (has log.settled (Settled n u) ≡ false)
      here e =
          let p = and_parts (j == n) (t == u) e in
          subst (λ (m : ℕ). (is_noted o log m u ≡ true) × (has log.settled (Settled m u) ≡ false)) (eqb-true j n p.0)
          (subst (λ (v : ℕ). (is_noted o log j v ≡ true) × (has log.settled (Settled j v) ≡ false)) (eqb-true t u p.1) (open_time.1, open_time.2))

  each : (loc : Loc) (u : ℕ) → sum_at (settled_at j t) loc u ≡ contribution o w (with_settled log (Settled j t)) loc u -ℤ contribution o w log loc u
  each Ctl u = nothing _ _ (ap pos (held_same o w log (Settled j t) u (ctrl_names o)))
  each CtlMail u = nothing (contribution o w log CtlMail u) (contribution o w log CtlMail u) refl
  each Source u = nothing (contribution o w log Source u) (contribution o w log Source u) refl
  each (Route i) u = nothing _ _ (ap pos (held_same o w log (Settled j t) u (o.records i)))
  each (Mail i) u = nothing (contribution o w log (Mail i) u) (contribution o w log (Mail i) u) refl
  each (Move i) u = less_first (j == i && t == u) _ _ (to_settle i u)
  each (State i) u = nothing (contribution o w log (State i) u) (contribution o w log (State i) u) refl
  each (Host i) u = nothing _ _ (ap pos (waiting_same o w log (Settled j t) i u))
  each OutRoute u = nothing _ _ (ap pos (held_same o w log (Settled j t) u o.rows))
  each OutMail u = nothing (contribution o w log OutMail u) (contribution o w log OutMail u) refl

  pub settled : AreChanges o w log (with_settled log (Settled j t)) (settled_at j t)
  settled = record { sums = each; once = one_once (one_less (Move j) t); none_by_zero = one_not_zero (one_less (Move j) t) (λ e. cc) }

module _ (o : Outline) (w : ℕ) (log : Log) (t : ℕ) where
  nowhere : (loc : Loc) (u : ℕ) → sum_at [] loc u ≡ contribution o w (with_settled log (Written t)) loc u -ℤ contribution o w log loc u
  nowhere Ctl u = nothing _ _ (ap pos (held_same o w log (Written t) u (ctrl_names o)))
  nowhere CtlMail u = nothing (contribution o w log CtlMail u) (contribution o w log CtlMail u) refl
  nowhere Source u = nothing (contribution o w log Source u) (contribution o w log Source u) refl
  nowhere (Route i) u = nothing _ _ (ap pos (held_same o w log (Written t) u (o.records i)))
  nowhere (Mail i) u = nothing (contribution o w log (Mail i) u) (contribution o w log (Mail i) u) refl
  nowhere (Move i) u = nothing _ _ (ap (λ (b : Bool). pos (cond (is_noted o log i u && not b) 1 0)) (has_other log.settled (Written t) (Settled i u) refl))
  nowhere (State i) u = nothing (contribution o w log (State i) u) (contribution o w log (State i) u) refl
  nowhere (Host i) u = nothing _ _ (ap pos (waiting_same o w log (Written t) i u))
  nowhere OutRoute u = nothing _ _ (ap pos (held_same o w log (Written t) u o.rows))
  nowhere OutMail u = nothing (contribution o w log OutMail u) (contribution o w log OutMail u) refl

  pub written : AreChanges o w log (with_settled log (Written t)) []
  written = record { sums = nowhere; once = none_once; none_by_zero = none_zero }
