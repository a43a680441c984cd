-- An event that is ingested: one less to come, one more record at the router of stage 0.
use Rattle.std.proofs.Common.{◌≡◌, ℕ, zero, suc, ◌+◌, ◌&&◌, ◌==◌, Bool, true, false, not, cond, List, pos, ◌-ℤ◌, refl, sym, ap}
use Rattle.std.proofs.lemmas.Bool.{and_from, and_left, both_ways, false_from_ne_true, not_from_false, not_from_true}
use Rattle.mp_names.specs.declared.locations.Loc.{Loc}
use Rattle.mp_names.specs.declared.locations.Loc.TheVariants.{Ctl, CtlMail, Source, Route, Mail, Move, State, Host, OutRoute, OutMail}
use Rattle.mp_names.specs.declared.names.Name.{Name}
use Rattle.mp_names.specs.declared.names.Name.TheVariants.{Rec}
use Rattle.mp_names.specs.declared.names.Tag.{Tag}
use Rattle.mp_names.specs.Frontiers.{contribution, is_held, number_at}
use Rattle.mp_names.specs.Logs.{Log, LogIsLegal, is_given, is_pending, with_ingested}
use Rattle.mp_names.specs.Names.{same_name, has, In}
use Rattle.mp_names.specs.Outlines.{Outline, OutlineIsSound, ctrl_names, groups_of, sender, share}
use Rattle.mp_names.proofs.Lists.{Distinct_filter, In_filter, same_name-refl}
use Rattle.mp_rows.specs.Entries.{AreChanges, sum_at}
use Rattle.mp_rows_laws.specs.Changes.{ingested_at, one_less, one_more}
use Rattle.mp_rows_laws.proofs.Entries.{less_first, more_second, nothing, two_not_zero, two_once}
use Rattle.mp_rows_laws.proofs.Numbers.{number_kept, number_placed, number_same}
use Rattle.mp_rows_laws.proofs.Parts.{pending_kept}
use Rattle.mp_rows_laws.proofs.Places.{no_control, no_row, record_place}
use Rattle.mp_rows_laws.proofs.Pushes.{has_new, has_other}

module _
    (o : Outline) (w : ℕ) (log : Log) (ok : OutlineIsSound o) (good : LogIsLegal o w log) (t k : ℕ) (g : Tag)
    (mine : In (Rec 0 t k g) (share o w)) (fresh : has log.ingested (Rec 0 t k g) ≡ false) where
  abbrev x : Name
  x = Rec 0 t k g

  abbrev new : Log
  new = with_ingested log x

  not_sent : has log.sent x ≡ false
  not_sent = false_from_ne_true (has log.sent x) (λ i. both_ways (has log.ingested x) fresh (good.sent_given x i))

  given_other : (y : Name) → same_name x y ≡ false → is_given o w new y ≡ is_given o w log y
  given_other (Rec zero s l h) e = has_other log.ingested x (Rec 0 s l h) e
  given_other (Rec (suc j) s l h) e = refl
  given_other _ e = refl

  held_other : (y : Name) → same_name x y ≡ false → is_held o w new y ≡ is_held o w log y
  held_other y e = ap (λ (b : Bool). b && not (has log.sent y)) (given_other y e)

  kept : (u : ℕ) (xs : List Name) → has xs x ≡ false → number_at o (is_held o w new) u xs ≡ number_at o (is_held o w log) u xs
  kept u xs e = number_kept o u (is_held o w new) (is_held o w log) x xs e held_other

  held : (i u : ℕ) → number_at o (is_held o w new) u (o.records i) ≡ number_at o (is_held o w log) u (o.records i) + cond (0 == i && t == u) 1 0
  held i u =
      number_placed o u (is_held o w new) (is_held o w log) x (0 == i) (o.records i)
      (record_place o ok i 0 t k g (In_filter (λ y. sender o y == w) x (o.records 0) mine).0)
      (ok.records_once i)
      (and_from (has new.ingested x) (not (has log.sent x)) (has_new log.ingested x x (same_name-refl x)) (not_from_false (has log.sent x) not_sent))
      (and_left (has log.ingested x) (not (has log.sent x)) fresh)
      (λ y i e. held_other y e)

  to_come : (u : ℕ) → number_at o (λ y. not (has log.ingested y)) u (share o w) ≡ number_at o (λ y. not (has new.ingested y)) u (share o w) + cond (t == u) 1 0
  to_come u =
      number_placed o u (λ y. not (has log.ingested y)) (λ y. not (has new.ingested y)) x true (share o w) mine
      (Distinct_filter (λ y. sender o y == w) (o.records 0) (ok.records_once 0))
      (not_from_false (has log.ingested x) fresh)
      (not_from_true (has new.ingested x) (has_new log.ingested x x (same_name-refl x)))
      (λ y i e. ap not (sym_has y e))
    where
      sym_has : (y : Name) → same_name x y ≡ false → has log.ingested y ≡ has new.ingested y
      sym_has y e = sym (has_other log.ingested x y e)

  each : (loc : Loc) (u : ℕ) → sum_at (ingested_at t) loc u ≡ contribution o w new loc u -ℤ contribution o w log loc u
  each Ctl u = nothing _ _ (ap pos (kept u (ctrl_names o) (no_control o ok x refl)))
  each CtlMail u = nothing (contribution o w log CtlMail u) (contribution o w log CtlMail u) refl
  each Source u = less_first (t == u) _ _ (to_come u)
  each (Route i) u = more_second (0 == i && t == u) _ _ (held i u)
  each (Mail i) u = nothing (contribution o w log (Mail i) u) (contribution o w log (Mail i) u) refl
  each (Move i) u = nothing (contribution o w log (Move i) u) (contribution o w log (Move i) u) refl
  each (State i) u = nothing (contribution o w log (State i) u) (contribution o w log (State i) u) refl
  each (Host i) u = nothing _ _ (ap pos (number_same o u (is_pending o w new) (is_pending o w log) (groups_of o i) (λ y h. pending_kept o log new w refl refl refl y)))
  each OutRoute u = nothing _ _ (ap pos (kept u o.rows (no_row o ok x refl)))
  each OutMail u = nothing (contribution o w log OutMail u) (contribution o w log OutMail u) refl

  pub ingested : AreChanges o w log (with_ingested log (Rec 0 t k g)) (ingested_at t)
  ingested = record {
    sums = each;
    once = two_once (one_less Source t) (one_more (Route 0) t) (λ e. cc);
    none_by_zero = two_not_zero (one_less Source t) (one_more (Route 0) t) (λ e. cc) (λ e. cc);
  }
