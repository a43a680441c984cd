-- The step of the small job.
use Rattle.std.proofs.Common.{◌≡◌, ◌≢◌, ℕ, zero, suc, ◌<◌, ◌==◌, true, false, List, [], ◌∷◌, slice_index_or, refl, sym, subst, ⊎_elim, arith}
use Rattle.std.specs.List.{AllPairs, Contains}
use Rattle.std.proofs.lemmas.Bool.{false≢true, cases_Bool, eqb-true}
use Rattle.mp_names.specs.declared.names.Name.{Name}
use Rattle.mp_names.specs.declared.names.Name.TheVariants.{Rec, Group}
use Rattle.mp_names.specs.Keeping.{IsWaiting}
use Rattle.mp_names.specs.Logs.{Log, LogIsLegal, empty_log, is_pending, with_applied}
use Rattle.mp_names.specs.Names.{ascending}
use Rattle.mp_names.specs.Outlines.{IsOwedTo, groups_of, owner_before}
use Rattle.mp_names.specs.Samples.{tag, two_moves}
use Rattle.mp_names.proofs.Keeps.{empty_is_legal, took_keeps}
use Rattle.mp_names.proofs.Samples.{two_moves_sound}
use Rattle.mp_rows_laws.specs.Samples.{AuctionIsApplied, auction_taken}
use Rattle.mp_rows_laws.proofs.Applied.{applied}

auction : Name
auction = Rec 0 0 1 (tag 0 0)

closed : Log
closed = with_applied auction_taken (Group 0 0 1)

owed : IsOwedTo two_moves 0 auction
unfolding auction owner_before
owed = ((omega arith, refl), refl)

legal : LogIsLegal two_moves 0 auction_taken
unfolding auction
legal = took_keeps two_moves 0 empty_log (empty_is_legal two_moves 0) auction refl owed

waits : IsWaiting two_moves 0 auction_taken 0 (Group 0 0 1)
unfolding groups_of ascending
waits = (refl, refl)

abbrev closing_times : List ℕ
closing_times = 100 ∷ []

one_time : AllPairs (λ u v. u ≢ v) closing_times
one_time = λ i j d l m. absurd (omega arith)

told : (u : ℕ) → Contains closing_times u → (is_pending two_moves 0 closed (Group 0 u 1) ≡ true) × (is_pending two_moves 0 auction_taken (Group 0 u 1) ≡ false)
unfolding closed
told u c = subst (λ (v : ℕ). (is_pending two_moves 0 closed (Group 0 v 1) ≡ true) × (is_pending two_moves 0 auction_taken (Group 0 v 1) ≡ false)) (first c.0 c.1 c.2) (refl, refl)
  where
    first : (k : ℕ) → k < 1 → slice_index_or closing_times k u ≡ u → 100 ≡ u
    first zero l e = e
    first (suc k) l e = absurd (omega arith)

found : (u : ℕ) → is_pending two_moves 0 closed (Group 0 u 1) ≡ true → is_pending two_moves 0 auction_taken (Group 0 u 1) ≡ false → Contains closing_times u
unfolding closed
found u h k =
    ⊎_elim
    (λ (e : (100 == u) ≡ true). (0, omega arith, eqb-true 100 u e))
    (λ (e : (100 == u) ≡ false).
    ⊎_elim
    (λ (f : (0 == u) ≡ true). absurd (at_zero (subst (λ (v : ℕ). is_pending two_moves 0 closed (Group 0 v 1) ≡ true) (sym (eqb-true 0 u f)) h)))
    (λ (f : (0 == u) ≡ false). absurd (false≢true (rw (e, f) at h)))
    (cases_Bool (0 == u)))
    (cases_Bool (100 == u))
  where
    at_zero : is_pending two_moves 0 closed (Group 0 0 1) ≡ true → ⊥
    at_zero e = false≢true e

pub auction_applied : AuctionIsApplied
unfolding closed
auction_applied = record {
  legal = legal;
  waits = waits;
  changes = applied two_moves 0 auction_taken two_moves_sound legal 0 0 1 closing_times waits one_time (λ u. (told u, (λ r. found u r.0 r.1)));
}
