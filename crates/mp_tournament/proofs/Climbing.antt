-- An entry that is made the earlier of the two below it upsets none but the one above it.
use Rattle.std.proofs.Common.{◌≡◌, ◌≢◌, ℕ, ◌+◌, ◌*◌, ◌/◌, ◌<◌, Option, None, length, set, sym, ◌∙◌, ap, subst, ⊎_elim, arith, get_or-set_same, get_or-set_other, length-set}
use Rattle.std.proofs.lemmas.Bool.{cases_eq}
use Rattle.mp_tournament.specs.Firsts.{IsTournamentBut, IsWonAt, earlier_of, entry_at}
use Rattle.mp_tournament.proofs.Among.{Wakes}

-- a write to another entry than these three leaves them as they are
won_still : (tree : Wakes) (one j : ℕ) (w : Option (ℕ × ℕ)) → j ≢ one → 2 * j ≢ one → 2 * j + 1 ≢ one → IsWonAt tree j → IsWonAt (set tree one w) j
won_still tree one j w a b c won =
    get_or-set_other tree one j w None a ∙ won ∙ ap (λ v. earlier_of v (entry_at tree (2 * j + 1))) (sym (get_or-set_other tree one (2 * j) w None b)) ∙ ap (earlier_of (entry_at (set tree one w) (2 * j))) (sym (get_or-set_other tree one (2 * j + 1) w None c))

-- an entry that is made the earlier of the two below it is so
won_now : (tree : Wakes) (one : ℕ) (w : Option (ℕ × ℕ)) → 0 < one → one < length tree → w ≡ earlier_of (entry_at tree (2 * one)) (entry_at tree (2 * one + 1)) → IsWonAt (set tree one w) one
won_now tree one w some inside is =
    get_or-set_same tree one w None inside ∙ is ∙ ap (λ v. earlier_of v (entry_at tree (2 * one + 1))) (sym (get_or-set_other tree one (2 * one) w None (λ e. omega arith))) ∙ ap (earlier_of (entry_at (set tree one w) (2 * one))) (sym (get_or-set_other tree one (2 * one + 1) w None (λ e. omega arith)))

-- it upsets none but the one above it
pub climbs : (count one : ℕ) (tree : Wakes) (w : Option (ℕ × ℕ)) → 0 < one → w ≡ earlier_of (entry_at tree (2 * one)) (entry_at tree (2 * one + 1)) → IsTournamentBut one count tree → IsTournamentBut (one / 2) count (set tree one w)
climbs count one tree w some is order = record {
  inside = let a : one < count = order.inside in omega arith;
  few = order.few;
  size = length-set tree one w ∙ order.size;
  won = λ j a b other. ⊎_elim
      (λ (e : j ≡ one). subst (IsWonAt (set tree one w)) (sym e) (won_now tree one w some (omega (arith, order.inside, order.size)) is))
      (λ (e : j ≢ one). won_still tree one j w e (λ d. other (omega arith)) (λ d. other (omega arith)) (order.won j a b e))
      (cases_eq j one);
}
