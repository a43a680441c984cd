-- The wakes of a bin stand once each, and so do those whose groups don't wait.
use Rattle.std.proofs.Common.{◌≡◌, ◌≢◌, ℕ, List, [], ◌∷◌, AllPairs, not, ap, arith}
use Rattle.std.specs.Ordering.{nat_cmp, ordering_then}
use Rattle.std.specs.declared.cmp.Ordering.TheVariants.{Less as Below}
use Rattle.std.proofs.lemmas.List.Elements.{All-contains, All-from_recursion}
use Rattle.std.proofs.lemmas.List.Kept.{AllPairs-filter}
use Rattle.std.proofs.lemmas.Map.Keys.{sorted_head, sorted_tail}
use Rattle.mp_outline.proofs.Pairs.{AllPairs-Pairs, Pairs}
use Rattle.mp_postdated.specs.Wakes.{IsAscending, wake_cmp}
use Rattle.mp_msg.specs.States.{BinContent}
use Rattle.mp_host_laws.specs.Hosted.{Hosted, waits_at}
use Rattle.mp_host_laws.specs.Moving.{not_waiting}

not_below_itself : (v w : ℕ × ℕ) → wake_cmp v w ≡ Below → v ≡ w → ⊥
not_below_itself v w e same = strict v.0 w.0 v.1 w.1 e (ap (λ (u : ℕ × ℕ). u.0) same) (ap (λ (u : ℕ × ℕ). u.1) same)
  where
    strict : (a b c d : ℕ) → ordering_then (nat_cmp a b) (nat_cmp c d) ≡ Below → a ≡ b → c ≡ d → ⊥
    strict a b c d e f g = grind arith

wakes_apart : (ws : List (ℕ × ℕ)) → IsAscending ws → Pairs (λ v w. v ≢ w) ws
wakes_apart [] h = tt
wakes_apart (w ∷ ws) h =
    let below = All-from_recursion (λ (v : ℕ × ℕ). wake_cmp w v ≡ Below) ws (sorted_head wake_cmp w ws h) in
    (λ v i. not_below_itself w v (All-contains (λ (u : ℕ × ℕ). wake_cmp w u ≡ Below) ws v below i), wakes_apart ws (sorted_tail wake_cmp w ws h))

pub wakes_once : {Cell : Type 0} (h : Hosted Cell) (s : BinContent Cell) → IsAscending s.wakes → AllPairs (λ f g. f ≢ g) (not_waiting h s)
wakes_once h s rises = AllPairs-filter (λ (f g : ℕ × ℕ). f ≢ g) (λ (w : ℕ × ℕ). not (waits_at h w.0 w.1)) s.wakes (AllPairs-Pairs (λ (f g : ℕ × ℕ). f ≢ g) s.wakes (wakes_apart s.wakes rises))
