-- Which states have a wake.
use Rattle.std.proofs.Common.{◌≡◌, ◌&&◌, ◌||◌, ◌==◌, ℕ, Bool, true, false, List, [], ◌∷◌, All, drop, refl, sym, take, ◌∙◌}
use Rattle.std.proofs.lemmas.Bool.{eq-eqb, or_right}
use Rattle.std.proofs.lemmas.List.Elements.{All-drop, All-head, All-tail, All-take, All-weaker}
use Rattle.std.specs.List.{list_any}
use Rattle.mp_bins.specs.Bins.{bin_of_key}
use Rattle.mp_model.specs.Facts.{JobFacts, QueryFacts}
use Rattle.mp_host_laws.specs.declared.held.Held.{Held}
use Rattle.mp_host_laws.specs.Hosted.{Hosted, StandsInOrder, StateStands, has_wake_in, wakes_in}
use Rattle.mp_host_laws.proofs.Waiting.{wake_in}
use Rattle.mp_host_states.specs.States.{States, has_own_wake_beside}

-- where only states of one bin have the wake, only those need be asked
module _ {Cell : Type 0} (t k b : ℕ) where
  abbrev pub IsOwn : Held Cell → Type 0
  IsOwn s = has_wake_in t k s ≡ true → s.bin ≡ b

  only_its_bin : (s : Held Cell) → IsOwn s → (s.bin == b && has_wake_in t k s) ≡ has_wake_in t k s
  only_its_bin s own = both (s.bin == b) (has_wake_in t k s) (λ e. eq-eqb s.bin b (own e))
    where
      both : (p r : Bool) → (r ≡ true → p ≡ true) → (p && r) ≡ r
      both true r h = refl
      both false true h = h refl
      both false false h = refl

  pub only_its_bins : (ss : List (Held Cell)) → All IsOwn ss → list_any (λ s. s.bin == b && has_wake_in t k s) ss ≡ list_any (has_wake_in t k) ss
  only_its_bins [] h = refl
  only_its_bins (s ∷ ss) h = rw (only_its_bin s (All-head IsOwn s ss h), only_its_bins ss (All-tail IsOwn s ss h)) refl

-- the states of a host are such: each has wakes of keys of its bin
module _ {Cell : Type 0} (q : QueryFacts Cell) (job : JobFacts) (h : Hosted Cell) (denotes : StandsInOrder q job h) (t k : ℕ) where
  pub wakes_are_own : All (IsOwn t k (bin_of_key k job.shape.bins)) h.held
  wakes_are_own =
      All-weaker (StateStands q job h.stage) (IsOwn t k (bin_of_key k job.shape.bins))
      (λ s own e. sym (own.own.wakes t k (wake_in (wakes_in s) t k e)))
      h.held denotes.states

-- so those beside some places are asked for by their bin
pub own_beside : {Cell : Type 0} (states : States Cell) (bins t k : ℕ) → states.bins ≡ bins → All (IsOwn t k (bin_of_key k bins)) states.held → (from to : ℕ)
    → has_own_wake_beside states from to t k ≡ (list_any (has_wake_in t k) (take from states.held) || list_any (has_wake_in t k) (drop to states.held))
own_beside states bins t k same own from to =
    let here = only_its_bins t k (bin_of_key k bins) (take from states.held) (All-take (IsOwn t k (bin_of_key k bins)) from states.held own) in
    let there = only_its_bins t k (bin_of_key k bins) (drop to states.held) (All-drop (IsOwn t k (bin_of_key k bins)) to states.held own) in
    rw (same, here, there) refl

-- where the second is asked for first
pub by_second_alone : (r a b : Bool) → r ≡ b → r ≡ true → r ≡ (a || b)
by_second_alone r a b e f = f ∙ sym (or_right a b (sym e ∙ f))

pub by_first_then : (r s a b : Bool) → r ≡ b → r ≡ false → s ≡ a → s ≡ (a || b)
by_first_then r s true b e f g = g
by_first_then r s false b e f g = g ∙ (sym f ∙ e)
