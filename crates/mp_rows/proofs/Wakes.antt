-- Lists of the wakes that the first stage begins with, by the bins of their keys.
use Rattle.std.proofs.Common.{◌≡◌, ◌≢◌, ◌⊎◌, ℕ, ◌+◌, ◌<◌, ◌≤◌, List, [], ◌++◌, map, pos, Contains, append-nil, append_assoc, ap, sym, ◌∙◌, subst, ⊎_elim, arith}
use Rattle.std.proofs.lemmas.List.{map-append}
use Rattle.std.proofs.lemmas.List.Elements.{Contains-append_cases, Contains-append_left, Contains-append_right}
use Rattle.mp_names.specs.declared.locations.Loc.TheVariants.{Host}
use Rattle.mp_names.specs.declared.pointstamps.Change.{Change}
use Rattle.mp_bins.specs.Bins.{bin_of_key}
use Rattle.mp_model.specs.Facts.{JobFacts, QueryFacts}
use Rattle.mp_model.specs.Tables.{table_of}
use Rattle.mp_job.specs.Openings.{AreOpeningWakes}
use Rattle.mp_job.specs.Runs.{IsRunOf}
use Rattle.mp_job.proofs.Members.{nothing_in_nil}
use Rattle.mp_outline.proofs.Pairs.{AllPairs-Pairs, Pairs-AllPairs, Pairs-append}
use Rattle.mp_rows.specs.Entries.{change_at}
use Rattle.mp_rows.specs.Opening.{AreWakesOf, IsFirstOwner, wake_entries}

-- of two wakes in order each is another
apart : (v w : ℕ × ℕ) → (v.0 < w.0) ⊎ ((v.0 ≡ w.0) × (v.1 < w.1)) → v ≡ w → ⊥
apart v w h e =
    let times : v.0 ≡ w.0 = ap (λ (x : ℕ × ℕ). x.0) e in
    let keys : v.1 ≡ w.1 = ap (λ (x : ℕ × ℕ). x.1) e in
    ⊎_elim (λ (l : v.0 < w.0). omega arith) (λ (l : (v.0 ≡ w.0) × (v.1 < w.1)). let less : v.1 < w.1 = l.1 in omega arith) h

below_or_next : (b n : ℕ) → b < n + 1 → (b < n) ⊎ (b ≡ n)
below_or_next b n l = grind arith

module _ {Cell : Type 0} (q : QueryFacts Cell) (job : JobFacts) (w : ℕ) where
  -- the bin that a key is in
  abbrev bin : ℕ → ℕ
  bin k = bin_of_key k job.shape.bins

  -- the wakes of a bin, if the worker is its first owner
  abbrev pub OfBin : ℕ → List (ℕ × ℕ) → Type 0
  OfBin n wakes = AreWakesOf q job.shape.bins (λ b. (b ≡ n) × IsFirstOwner job w b) wakes

  -- those of all such bins below a number
  abbrev pub Below : ℕ → List (ℕ × ℕ) → Type 0
  Below n wakes = AreWakesOf q job.shape.bins (λ b. (b < n) × IsFirstOwner job w b) wakes

  pub own_bin : (n : ℕ) (wakes : List (ℕ × ℕ)) → IsFirstOwner job w n → AreOpeningWakes q job.shape.bins 0 n wakes → OfBin n wakes
  own_bin n wakes owns of = record {
    are = λ u k. (
      (λ i. let a = (of.are u k).0 i in (a.0, (a.1, subst (IsFirstOwner job w) (sym a.1) owns))),
      (λ h. (of.are u k).1 (h.0, h.1.0)),
    );
    once = λ i j d l m. apart _ _ (of.ascend i j d l m);
  }

  pub none_below : Below 0 []
  none_below = record {
    are = λ u k. (
      (λ i. absurd (nothing_in_nil (u, k) i)),
      (λ h. let l : bin k < 0 = h.1.0 in absurd (omega arith)),
    );
    once = λ i j d l m. absurd (omega arith);
  }

  -- those of one bin more
  module _ (n : ℕ) (ws vs : List (ℕ × ℕ)) (h : Below n ws) (of : OfBin n vs) where
    stands : (u k : ℕ) → Contains (ws ++ vs) (u, k) → Contains (q.waking 0) (u, k) × ((bin k < n + 1) × IsFirstOwner job w (bin k))
    stands u k i =
        ⊎_elim
        (λ (m : Contains ws (u, k)). let a = (h.are u k).0 m in let l : bin k < n = a.1.0 in (a.0, (omega arith, a.1.1)))
        (λ (m : Contains vs (u, k)). let a = (of.are u k).0 m in let e : bin k ≡ n = a.1.0 in (a.0, (omega arith, a.1.1)))
        (Contains-append_cases ws vs (u, k) i)

    stood : (u k : ℕ) → Contains (q.waking 0) (u, k) → bin k < n + 1 → IsFirstOwner job w (bin k) → Contains (ws ++ vs) (u, k)
    stood u k i l owns =
        ⊎_elim
        (λ (m : bin k < n). Contains-append_left ws vs (u, k) ((h.are u k).1 (i, (m, owns))))
        (λ (e : bin k ≡ n). Contains-append_right ws vs (u, k) ((of.are u k).1 (i, (e, owns))))
        (below_or_next (bin k) n l)

    other_wake : (x y : ℕ × ℕ) → Contains ws x → Contains vs y → x ≢ y
    other_wake x y i j e =
        let l : bin x.1 < n = ((h.are x.0 x.1).0 i).1.0 in
        let m : bin y.1 ≡ n = ((of.are y.0 y.1).0 j).1.0 in
        let same : bin x.1 ≡ bin y.1 = ap (λ (z : ℕ × ℕ). bin z.1) e in
        omega arith

    pub one_bin_more : Below (n + 1) (ws ++ vs)
    one_bin_more = record {
      are = λ u k. ((λ i. stands u k i), (λ a. stood u k a.0 a.1.0 a.1.1));
      once =
          AllPairs-Pairs (λ x y. x ≢ y) (ws ++ vs)
          (Pairs-append (λ x y. x ≢ y) ws vs (Pairs-AllPairs (λ x y. x ≢ y) ws h.once) (Pairs-AllPairs (λ x y. x ≢ y) vs of.once) other_wake);
    }

  -- below the number of bins are all
  pub all_bins : (bins n : ℕ) (wakes : List (ℕ × ℕ)) → bins ≡ job.shape.bins → bins ≤ n → n ≤ bins → Below n wakes → Below job.shape.bins wakes
  all_bins bins n wakes e l m h = let same : n ≡ job.shape.bins = omega (arith, e, l, m) in subst (λ (k : ℕ). Below k wakes) same h

-- no wakes have no entries
pub entries_none : (items : List Change) → items ≡ items ++ wake_entries []
entries_none items = sym (append-nil items)

-- some more wakes have theirs after those of the wakes before
pub entries_more : (start items more : List Change) (ws vs : List (ℕ × ℕ)) → items ≡ start ++ wake_entries ws → more ≡ items ++ wake_entries vs → more ≡ start ++ wake_entries (ws ++ vs)
entries_more start items more ws vs e f =
    let entry : ℕ × ℕ → Change = λ w. change_at (Host 0) w.0 (pos 1) in
    f
    ∙ ap (λ (es : List Change). es ++ map entry vs) e
    ∙ append_assoc start (map entry ws) (map entry vs)
    ∙ ap (λ (es : List Change). start ++ es) (sym (map-append entry ws vs))

-- a run of a job begins with the same wakes
pub run_wakes : {Cell : Type 0} (facts : List ℕ → QueryFacts Cell) (its run : JobFacts) → IsRunOf its run → (w : ℕ) (wakes : List (ℕ × ℕ))
    → Below (table_of facts its) its w its.shape.bins wakes → Below (table_of facts run) run w run.shape.bins wakes
run_wakes facts its run of w wakes h = subst (λ (f : JobFacts). Below (table_of facts f) f w f.shape.bins wakes) of h
