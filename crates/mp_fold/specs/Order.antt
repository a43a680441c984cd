-- Records in order, and the first of their times.
use Rattle.std.specs.Prelude.{◌≡◌, ℕ, ◌≤◌, ◌⊎◌, List, [], ◌∷◌, All, IsPermutation}
use Rattle.std.specs.List.Sorted.{IsNonDecreasingBy}
use Rattle.mp_model.specs.declared.record.Rec.{Rec}
use Rattle.mp_model.specs.Folds.{at_time, of_key}

-- the first element has this number
abbrev pub BeginsAt : {X : Type 0} → (X → ℕ) → List X → ℕ → Type 0
BeginsAt f [] n = ⊥
BeginsAt f (x ∷ xs) n = f x ≡ n

-- the same records by key, those of a key by time, and those of one key and time in the order that they had
pub record AreInOrder (recs ordered : List Rec) : Type 0 where
  pub same : IsPermutation recs ordered
  pub kept : (k t : ℕ) → at_time t (of_key k ordered) ≡ at_time t (of_key k recs)
  pub by_key : IsNonDecreasingBy (λ r. r.key) ordered
  pub by_time : (k : ℕ) → IsNonDecreasingBy (λ r. r.time) (of_key k ordered)

-- the first time of records and of posted times
pub record IsFirstTime (recs : List Rec) (posted : List ℕ) (t : ℕ) : Type 0 where
  pub of_records : All (λ r. t ≤ r.time) recs
  pub of_posts : All (λ u. t ≤ u) posted
  pub first : BeginsAt (λ r. r.time) recs t ⊎ BeginsAt (λ u. u) posted t
