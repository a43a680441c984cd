-- A group has no more outputs and new wakes than are told before it is applied.
use Rattle.std.proofs.Common.{◌≡◌, ℕ, ◌+◌, ◌-◌, ◌^◌, ◌<◌, ◌≤◌, min, Bool, true, false, cond, not, nat_lt, ◌==◌, List, [], ◌∷◌, filter, fold, length, arith}
use Rattle.mp_names.specs.Outlines.{is_before_stop}
use Rattle.mp_model.specs.Ascending.{placed}
use Rattle.mp_model.specs.Facts.{JobFacts, QueryFacts}
use Rattle.mp_model.specs.Folds.{cell_before}
use Rattle.mp_model.specs.QueryLaws.{MostIsEnough}
use Rattle.mp_model.specs.Tables.{table_of}
use Rattle.mp_model.specs.Stages.{stage_records}
use Rattle.mp_outline.specs.Laws.{group_at}
use Rattle.mp_host_laws.specs.Hosted.{Hosted, cell_at, waits_at}
use Rattle.mp_host_laws.specs.Applying.{group_here, posts_here, woken_by}
use Rattle.mp_host_laws.specs.Laws.{IsWholeHere}

one_more : (b c : Bool) (x y : ℕ) (ys zs : List ℕ) → length zs ≤ length ys + 1 → length (cond b (x ∷ y ∷ ys) (cond c (y ∷ ys) (y ∷ zs))) ≤ length (y ∷ ys) + 1
one_more true c x y ys zs h = omega arith
one_more false true x y ys zs h = omega arith
one_more false false x y ys zs h = omega arith

placed_length : (ys : List ℕ) (x : ℕ) → length (placed ys x) ≤ length ys + 1
placed_length [] x = omega arith
placed_length (y ∷ ys) x = one_more (nat_lt x y) (x == y) x y ys (placed ys x) (placed_length ys x)

-- numbers in order, each once, are no more than they were
pub ascending_length : (xs acc : List ℕ) → length (fold placed acc xs) ≤ length acc + length xs
ascending_length [] acc = omega arith
ascending_length (x ∷ xs) acc =
    let h = ascending_length xs (placed acc x) in
    let p = placed_length acc x in
    omega arith

one_passes : {X : Type 0} (b : Bool) (x : X) (xs ys : List X) → length ys ≤ length xs → length (cond b (x ∷ ys) ys) ≤ length (x ∷ xs)
one_passes true x xs ys h = omega arith
one_passes false x xs ys h = omega arith

pub filter_length : {X : Type 0} (p : X → Bool) (xs : List X) → length (filter p xs) ≤ length xs
filter_length p [] = omega arith
filter_length p (x ∷ xs) = one_passes (p x) x xs (filter p xs) (filter_length p xs)

-- a group has no more outputs in a job than the query says
kept_length : {X : Type 0} (b : Bool) (xs : List X) (n : ℕ) → length xs ≤ n → length (cond b xs []) ≤ n
kept_length true xs n h = h
kept_length false xs n h = omega arith

pub table_is_enough : {Cell : Type 0} (facts : List ℕ → QueryFacts Cell) (job : JobFacts) → MostIsEnough (facts job.values) → MostIsEnough (table_of facts job)
table_is_enough facts job enough j cell e = kept_length (is_before_stop job.until e.time) ((facts job.values).gives j cell e) ((facts job.values).most j cell e) (enough j cell e)

module _ {Cell : Type 0} (q : QueryFacts Cell) (enough : MostIsEnough q) (job : JobFacts) (h : Hosted Cell) (t k : ℕ) (whole : IsWholeHere q job h t k) where
  woken_length : length (woken_by q h t k) ≤ length (posts_here q h t k)
  woken_length =
      let a = ascending_length (filter (λ u. not (waits_at h u k)) (posts_here q h t k)) [] in
      let b = filter_length (λ u. not (waits_at h u k)) (posts_here q h t k) in
      omega arith

  gives_length : length (q.gives h.stage (cell_before q h.stage (stage_records q job.events h.stage) k t) (group_at q job h.stage t k)) ≤ q.most h.stage (cell_at (q.fresh h.stage) job.shape.bins h t k) (group_here h t k)
  gives_length = rw (← whole.cell, ← whole.group) (enough h.stage (cell_at (q.fresh h.stage) job.shape.bins h t k) (group_here h t k))

  -- unless the number is cut
  pub most_holds : (n : ℕ) → n ≡ min (q.most h.stage (cell_at (q.fresh h.stage) job.shape.bins h t k) (group_here h t k) + length (posts_here q h t k)) (2 ^ 64 - 1) → n < 2 ^ 64 - 1
      → length (q.gives h.stage (cell_before q h.stage (stage_records q job.events h.stage) k t) (group_at q job h.stage t k)) + length (woken_by q h t k) ≤ n
  most_holds n e small = let a = gives_length in let b = woken_length in omega arith

-- a sum of which a part is cut, and then the whole
pub cut_sum : (a p top : ℕ) → min (a + min p top) top ≡ min (a + p) top
cut_sum a p top = omega arith
