-- A run makes only so many steps: each of them adds to the names in the logs or to the versions that are seen, and both are bounded.
use Rattle.std.proofs.Common.{◌≡◌, ℕ, zero, suc, ◌+◌, ◌*◌, ◌<◌, ◌≤◌, ◌⊎◌, true, cond, List, [], ◌∷◌, ◌++◌, length, refl, sym, ap, ◌∙◌, subst, inl, inr, ⊎_elim, append-nil, arith, length-append}
use Rattle.std.proofs.lemmas.Bool.{cond-true, cases_eq}
use Rattle.std.proofs.lemmas.List.Sums.{sum_by-cons}
use Rattle.mp_names.specs.declared.names.Name.{Name}
use Rattle.mp_names.specs.declared.kinds.Kind.{Kind}
use Rattle.mp_names.specs.declared.kinds.Kind.TheVariants.{Ingest, SendControl, Route, Receive, Extract, Settle, Apply, SendRow, Write, Exchange}
use Rattle.mp_names.specs.Names.{IsPrefix}
use Rattle.mp_names.specs.Outlines.{Outline, OutlineIsSound, name_count}
use Rattle.mp_names.specs.Logs.{Log, LogGrows}
use Rattle.mp_names.specs.Laws.{log_size, names_in}
use Rattle.mp_names.proofs.Counting.{bounded}
use Rattle.mp_machine.specs.Worlds.{Worker, World, logs_of, posted_logs, start_of_machine, put}
use Rattle.mp_machine.specs.Steps.{CanStep, CanExchange, names_of, logged, stepped, same_log, version_after, having_seen, exchanged}
use Rattle.mp_machine.specs.Runs.{Turn, Did, Saw, NotNow, turn_of, turn_of_machine, after_turn, step_of_machine, world_after, turns_of, is_made, made_count}
use Rattle.mp_machine.proofs.Puts.{put_here, put_other}
use Rattle.mp_machine.proofs.Turns.{did_to, saw_to, own_log}
use Rattle.mp_machine.proofs.Worlds.{WorldIsRight, names_some, version_cases, step_right, start_right, after_right}

-- sums of numbers below n

sum_to : ℕ → (ℕ → ℕ) → ℕ
sum_to zero f = 0
sum_to (suc n) f = sum_to n f + f n

sum_agree : (n : ℕ) (f g : ℕ → ℕ) → ((v : ℕ) → v < n → f v ≡ g v) → sum_to n f ≡ sum_to n g
unfolding sum_to
sum_agree zero f g h = refl
sum_agree (suc n) f g h =
    let a = sum_agree n f g (λ v l. h v (omega arith)) in
    let b = h n (omega arith) in
    omega arith

-- one number is replaced by another
sum_put : (n w x : ℕ) (f : ℕ → ℕ) → w < n → sum_to n (put w x f) + f w ≡ sum_to n f + x
unfolding sum_to
sum_put zero w x f l = absurd (omega arith)
sum_put (suc n) w x f l =
    ⊎_elim
    (λ (e : n ≡ w).
    let a = sum_agree n (put w x f) f (λ v k. put_other w v x f (λ g. absurd (lower v g k e))) in
    let b = put_here w n x f e in
    let c : f w ≡ f n = ap f (sym e) in
    omega arith)
    (λ (e : n ≡ w → ⊥).
    let a = sum_put n w x f (below e) in
    let b = put_other w n x f e in
    omega arith)
    (cases_eq n w)
  where
    lower : (v : ℕ) → v ≡ w → v < n → n ≡ w → ⊥
    lower v g k e = omega arith

    below : (n ≡ w → ⊥) → w < n
    below e = grind arith

sum_bound : (n m : ℕ) (f : ℕ → ℕ) → ((v : ℕ) → v < n → f v ≤ m) → sum_to n f ≤ n * m
unfolding sum_to
sum_bound zero m f h = omega arith
sum_bound (suc n) m f h =
    let a = sum_bound n m f (λ v l. h v (omega arith)) in
    let b = h n (omega arith) in
    times n m (sum_to n f) (f n) a b
  where
    times : (n m x y : ℕ) → x ≤ n * m → y ≤ m → x + y ≤ suc n * m
    times n m x y a b = grind arith

names_are : (n : ℕ) (logs : ℕ → Log) → names_in n logs ≡ sum_to n (λ v. log_size (logs v))
unfolding sum_to
names_are zero logs = refl
names_are (suc n) logs = let a = names_are n logs in omega arith

-- logs that grow

prefix_cases : (xs ys : List Name) → IsPrefix xs ys → (xs ≡ ys) ⊎ (length xs < length ys)
prefix_cases xs ys p = go p.0 p.1
  where
    go : (rest : List Name) → xs ++ rest ≡ ys → (xs ≡ ys) ⊎ (length xs < length ys)
    go [] e = inl (sym (append-nil xs) ∙ e)
    go (r ∷ rest) e =
        let a : length (xs ++ r ∷ rest) ≡ length xs + length (r ∷ rest) = length-append xs (r ∷ rest) in
        let b = ap length e in
        inr (omega arith)

prefix_le : (xs ys : List Name) → IsPrefix xs ys → length xs ≤ length ys
prefix_le xs ys p = ⊎_elim (λ (e : xs ≡ ys). let a = ap length e in omega arith) (λ (l : length xs < length ys). omega arith) (prefix_cases xs ys p)

-- a log that grew has more names, or is as it was
grown_cases : (old new : Log) → LogGrows old new → (old ≡ new) ⊎ (log_size old < log_size new)
grown_cases old new g =
    let i = prefix_le old.ingested new.ingested g.ingested in
    let s = prefix_le old.sent new.sent g.sent in
    let t = prefix_le old.took new.took g.took in
    let p = prefix_le old.applied new.applied g.applied in
    let q = prefix_le old.settled new.settled g.settled in
    ⊎_elim
    (λ (a : old.ingested ≡ new.ingested).
    ⊎_elim
    (λ (b : old.sent ≡ new.sent).
    ⊎_elim
    (λ (c : old.took ≡ new.took).
    ⊎_elim
    (λ (d : old.applied ≡ new.applied).
    ⊎_elim
    (λ (e : old.settled ≡ new.settled). inl (λ k. record { ingested = a k; sent = b k; took = c k; applied = d k; settled = e k }))
    (λ (e : length old.settled < length new.settled). inr (omega arith))
    (prefix_cases old.settled new.settled g.settled))
    (λ (d : length old.applied < length new.applied). inr (omega arith))
    (prefix_cases old.applied new.applied g.applied))
    (λ (c : length old.took < length new.took). inr (omega arith))
    (prefix_cases old.took new.took g.took))
    (λ (b : length old.sent < length new.sent). inr (omega arith))
    (prefix_cases old.sent new.sent g.sent))
    (λ (a : length old.ingested < length new.ingested). inr (omega arith))
    (prefix_cases old.ingested new.ingested g.ingested)

-- each step but an exchange adds its names
logged_size : (kind : Kind) (log : Log) (xs : List Name) → (kind ≡ Exchange → ⊥) → log_size (logged kind log xs) ≡ log_size log + length xs
logged_size Ingest log xs n = let e = length-append log.ingested xs in omega arith
logged_size SendControl log xs n = let e = length-append log.sent xs in omega arith
logged_size (Route j) log xs n = let e = length-append log.sent xs in omega arith
logged_size (Receive v) log xs n = let e = length-append log.took xs in omega arith
logged_size (Extract j) log xs n = let e = length-append log.sent xs in omega arith
logged_size (Settle j) log xs n = let e = length-append log.settled xs in omega arith
logged_size (Apply j) log xs n = let e = length-append log.applied xs in omega arith
logged_size SendRow log xs n = let e = length-append log.sent xs in omega arith
logged_size Write log xs n = let e = length-append log.settled xs in omega arith
logged_size Exchange log xs n = absurd (n refl)

not_exchange : (o : Outline) (depth : ℕ) (world : World) (w : ℕ) (kind : Kind) (x : Name) → CanStep o depth world w kind x → kind ≡ Exchange → ⊥
not_exchange o depth world w Exchange x can e = can.1
not_exchange o depth world w Ingest x can e = cc
not_exchange o depth world w SendControl x can e = cc
not_exchange o depth world w (Route j) x can e = cc
not_exchange o depth world w (Receive v) x can e = cc
not_exchange o depth world w (Extract j) x can e = cc
not_exchange o depth world w (Settle j) x can e = cc
not_exchange o depth world w (Apply j) x can e = cc
not_exchange o depth world w SendRow x can e = cc
not_exchange o depth world w Write x can e = cc

-- the measure

sizes : World → ℕ → ℕ
sizes world v = log_size (world.worker v).log

posted_sizes : World → ℕ → ℕ
posted_sizes world v = log_size (world.worker v).posted

versions : World → ℕ → ℕ
versions world v = (world.worker v).version

measure : Outline → World → ℕ
measure o world = sum_to o.workers (sizes world) + sum_to o.workers (versions world)

-- the board's version counts changes of posted logs, so it is at most their names
IsCounted : Outline → World → Type 0
IsCounted o world = world.version ≤ sum_to o.workers (posted_sizes world)

-- what is read of the workers, where one is replaced
read_put : (f : Worker → ℕ) (w : ℕ) (me : Worker) (workers : ℕ → Worker) (v : ℕ) → f (put w me workers v) ≡ put w (f me) (λ v. f (workers v)) v
read_put f w me workers v =
    ⊎_elim
    (λ (e : v ≡ w). ap f (put_here w v me workers e) ∙ sym (put_here w v (f me) (λ v. f (workers v)) e))
    (λ (e : v ≡ w → ⊥). ap f (put_other w v me workers e) ∙ sym (put_other w v (f me) (λ v. f (workers v)) e))
    (cases_eq v w)

sum_read : (f : Worker → ℕ) (n w : ℕ) (me : Worker) (workers : ℕ → Worker) → w < n → sum_to n (λ v. f (put w me workers v)) + f (workers w) ≡ sum_to n (λ v. f (workers v)) + f me
sum_read f n w me workers l = ap (λ (s : ℕ). s + f (workers w)) (sum_agree n (λ v. f (put w me workers v)) (put w (f me) (λ v. f (workers v))) (λ v k. read_put f w me workers v)) ∙ sum_put n w (f me) (λ v. f (workers v)) l

module _ (o : Outline) (ok : OutlineIsSound o) (depth : ℕ) (world : World) (right : WorldIsRight o depth world) (counted : IsCounted o world) (w : ℕ) where
  -- a step with names

  did_more : (kind : Kind) (x : Name) → CanStep o depth world w kind x → (measure o world + 1 ≤ measure o (stepped o world w kind x)) × IsCounted o (stepped o world w kind x)
  unfolding measure sizes versions posted_sizes IsCounted
  did_more kind x can =
      let l = can.0.0 in
      let xs = names_of o world w kind x in
      let me : Worker = record (world.worker w) { log = logged kind (world.worker w).log xs } in
      let size = logged_size kind (world.worker w).log xs (not_exchange o depth world w kind x can) in
      let some = names_some o ok depth world w kind x can in
      let a = sum_read (λ p. log_size p.log) o.workers w me world.worker l in
      let b = sum_read (λ p. p.version) o.workers w me world.worker l in
      let c = sum_read (λ p. log_size p.posted) o.workers w me world.worker l in
      (omega arith, omega arith)

  -- an exchange

  module _ (l : w < o.workers) (can : ((world.worker w).log ≡ (world.worker w).posted → ⊥) ⊎ ((world.worker w).version ≡ world.version → ⊥)) where
    newer : (world.worker w).version < version_after world w
    newer =
        let b = right.behind w l in
        ⊎_elim
        (λ (e : (version_after world w ≡ world.version) × ((world.worker w).log ≡ (world.worker w).posted)).
        let f = e.0 in
        ⊎_elim (λ (n : (world.worker w).log ≡ (world.worker w).posted → ⊥). absurd (n e.1)) (λ (n : (world.worker w).version ≡ world.version → ⊥). less (world.worker w).version world.version (version_after world w) b n f) can)
        (λ (e : version_after world w ≡ suc world.version). omega arith)
        (version_cases o ok depth world right w l)
      where
        less : (a b c : ℕ) → a ≤ b → (a ≡ b → ⊥) → c ≡ b → a < c
        less a b c l n e = grind arith

    saw_more : (measure o world + 1 ≤ measure o (exchanged o world w)) × IsCounted o (exchanged o world w)
    unfolding measure sizes versions posted_sizes IsCounted
    saw_more =
        let me : Worker = having_seen o world w in
        let a = sum_read (λ p. log_size p.log) o.workers w me world.worker l in
        let b = sum_read (λ p. p.version) o.workers w me world.worker l in
        let c = sum_read (λ p. log_size p.posted) o.workers w me world.worker l in
        let n = newer in (
          omega arith,
          ⊎_elim
              (λ (e : (version_after world w ≡ world.version) × ((world.worker w).log ≡ (world.worker w).posted)). let f = e.0 in let g = ap log_size e.1 in omega arith)
              (λ (e : version_after world w ≡ suc world.version).
              ⊎_elim
              (λ (s : (world.worker w).posted ≡ (world.worker w).log). absurd (unchanged s e))
              (λ (s : log_size (world.worker w).posted < log_size (world.worker w).log). omega arith)
              (grown_cases (world.worker w).posted (world.worker w).log (right.grows w l)))
              (version_cases o ok depth world right w l),
        )
      where
        unchanged : (world.worker w).posted ≡ (world.worker w).log → version_after world w ≡ suc world.version → ⊥
        unchanged s e =
            let same : same_log (world.worker w).log (world.worker w).posted ≡ true = subst (λ (log : Log). same_log (world.worker w).log log ≡ true) (sym s) (own_log (world.worker w).log) in
            let f = cond-true (same_log (world.worker w).log (world.worker w).posted) world.version (suc world.version) same in
            omega arith

one : Turn → ℕ
one t = cond (is_made t) 1 0

module _ (o : Outline) (ok : OutlineIsSound o) (depth : ℕ) where
  -- one step
  step_counts : (world : World) (w : ℕ) (kind : Kind) → WorldIsRight o depth world → IsCounted o world → (measure o world + one (turn_of_machine o depth world w kind) ≤ measure o (step_of_machine o depth world w kind)) × IsCounted o (step_of_machine o depth world w kind)
  unfolding turn_of_machine step_of_machine one
  step_counts world w kind right counted = go (turn_of o depth world w kind) refl
    where
      place : (kind : Kind) → CanExchange o world w kind → (w < o.workers) × (((world.worker w).log ≡ (world.worker w).posted → ⊥) ⊎ ((world.worker w).version ≡ world.version → ⊥))
      place Exchange h = h
      place _ h = absurd h

      go : (t : Turn) → turn_of o depth world w kind ≡ t → (measure o world + cond (is_made t) 1 0 ≤ measure o (after_turn o world w kind t)) × IsCounted o (after_turn o world w kind t)
      go (Did x n) e = did_more o ok depth world right counted w kind x (did_to o depth world w ok kind x n e)
      go (Saw v) e = let p = place kind (saw_to o depth world w kind v e).0 in saw_more o ok depth world right counted w p.0 p.1
      go NotNow e = (omega arith, counted)

  -- a list of steps
  steps_count : (steps : List (ℕ × Kind)) (world : World) → WorldIsRight o depth world → IsCounted o world → (measure o world + made_count (turns_of o depth world steps) ≤ measure o (world_after o depth world steps)) × IsCounted o (world_after o depth world steps)
  unfolding one
  steps_count [] world right counted = (omega arith, counted)
  steps_count (s ∷ steps) world right counted =
      let next = step_of_machine o depth world s.0 s.1 in
      let a = step_counts world s.0 s.1 right counted in
      let b = steps_count steps next (step_right o ok depth world s.0 s.1 right).0 a.1 in
      let c : made_count (turns_of o depth world (s ∷ steps)) ≡ one (turn_of_machine o depth world s.0 s.1) + made_count (turns_of o depth next steps) = sum_by-cons (λ t. cond (is_made t) 1 0) (turn_of_machine o depth world s.0 s.1) (turns_of o depth next steps) in
      let d = a.0 in
      let e = b.0 in
      (omega arith, b.1)

  measure_bound : (world : World) → WorldIsRight o depth world → IsCounted o world → measure o world ≤ (o.workers + 1) * name_count o
  unfolding measure sizes versions posted_sizes IsCounted
  measure_bound world right counted =
      let a = bounded o ok (logs_of world) right.logs in
      let b = bounded o ok (posted_logs world) right.posted in
      let c = names_are o.workers (logs_of world) in
      let d = names_are o.workers (posted_logs world) in
      let e = sum_bound o.workers (name_count o) (λ v. (world.worker v).version) (λ v l. let f = right.behind v l in omega arith) in
      total o.workers (name_count o) (sum_to o.workers (λ v. log_size (world.worker v).log)) (sum_to o.workers (λ v. (world.worker v).version)) (omega arith) e
    where
      total : (n m x y : ℕ) → x ≤ m → y ≤ n * m → x + y ≤ (n + 1) * m
      total n m x y a b = grind arith

  pub steps_bounded : (steps : List (ℕ × Kind)) → made_count (turns_of o depth (start_of_machine o) steps) ≤ (o.workers + 1) * name_count o
  unfolding IsCounted
  steps_bounded steps =
      let a = steps_count steps (start_of_machine o) (start_right o ok depth) (omega arith) in
      let b = measure_bound (world_after o depth (start_of_machine o) steps) (after_right o ok depth steps (start_of_machine o) (start_right o ok depth)).0 a.1 in
      let c = a.0 in
      omega arith
