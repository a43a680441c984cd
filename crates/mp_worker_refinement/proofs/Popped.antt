-- What the mailboxes of a worker stand for once it has popped a message, or none.
use Rattle.std.proofs.Common.{◌≡◌, ◌≢◌, ◌⊎◌, ◌==◌, ◌++◌, ℕ, suc, ◌+◌, ◌<◌, Bool, false, cond, List, [], ◌∷◌, get_or, length, refl, sym, ap, ◌∙◌, subst, inr, ⊎_elim, arith, length-append}
use Rattle.std.proofs.lemmas.Bool.{both_ways, eq-eqb, eqb-true, false≢true, false_from_ne_true}
use Rattle.std.proofs.lemmas.List.{get_or-append-add, get_or_append_left}
use Rattle.mp_names.specs.declared.kinds.Kind.TheVariants.{Receive}
use Rattle.mp_names.specs.declared.names.Name.{Name}
use Rattle.mp_names.specs.Names.{has, In}
use Rattle.mp_names.specs.Outlines.{Outline, sender}
use Rattle.mp_names.specs.Logs.{Log}
use Rattle.mp_names.proofs.Lists.{In_cases, filter_In}
use Rattle.mp_mailbox.specs.Names.{Distinct}
use Rattle.mp_mailbox.specs.Standing.{AddsPopped, KeepsEdge, KeepsOthers, PopsNew, Denotes}
use Rattle.mp_machine.specs.Steps.{logged}
use Rattle.mp_worker_refinement.specs.Ends.{PostMatchesLog, FollowsLog, Standing, popped_by, pushed_by, took_from}
use Rattle.mp_worker_refinement.proofs.Lists.{at_edge, filter_more, filter_same, same_edge}

-- the place of a name that stands in a list
name_at : (x : Name) (xs : List Name) → In x xs → (i : ℕ) × (i < length xs) × ((d : Name) → get_or xs i d ≡ x)
name_at x [] i = absurd (false≢true i)
name_at x (y ∷ ys) i =
    ⊎_elim
    (λ (e : y ≡ x). (0, omega arith, (λ d. e)))
    (λ (m : In x ys). let p = name_at x ys m in (suc p.0, omega arith, p.2))
    (In_cases x y ys i)

-- names that can be added where none stands twice weren't there
not_there : (xs ys : List Name) (x : Name) → Distinct (xs ++ ys) → In x ys → has xs x ≡ false
not_there xs ys x once k =
    false_from_ne_true (has xs x)
    (λ i.
    let p = name_at x xs i in
    let q = name_at x ys k in
    let e : length (xs ++ ys) ≡ length xs + length ys = length-append xs ys in
    once p.0 (length xs + q.0) x (omega arith) (omega arith) (get_or_append_left xs ys x p.0 p.1 ∙ p.2 x ∙ sym (get_or-append-add xs ys q.0 x ∙ q.2 x)))

module _ (o : Outline) (w : ℕ) (log : Log) where
  -- what was popped at this worker is what it took
  popped_here : (a : ℕ) (popped : List Name) → popped_by o w log a w popped ≡ took_from o log a
  popped_here a popped = ap (λ (t : Bool). cond t (took_from o log a) popped) (eq-eqb w w refl)

  -- what is popped at another isn't told by the log
  popped_elsewhere : (a b : ℕ) (popped : List Name) → b ≢ w → popped_by o w log a b popped ≡ popped
  popped_elsewhere a b popped apart = ap (λ (t : Bool). cond t (took_from o log a) popped) (false_from_ne_true (b == w) (λ e. apart (eqb-true b w e)))

  -- where each edge stands for what it stood for, the log is as it was
  pub follows_nothing : (old new : Standing) (from : ℕ) → KeepsEdge old new from w → KeepsOthers old new from w → FollowsLog old new o w log log
  follows_nothing old new from keeps others a b pushed popped in_a in_b stood =
      ⊎_elim
      (λ (s : (a ≡ from) × (b ≡ w)). at_edge (KeepsEdge old new) s keeps _ _ stood)
      (λ (other : (a ≢ from) ⊎ (b ≢ w)). others a b other _ _ stood)
      (same_edge a b from w)

  -- the post stands for something on an edge to this worker
  pub stands_here : (denotes : Standing) (from : ℕ) → PostMatchesLog denotes o w log → from < o.workers → w < o.workers → Denotes denotes from w
  stands_here denotes from ends in_from in_w = let at = ends from w in_from in_w (inr refl) in (pushed_by o w log from w at.0, popped_by o w log from w at.1, at.2)

  module _ (from : ℕ) (xs : List Name) (sends : (x : Name) → In x xs → sender o x ≡ from) where
    abbrev after : Log
    after = logged (Receive from) log xs

    -- names that weren't popped before weren't taken before
    pub not_taken : (denotes : Standing) → PostMatchesLog denotes o w log → PopsNew denotes from w xs → from < o.workers → w < o.workers → (x : Name) → In x xs → has log.took x ≡ false
    not_taken denotes ends new in_from in_w x k =
        let at = ends from w in_from in_w (inr refl) in
        let once = new (pushed_by o w log from w at.0) (popped_by o w log from w at.1) at.2 in
        let away = not_there (took_from o log from) xs x (subst (λ (l : List Name). Distinct (l ++ xs)) (popped_here from at.1) once) k in
        false_from_ne_true (has log.took x) (λ i. both_ways (has (took_from o log from) x) away (filter_In (λ y. sender o y == from) x log.took i (eq-eqb (sender o x) from (sends x k))))

    -- once they are taken, so much more is popped from their sender
    took_more : took_from o after from ≡ took_from o log from ++ xs
    took_more = filter_more (sender o) from log.took xs sends

    -- and nothing from another
    took_same : (a : ℕ) → a ≢ from → took_from o after a ≡ took_from o log a
    took_same a apart = filter_same (sender o) a log.took xs (λ x i e. apart (sym e ∙ sends x i))

    popped_same : (a b : ℕ) (popped : List Name) → (a ≢ from) ⊎ (b ≢ w) → popped_by o w after a b popped ≡ popped_by o w log a b popped
    popped_same a b popped other =
        ⊎_elim
        (λ (n : a ≢ from). ap (λ (l : List Name). cond (b == w) l popped) (took_same a n))
        (λ (n : b ≢ w). ap (λ (t : Bool). cond t (took_from o after a) popped) (away n) ∙ sym (ap (λ (t : Bool). cond t (took_from o log a) popped) (away n)))
        other
      where
        away : b ≢ w → (b == w) ≡ false
        away n = false_from_ne_true (b == w) (λ e. n (eqb-true b w e))

    popped_more : (popped : List Name) → popped_by o w after from w popped ≡ popped_by o w log from w popped ++ xs
    popped_more popped =
        ap (λ (t : Bool). cond t (took_from o after from) popped) (eq-eqb w w refl)
        ∙ took_more
        ∙ ap (λ (l : List Name). l ++ xs) (sym (popped_here from popped))

    -- what the post stood for on an edge it stands for, with the names taken
    abbrev FollowsOn : Standing → Standing → List Name → List Name → ℕ → ℕ → Type 0
    FollowsOn old new pushed popped a b =
        old a b (pushed_by o w log a b pushed) (popped_by o w log a b popped) → new a b (pushed_by o w after a b pushed) (popped_by o w after a b popped)

    -- where the names were popped the log has them as taken
    pub follows_taken : (old new : Standing) → AddsPopped old new from w xs → KeepsOthers old new from w → FollowsLog old new o w log after
    follows_taken old new adds others a b pushed popped in_a in_b stood =
        let here : FollowsOn old new pushed popped from w = λ s. subst (new from w (pushed_by o w log from w pushed)) (sym (popped_more popped)) (adds _ _ s) in
        ⊎_elim
        (λ (s : (a ≡ from) × (b ≡ w)). at_edge (FollowsOn old new pushed popped) s here stood)
        (λ (other : (a ≢ from) ⊎ (b ≢ w)). subst (new a b (pushed_by o w log a b pushed)) (sym (popped_same a b popped other)) (others a b other _ _ stood))
        (same_edge a b from w)
