-- What a push of a message that the worker may send does to its log and to its mailboxes.
use Rattle.std.proofs.Common.{◌≡◌, ◌≢◌, ℕ, ◌<◌, ◌⊎◌, ◌==◌, Bool, false, cond, List, [], ◌∷◌, ◌++◌, All, length, sym, ap, ◌∙◌, subst, inl, ⊎_elim, refl, arith}
use Rattle.std.proofs.lemmas.Bool.{both_ways, cond-false, cond-true, eq-eqb, eqb-true, false≢true, false_from_ne_true}
use Rattle.std.proofs.lemmas.List.Elements.{All-cons, All-nil}
use Rattle.std.proofs.lemmas.List.Kept.{AllPairs-cons}
use Rattle.mp_names.specs.declared.kinds.Kind.TheVariants.{Route}
use Rattle.mp_names.specs.declared.locations.Loc.{Loc}
use Rattle.mp_names.specs.declared.names.Name.{Name}
use Rattle.mp_names.specs.Frontiers.{HasPassed, IsClosedForOne}
use Rattle.mp_names.specs.Names.{Distinct, In, has}
use Rattle.mp_names.specs.Outlines.{Outline, OutlineIsSound, IsOwedBy, receiver}
use Rattle.mp_names.specs.Logs.{Log, LogIsLegal, with_sent}
use Rattle.mp_names.specs.Keeping.{IsHeld}
use Rattle.mp_names.proofs.Keeps.{held_keeps}
use Rattle.mp_names.proofs.Listed.{edges}
use Rattle.mp_names.proofs.Lists.{Distinct_filter, In_cases, In_here, In_later}
use Rattle.mp_names.proofs.Steps.{given_own}
use Rattle.mp_mailbox.specs.Names.{Distinct as DistinctMail}
use Rattle.mp_mailbox.specs.Standing.{AddsLast, AddsPushed, IsFresh, KeepsOthers, KeepsOthersWaiting}
use Rattle.mp_machine.specs.Messages.{bundle_of}
use Rattle.mp_machine.specs.Steps.{IsNext, IsReady}
use Rattle.mp_machine.specs.Worlds.{Worker}
use Rattle.mp_machine.proofs.Keeps.{step_keeps}
use Rattle.mp_machine.proofs.Messages.{bundle_held, bundle_is_message, single_message}
use Rattle.mp_msg.specs.Bundles.{receiver_of, sender_of}
use Rattle.mp_worker_refinement.specs.Ends.{PostMatchesLog, FollowsLog, MessagesFollowLog, Standing, Waiting, popped_by, pushed_by, sent_to}
use Rattle.mp_worker_refinement.specs.Sending.{MaySend, with_all_sent}
use Rattle.mp_worker_refinement.proofs.Lists.{at_edge, filter_more, filter_same, same_edge}
use Rattle.mp_worker_refinement.proofs.Messages.{all_receive, messages_sent}

-- names that stand once, as mailboxes say it

apart : (x : Name) (xs : List Name) → has xs x ≡ false → All (λ y. x ≢ y) xs
apart x [] h = All-nil (λ (y : Name). x ≢ y)
apart x (y ∷ ys) h =
    All-cons (λ (z : Name). x ≢ z) y ys
    (λ (e : x ≡ y). both_ways (has (y ∷ ys) x) h (subst (λ (z : Name). In z (y ∷ ys)) (sym e) (In_here y ys)))
    (apart x ys (false_from_ne_true (has ys x) (λ i. both_ways (has (y ∷ ys) x) h (In_later x y ys i))))

once : (xs : List Name) → Distinct xs → DistinctMail xs
once [] d = λ i j e before inside. absurd (omega arith)
once (x ∷ xs) d = AllPairs-cons (λ (y z : Name). y ≢ z) x xs (apart x xs d.0) (once xs d.1)

not_equal : (a b : ℕ) → (a ≡ b → ⊥) → (a == b) ≡ false
not_equal a b n = false_from_ne_true (a == b) (λ e. n (eqb-true a b e))

-- What may be sent

only : (x y : Name) → In y (x ∷ []) → x ≡ y
only x y i = ⊎_elim (λ (e : x ≡ y). e) (λ (k : In y []). absurd (false≢true k)) (In_cases y x [] i)

-- a name that the worker has to send may be sent by itself
pub single_may : (o : Outline) → OutlineIsSound o → (w : ℕ) (log : Log) (x : Name) → IsOwedBy o w x → LogIsLegal o w (with_sent log x) → MaySend o w log (x ∷ [])
single_may o sound w log x owed legal = record { message = single_message o sound x; owed = λ y i. subst (λ (n : Name). IsOwedBy o w n) (only x y i) owed; legal = legal }

-- so may a name that is held
pub held_may : (o : Outline) → OutlineIsSound o → (w : ℕ) (log : Log) → LogIsLegal o w log → (p : Name → Bool) (x : Name) → IsHeld o w log p x → MaySend o w log (x ∷ [])
held_may o sound w log legal p x held = single_may o sound w log x (held.1, given_own o w log legal x held.2) (held_keeps o w log legal p x held)

-- and the records that travel with the least one that is held, by what the worker saw
pub bundle_may : (o : Outline) → OutlineIsSound o → (w : ℕ) → w < o.workers → (worker : Worker) → LogIsLegal o w worker.log → ((at : Loc) (t : ℕ) → HasPassed (worker.seen at) t → IsClosedForOne o w worker.log at t)
    → (j : ℕ) (x : Name) → IsNext o w worker (Route j) x → IsReady o w worker (Route j) x → MaySend o w worker.log (bundle_of o w worker.log j x)
bundle_may o sound w lw worker legal known j x next ready = record {
  message = bundle_is_message o sound w worker j x next;
  owed = λ y i. let held = bundle_held o sound w worker j x y i in (held.1, given_own o w worker.log legal y held.2);
  legal = step_keeps o sound w lw worker legal known (Route j) x (bundle_of o w worker.log j x) next ready refl tt;
}

-- The ends of a message that may be sent

sender_is : (o : Outline) (w : ℕ) (xs : List Name) → 0 < length xs → ((x : Name) → In x xs → IsOwedBy o w x) → sender_of o xs ≡ w
sender_is o w [] some owed = absurd (omega arith)
sender_is o w (x ∷ xs) some owed = (owed x (In_here x xs)).1

receiver_in : (o : Outline) → OutlineIsSound o → (w : ℕ) (xs : List Name) → 0 < length xs → ((x : Name) → In x xs → IsOwedBy o w x) → receiver_of o xs < o.workers
receiver_in o sound w [] some owed = absurd (omega arith)
receiver_in o sound w (x ∷ xs) some owed = (edges o sound x (owed x (In_here x xs)).0).1

-- The worker may send the names; n and v are the ends of their edge

module _ {o : Outline} (sound : OutlineIsSound o) {w : ℕ} (worker : w < o.workers) {log : Log} {xs : List Name} (may : MaySend o w log xs) {n v : ℕ} (from : n ≡ w) (to : v ≡ receiver_of o xs) where
  -- they go along this edge, from the worker that has to send them
  pub edge_is : (sender_of o xs ≡ n) × (receiver_of o xs ≡ v)
  edge_is = (sender_is o w xs may.message.some may.owed ∙ sym from, sym to)

  goes : (x : Name) → In x xs → receiver o x ≡ v
  goes x i = all_receive o xs may.message x i ∙ sym to

  to_worker : v < o.workers
  to_worker = subst (λ (u : ℕ). u < o.workers) (sym to) (receiver_in o sound w xs may.message.some may.owed)

  pub edge_fits : (workers : ℕ) → workers ≡ o.workers → (n < workers) × (v < workers)
  edge_fits workers e = rw e (subst (λ (u : ℕ). u < o.workers) (sym from) worker, to_worker)

  sent_more : sent_to o (with_all_sent log xs) v ≡ sent_to o log v ++ xs
  sent_more = filter_more (receiver o) v log.sent xs goes

  new_there : DistinctMail (sent_to o log v ++ xs)
  new_there = subst DistinctMail sent_more (once (sent_to o (with_all_sent log xs) v) (Distinct_filter (λ y. receiver o y == v) (with_all_sent log xs).sent may.legal.sent_once))

  -- so they can be pushed
  pub may_push : (denotes : Standing) → PostMatchesLog denotes o w log → IsFresh denotes n v xs
  may_push denotes ends =
      let at = ends w v worker to_worker (inl refl) in
      let here = cond-true (w == w) (sent_to o log v) at.0 (eq-eqb w w refl) in
      let popped = popped_by o w log w v at.1 in
      let there = subst (λ (names : List Name). denotes w v names popped) here at.2 in
      (sent_to o log v, popped, subst (λ (m : ℕ). denotes m v (sent_to o log v) popped) (sym from) there, new_there)

  module _ (old new : Standing) where
    -- on their edge they were pushed
    pushed_there : AddsPushed old new n v xs → (pushed popped : List Name) → old n v (pushed_by o w log n v pushed) popped → new n v (pushed_by o w (with_all_sent log xs) n v pushed) popped
    pushed_there adds pushed popped denotes =
        let here = eq-eqb n w from in
        let before = subst (λ (names : List Name). old n v names popped) (cond-true (n == w) (sent_to o log v) pushed here) denotes in
        let after = cond-true (n == w) (sent_to o (with_all_sent log xs) v) pushed here ∙ sent_more in
        subst (λ (names : List Name). new n v names popped) (sym after) (adds (sent_to o log v) popped before new_there)

    -- elsewhere the log has as sent what it had
    same_elsewhere : (a b : ℕ) → (a ≢ n) ⊎ (b ≢ v) → (pushed : List Name) → pushed_by o w (with_all_sent log xs) a b pushed ≡ pushed_by o w log a b pushed
    same_elsewhere a b other pushed =
        ⊎_elim
        (λ (f : a ≢ n).
        let away = not_equal a w (λ e. f (e ∙ sym from)) in
        cond-false (a == w) (sent_to o (with_all_sent log xs) b) pushed away ∙ sym (cond-false (a == w) (sent_to o log b) pushed away))
        (λ (f : b ≢ v). ap (λ (names : List Name). cond (a == w) names pushed) (filter_same (receiver o) b log.sent xs (λ x i e. f (sym e ∙ goes x i))))
        other

    -- what the post stood for on an edge it stands for, with the names sent
    abbrev FollowsOn : List Name → List Name → ℕ → ℕ → Type 0
    FollowsOn pushed popped a b = old a b (pushed_by o w log a b pushed) popped → new a b (pushed_by o w (with_all_sent log xs) a b pushed) popped

    -- where they were pushed, the post follows the log that has them as sent
    pub follows_push : AddsPushed old new n v xs → KeepsOthers old new n v → FollowsLog old new o w log (with_all_sent log xs)
    follows_push adds others a b pushed popped la lb denotes =
        let all = popped_by o w log a b popped in
        ⊎_elim
        (λ (same : (a ≡ n) × (b ≡ v)). at_edge (FollowsOn pushed all) same (pushed_there adds pushed all) denotes)
        (λ (other : (a ≢ n) ⊎ (b ≢ v)). subst (λ (names : List Name). new a b names all) (sym (same_elsewhere a b other pushed)) (others a b other (pushed_by o w log a b pushed) all denotes))
        (same_edge a b n v)

  -- and so do the messages that wait
  pub messages_push : (old new : Waiting) → AddsLast old new n v xs → KeepsOthersWaiting old new n v → MessagesFollowLog old new o w log (with_all_sent log xs)
  messages_push old new adds others =
      messages_sent o w log (with_all_sent log xs) old new xs v may.message.some goes refl refl
      (subst (λ (m : ℕ). AddsLast old new m v xs) from adds)
      (subst (λ (m : ℕ). KeepsOthersWaiting old new m v) from others)
