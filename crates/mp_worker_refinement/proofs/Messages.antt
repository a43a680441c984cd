-- The messages that wait at a worker's ends, as its log goes on.
use Rattle.std.proofs.Common.{◌≡◌, ◌≢◌, ◌⊎◌, ℕ, ◌<◌, ◌==◌, Bool, true, false, cond, List, [], ◌∷◌, ◌++◌, filter, length, refl, sym, ap, ◌∙◌, ⊎_elim, append-nil}
use Rattle.std.proofs.lemmas.Bool.{cond-false, cond-true, eq-eqb, false≢true, ne_eqb}
use Rattle.mp_names.specs.declared.names.Name.{Name}
use Rattle.mp_names.specs.Names.{In}
use Rattle.mp_names.specs.Outlines.{Outline, receiver, sender}
use Rattle.mp_names.specs.Logs.{Log}
use Rattle.mp_names.proofs.Lists.{In_here}
use Rattle.mp_mailbox.specs.Standing.{AddsLast, KeepsOthersWaiting, KeepsWaiting, TakesFirst}
use Rattle.mp_machine.specs.Messages.{IsMessage}
use Rattle.mp_msg.specs.Bundles.{HasOneSender, receiver_of, sender_of}
use Rattle.mp_worker_refinement.specs.Ends.{MessagesFollowLog, Waiting, behind, in_one_message, sent_since, sent_to, took_from, took_since}
use Rattle.mp_worker_refinement.proofs.Lists.{at_edge, behind_append, behind_self, filter_more, filter_same, one_message, same_edge}

-- each name of a message goes to the receiver of the first
pub all_receive : (o : Outline) (xs : List Name) → IsMessage o xs → (x : Name) → In x xs → receiver o x ≡ receiver_of o xs
all_receive o [] message x i = absurd (false≢true i)
all_receive o (y ∷ ys) message x i = (message.together y x (In_here y ys) i).1

-- and where one worker sends them, comes from the sender of the first
pub all_send : (o : Outline) (xs : List Name) → HasOneSender o xs → (x : Name) → In x xs → sender o x ≡ sender_of o xs
all_send o [] one x i = absurd (false≢true i)
all_send o (y ∷ ys) one x i = one y x (In_here y ys) i

cond_nothing : (b : Bool) (l : List Name) → l ≡ [] → cond b l [] ≡ []
cond_nothing true l e = e
cond_nothing false l e = refl

module _ (o : Outline) (w : ℕ) (log after : Log) where
  pub sent_nothing : after.sent ≡ log.sent → (a b : ℕ) → sent_since o w log after a b ≡ []
  sent_nothing same a b =
      cond_nothing (a == w) (behind (sent_to o log b) (sent_to o after b)) (ap (λ (l : List Name). behind (sent_to o log b) (filter (λ x. receiver o x == b) l)) same ∙ behind_self (sent_to o log b))

  pub took_nothing : after.took ≡ log.took → (a b : ℕ) → took_since o w log after a b ≡ []
  took_nothing same a b =
      cond_nothing (b == w) (behind (took_from o log a) (took_from o after a)) (ap (λ (l : List Name). behind (took_from o log a) (filter (λ x. sender o x == a) l)) same ∙ behind_self (took_from o log a))

  -- names that were sent to a worker

  module _ (xs : List Name) (v : ℕ) (goes : (x : Name) → In x xs → receiver o x ≡ v) (more : after.sent ≡ log.sent ++ xs) where
    pub sent_there : (a b : ℕ) → (a ≡ w) × (b ≡ v) → sent_since o w log after a b ≡ xs
    sent_there a b same =
        cond-true (a == w) (behind (sent_to o log b) (sent_to o after b)) [] (eq-eqb a w same.0)
        ∙ ap (λ (l : List Name). behind (sent_to o log b) (filter (λ x. receiver o x == b) l)) more
        ∙ ap (λ (l : List Name). behind (sent_to o log b) l) (filter_more (receiver o) b log.sent xs (λ x i. goes x i ∙ sym same.1))
        ∙ behind_append (sent_to o log b) xs

    pub sent_elsewhere : (a b : ℕ) → (a ≢ w) ⊎ (b ≢ v) → sent_since o w log after a b ≡ []
    sent_elsewhere a b other =
        ⊎_elim
        (λ (n : a ≢ w). cond-false (a == w) (behind (sent_to o log b) (sent_to o after b)) [] (ne_eqb a w n))
        (λ (n : b ≢ v).
        cond_nothing (a == w) (behind (sent_to o log b) (sent_to o after b))
        (ap (λ (l : List Name). behind (sent_to o log b) (filter (λ x. receiver o x == b) l)) more
        ∙ ap (λ (l : List Name). behind (sent_to o log b) l) (filter_same (receiver o) b log.sent xs (λ x i e. n (sym e ∙ goes x i)))
        ∙ behind_self (sent_to o log b)))
        other

  -- names that were taken from a worker

  module _ (xs : List Name) (v : ℕ) (comes : (x : Name) → In x xs → sender o x ≡ v) (more : after.took ≡ log.took ++ xs) where
    pub took_there : (a b : ℕ) → (a ≡ v) × (b ≡ w) → took_since o w log after a b ≡ xs
    took_there a b same =
        cond-true (b == w) (behind (took_from o log a) (took_from o after a)) [] (eq-eqb b w same.1)
        ∙ ap (λ (l : List Name). behind (took_from o log a) (filter (λ x. sender o x == a) l)) more
        ∙ ap (λ (l : List Name). behind (took_from o log a) l) (filter_more (sender o) a log.took xs (λ x i. comes x i ∙ sym same.0))
        ∙ behind_append (took_from o log a) xs

    pub took_elsewhere : (a b : ℕ) → (a ≢ v) ⊎ (b ≢ w) → took_since o w log after a b ≡ []
    took_elsewhere a b other =
        ⊎_elim
        (λ (n : a ≢ v).
        cond_nothing (b == w) (behind (took_from o log a) (took_from o after a))
        (ap (λ (l : List Name). behind (took_from o log a) (filter (λ x. sender o x == a) l)) more
        ∙ ap (λ (l : List Name). behind (took_from o log a) l) (filter_same (sender o) a log.took xs (λ x i e. n (sym e ∙ comes x i)))
        ∙ behind_self (took_from o log a)))
        (λ (n : b ≢ w). cond-false (b == w) (behind (took_from o log a) (took_from o after a)) [] (ne_eqb b w n))
        other

  -- what waits, where a post says how it moved

  module _ (old new : Waiting) where
    -- on an edge where nothing was sent and nothing taken the same waits
    stays : (a b : ℕ) (messages : List (List Name)) → sent_since o w log after a b ≡ [] → took_since o w log after a b ≡ [] → messages ++ in_one_message (sent_since o w log after a b) ≡ in_one_message (took_since o w log after a b) ++ messages
    stays a b messages sent took =
        ap (λ (l : List Name). messages ++ in_one_message l) sent ∙ append-nil messages ∙ sym (ap (λ (l : List Name). in_one_message l ++ messages) took)

    -- nothing was sent and nothing taken
    pub messages_kept : after.sent ≡ log.sent → after.took ≡ log.took → ((a b : ℕ) → KeepsWaiting old new a b) → MessagesFollowLog old new o w log after
    messages_kept sent took keeps a b messages la lb h = (messages, keeps a b messages h, stays a b messages (sent_nothing sent a b) (took_nothing took a b))

    -- one message was sent
    pub messages_sent : (xs : List Name) (v : ℕ) → 0 < length xs → ((x : Name) → In x xs → receiver o x ≡ v) → after.sent ≡ log.sent ++ xs → after.took ≡ log.took → AddsLast old new w v xs → KeepsOthersWaiting old new w v → MessagesFollowLog old new o w log after
    messages_sent xs v some goes more took adds others a b messages la lb h =
        ⊎_elim
        (λ (same : (a ≡ w) × (b ≡ v)). (
          messages ++ xs ∷ [],
          at_edge (λ c d. AddsLast old new c d xs) same adds messages h,
          ap (λ (l : List Name). messages ++ in_one_message l) (sent_there xs v goes more a b same)
              ∙ ap (λ (l : List (List Name)). messages ++ l) (one_message xs some)
              ∙ sym (ap (λ (l : List Name). in_one_message l ++ (messages ++ xs ∷ [])) (took_nothing took a b)),
        ))
        (λ (other : (a ≢ w) ⊎ (b ≢ v)). (messages, others a b other messages h, stays a b messages (sent_elsewhere xs v goes more a b other) (took_nothing took a b)))
        (same_edge a b w v)

    -- one message was taken
    pub messages_taken : (xs : List Name) (v : ℕ) → 0 < length xs → ((x : Name) → In x xs → sender o x ≡ v) → after.sent ≡ log.sent → after.took ≡ log.took ++ xs → TakesFirst old new v w xs → KeepsOthersWaiting old new v w → MessagesFollowLog old new o w log after
    messages_taken xs v some comes sent more takes others a b messages la lb h =
        ⊎_elim
        (λ (same : (a ≡ v) × (b ≡ w)).
        let left = at_edge (λ c d. TakesFirst old new c d xs) same takes messages h in (
          left.0,
          left.2,
          ap (λ (l : List Name). messages ++ in_one_message l) (sent_nothing sent a b)
              ∙ append-nil messages
              ∙ left.1
              ∙ sym (ap (λ (l : List Name). in_one_message l ++ left.0) (took_there xs v comes more a b same) ∙ ap (λ (l : List (List Name)). l ++ left.0) (one_message xs some)),
        ))
        (λ (other : (a ≢ v) ⊎ (b ≢ w)). (messages, others a b other messages h, stays a b messages (sent_nothing sent a b) (took_elsewhere xs v comes more a b other)))
        (same_edge a b v w)

-- what a post says of one edge and of the others it says of all
pub keeps_everywhere : (old new : Waiting) (from to : ℕ) → KeepsWaiting old new from to → KeepsOthersWaiting old new from to → (a b : ℕ) → KeepsWaiting old new a b
keeps_everywhere old new from to keeps others a b =
    ⊎_elim
    (λ (same : (a ≡ from) × (b ≡ to)). at_edge (λ c d. KeepsWaiting old new c d) same keeps)
    (λ (other : (a ≢ from) ⊎ (b ≢ to)). others a b other)
    (same_edge a b from to)
