-- What a post stands for at the ends of a worker: the names that its log has as sent and taken, and the messages that wait.
use Rattle.std.specs.Prelude.{◌≡◌, ℕ, ◌<◌, ◌⊎◌, ◌==◌, cond, List, [], ◌∷◌, ◌++◌, drop, filter, length}
use Rattle.mp_names.specs.declared.names.Name.{Name}
use Rattle.mp_names.specs.Outlines.{Outline, receiver, sender}
use Rattle.mp_names.specs.Logs.{Log}

-- what a post stands for: from a worker to a worker, these names were pushed, and these were popped
abbrev pub Standing : Type 1
Standing = ℕ → ℕ → List Name → List Name → Type 0

-- the names that the log has as sent to a worker, in order
abbrev pub sent_to : Outline → Log → ℕ → List Name
sent_to o log v = filter (λ x. receiver o x == v) log.sent

-- the names that the log has as taken from a worker, in order
abbrev pub took_from : Outline → Log → ℕ → List Name
took_from o log v = filter (λ x. sender o x == v) log.took

-- what was pushed from a to b: where a is this worker, what its log has as sent
abbrev pub pushed_by : Outline → ℕ → Log → ℕ → ℕ → List Name → List Name
pushed_by o w log a b else_pushed = cond (a == w) (sent_to o log b) else_pushed

-- what was popped at b from a: where b is this worker, what its log has as taken
abbrev pub popped_by : Outline → ℕ → Log → ℕ → ℕ → List Name → List Name
popped_by o w log a b else_popped = cond (b == w) (took_from o log a) else_popped

-- at this worker's ends the post stands for what its log has as sent and taken
abbrev pub PostMatchesLog : Standing → Outline → ℕ → Log → Type 0
PostMatchesLog denotes o w log =
    (a b : ℕ)
    → a < o.workers
    → b < o.workers
    → (a ≡ w) ⊎ (b ≡ w)
    → (pushed : List Name) × (popped : List Name) × denotes a b (pushed_by o w log a b pushed) (popped_by o w log a b popped)

-- as this worker's log changed, so did what the post stands for at its ends, and nothing did at others
abbrev pub FollowsLog : Standing → Standing → Outline → ℕ → Log → Log → Type 0
FollowsLog old new o w log after =
    (a b : ℕ) (pushed popped : List Name)
    → a < o.workers
    → b < o.workers
    → old a b (pushed_by o w log a b pushed) (popped_by o w log a b popped)
    → new a b (pushed_by o w after a b pushed) (popped_by o w after a b popped)

-- messages that wait from a worker to a worker, the oldest first, each with its names
abbrev pub Waiting : Type 1
Waiting = ℕ → ℕ → List (List Name) → Type 0

-- what a list has behind the one that it begins with
abbrev pub behind : List Name → List Name → List Name
behind begun names = drop (length begun) names

-- names as the message in which they travel; where there are none there is no message
abbrev pub in_one_message : List Name → List (List Name)
in_one_message [] = []
in_one_message (x ∷ xs) = (x ∷ xs) ∷ []

-- what this worker sent from a to b, as its log went on
abbrev pub sent_since : Outline → ℕ → Log → Log → ℕ → ℕ → List Name
sent_since o w log after a b = cond (a == w) (behind (sent_to o log b) (sent_to o after b)) []

-- what this worker took at b from a, as its log went on
abbrev pub took_since : Outline → ℕ → Log → Log → ℕ → ℕ → List Name
took_since o w log after a b = cond (b == w) (behind (took_from o log a) (took_from o after a)) []

-- as this worker's log went on by what one message has, so did the messages that wait: those that waited, and then the one that it sent, are the one that it took, and then those that wait now
abbrev pub MessagesFollowLog : Waiting → Waiting → Outline → ℕ → Log → Log → Type 0
MessagesFollowLog old new o w log after =
    (a b : ℕ) (messages : List (List Name))
    → a < o.workers
    → b < o.workers
    → old a b messages
    → (left : List (List Name)) × new a b left × (messages ++ in_one_message (sent_since o w log after a b) ≡ in_one_message (took_since o w log after a b) ++ left)
