-- Plain queues after the first push on an edge.
use Rattle.std.proofs.Common.{ℕ, List, [], ◌∷◌, Result, Ok, Err, OnOk, OnErr, arith}
use Rattle.mp_mailbox.specs.Names.{Distinct}
use Rattle.mp_mailbox.specs.Queues.{PlainDenotes, Queues}
use Rattle.mp_mailbox.specs.Standing.{AddsPushed, KeepsEdge, Denotes}

-- one name stands once
pub one_is_distinct : {N : Type 0} (n : N) → Distinct (n ∷ [])
one_is_distinct n = λ i j d before inside. absurd (omega arith)

module _ {M N : Type 0} (names : M → List N) (message_from message_to : M → ℕ) (p q : Queues M) where
  abbrev Old : ℕ → ℕ → List N → List N → Type 0
  Old = PlainDenotes names message_from message_to p

  abbrev New : ℕ → ℕ → List N → List N → Type 0
  New = PlainDenotes names message_from message_to q

  -- whether there was room or not, they stand for some lists
  pub stands_after : {X E : Type 0} (from to : ℕ) (ns : List N) → Distinct ns → (result : Result X E) → OnOk result (AddsPushed Old New from to ns) → OnErr result (KeepsEdge Old New from to) → Old from to [] [] → Denotes New from to
  stands_after from to ns once (Ok x) ok err h = (ns, [], ok [] [] h once)
  stands_after from to ns once (Err e) ok err h = ([], [], err [] [] h)
