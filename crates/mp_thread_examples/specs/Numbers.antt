-- Numbers in order.
use Rattle.mp_thread_examples.specs.declared.numbers.Number.{Number}
use Rattle.mp_mailbox.specs.Names.{names_of}
use Rattle.std.specs.Prelude.{ℕ, zero, suc, List, [], ◌∷◌, ◌++◌}

-- the numbers below n, in order
abbrev pub numbers_below : ℕ → List ℕ
numbers_below zero = []
numbers_below (suc n) = numbers_below n ++ n ∷ []

-- the values of messages, in order
abbrev pub values_of : List Number → List ℕ
values_of messages = names_of (λ m. m.value ∷ []) messages

-- the one name of a message is its value
abbrev pub value_list : Number → List ℕ
value_list m = m.value ∷ []
