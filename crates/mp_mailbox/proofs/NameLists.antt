-- Names that stand once, and the names of a longer list of messages.
use Rattle.std.proofs.Common.{◌≡◌, List, [], ◌∷◌, ◌++◌, ap, sym, ◌∙◌, arith, length-append}
use Rattle.std.proofs.lemmas.List.{append-nil, get_or_append_left}
use Rattle.std.proofs.lemmas.Grind.{flat_map-append}
use Rattle.mp_mailbox.specs.Names.{Distinct, names_of}

-- no name stands twice in the beginning of a list in which none does
pub Distinct-begin : {N : Type 0} (xs ys : List N) → Distinct (xs ++ ys) → Distinct xs
Distinct-begin xs ys once i j d before inside same =
    once i j d before (omega (arith, length-append xs ys))
    (get_or_append_left xs ys d i (omega arith) ∙ (same ∙ sym (get_or_append_left xs ys d j inside)))

pub Distinct-nil : {N : Type 0} → Distinct {N = N} []
Distinct-nil i j d before inside same = absurd (omega arith)

pub names_of-push : {M N : Type 0} (names : M → List N) (ms : List M) (m : M) → names_of names (ms ++ m ∷ []) ≡ names_of names ms ++ names m
names_of-push names ms m = flat_map-append names ms (m ∷ []) ∙ ap (λ l. names_of names ms ++ l) (append-nil (names m))
