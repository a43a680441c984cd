-- That a step changes its worker's log.
use Rattle.std.proofs.Common.{◌≡◌, ℕ, ◌+◌, ◌<◌, List, [], ◌∷◌, ◌++◌, length, sym, ap, ◌∙◌, subst, length-append, arith}
use Rattle.mp_names.specs.declared.names.Name.{Name}
use Rattle.mp_names.specs.declared.kinds.Kind.{Kind}
use Rattle.mp_names.specs.declared.kinds.Kind.TheVariants.{Ingest, SendControl, Route, Receive, Extract, Settle, Apply, SendRow, Write, Exchange}
use Rattle.mp_names.specs.Names.{IsPrefix}
use Rattle.mp_names.specs.Outlines.{Outline, OutlineIsSound}
use Rattle.mp_names.specs.Logs.{Log, LogGrows}
use Rattle.mp_machine.specs.Worlds.{World}
use Rattle.mp_machine.specs.Messages.{bundle_of, first_message}
use Rattle.mp_machine.specs.Steps.{CanStep, logged, names_of}
use Rattle.mp_machine.proofs.Messages.{bundle_begins}

-- what has grown and grows on isn't what it was
grown : (old now xs : List Name) → IsPrefix old now → 0 < length xs → now ++ xs ≡ old → ⊥
grown old now xs p some e =
    let all : length now + length xs ≡ length old = sym (length-append now xs) ∙ ap length e in
    let before : length old + length p.0 ≡ length now = sym (length-append old p.0) ∙ ap length p.1 in
    absurd (omega arith)

one_first : (x : Name) (rest : List Name) → 0 < length (x ∷ rest)
one_first x rest = omega arith

pub log_changes : (o : Outline) (ok : OutlineIsSound o) (depth : ℕ) (world : World) (w : ℕ) → LogGrows (world.worker w).posted (world.worker w).log → (kind : Kind) (x : Name) → CanStep o depth world w kind x → logged kind (world.worker w).log (names_of o world w kind x) ≡ (world.worker w).posted → ⊥
log_changes o ok depth world w grows Ingest x can e = grown _ (world.worker w).log.ingested (x ∷ []) grows.ingested (one_first x []) (ap (λ (l : Log). l.ingested) e)
log_changes o ok depth world w grows SendControl x can e = grown _ (world.worker w).log.sent (x ∷ []) grows.sent (one_first x []) (ap (λ (l : Log). l.sent) e)
log_changes o ok depth world w grows (Route j) x can e =
    let b = bundle_begins o ok w (world.worker w) j x can.1 in
    let begins = subst (λ (l : List Name). 0 < length l) (sym b.1) (one_first x b.0) in
    grown _ (world.worker w).log.sent (bundle_of o w (world.worker w).log j x) grows.sent begins (ap (λ (l : Log). l.sent) e)
log_changes o ok depth world w grows (Receive v) x can e =
    let is : first_message (world.mailbox v w) ≡ x ∷ can.3.0 = ap first_message can.3.2 in
    grown _ (world.worker w).log.took (first_message (world.mailbox v w)) grows.took (subst (λ (l : List Name). 0 < length l) (sym is) (one_first x can.3.0)) (ap (λ (l : Log). l.took) e)
log_changes o ok depth world w grows (Extract j) x can e = grown _ (world.worker w).log.sent (x ∷ []) grows.sent (one_first x []) (ap (λ (l : Log). l.sent) e)
log_changes o ok depth world w grows (Settle j) x can e = grown _ (world.worker w).log.settled (x ∷ []) grows.settled (one_first x []) (ap (λ (l : Log). l.settled) e)
log_changes o ok depth world w grows (Apply j) x can e = grown _ (world.worker w).log.applied (x ∷ []) grows.applied (one_first x []) (ap (λ (l : Log). l.applied) e)
log_changes o ok depth world w grows SendRow x can e = grown _ (world.worker w).log.sent (x ∷ []) grows.sent (one_first x []) (ap (λ (l : Log). l.sent) e)
log_changes o ok depth world w grows Write x can e = grown _ (world.worker w).log.settled (x ∷ []) grows.settled (one_first x []) (ap (λ (l : Log). l.settled) e)
log_changes o ok depth world w grows Exchange x can e = absurd can.1
