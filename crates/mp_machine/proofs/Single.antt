-- Where records travel singly, so does every name.
use Rattle.std.proofs.Common.{◌≡◌, ℕ, ◌<◌, ◌≤◌, List, [], ◌∷◌, length, refl, ap, subst, arith}
use Rattle.std.specs.List.{All}
use Rattle.mp_names.specs.declared.names.Name.{Name}
use Rattle.mp_names.specs.declared.kinds.Kind.{Kind}
use Rattle.mp_names.specs.declared.kinds.Kind.TheVariants.{Ingest, SendControl, Route, Receive, Extract, Settle, Apply, SendRow, Write, Exchange}
use Rattle.mp_names.specs.Outlines.{Outline, OutlineIsSound}
use Rattle.mp_machine.specs.Worlds.{World}
use Rattle.mp_machine.specs.Messages.{IsMessage, first_message, bundle_of}
use Rattle.mp_machine.specs.Steps.{CanStep, names_of}
use Rattle.mp_machine.proofs.Messages.{bundle_begins, bundle_is_message}
use Rattle.mp_machine.proofs.Worlds.{WorldIsRight}

-- a list of one name at most that begins with x is of x alone
alone : (x : Name) (rest xs : List Name) → xs ≡ x ∷ rest → length xs ≤ 1 → xs ≡ x ∷ []
alone x [] xs e l = e
alone x (y ∷ rest) xs e l = let k = ap length e in absurd (omega arith)

module _ (o : Outline) (one : o.bundle ≡ 1) where
  one_at_most : (xs : List Name) → IsMessage o xs → length xs ≤ 1
  one_at_most xs m = let l = m.few in omega arith

  pub single_bundle : OutlineIsSound o → (world : World) (w : ℕ) (j depth : ℕ) (x : Name) → CanStep o depth world w (Route j) x → bundle_of o w (world.worker w).log j x ≡ x ∷ []
  single_bundle ok world w j depth x can =
      let b = bundle_begins o ok w (world.worker w) j x can.1 in
      let xs = bundle_of o w (world.worker w).log j x in
      alone x b.0 xs b.1 (one_at_most xs (bundle_is_message o ok w (world.worker w) j x can.1))

  pub single_mail : (depth : ℕ) (world : World) → WorldIsRight o depth world → (v w : ℕ) → v < o.workers → w < o.workers → All (λ xs. length xs ≡ 1) (world.mailbox v w)
  single_mail depth world right v w lv lw k d l =
      let m = right.mail.messages v w lv lw k d l in
      let some = m.some in
      let few = m.few in
      omega arith

module _ (o : Outline) (ok : OutlineIsSound o) (one : o.bundle ≡ 1) (depth : ℕ) (world : World) (right : WorldIsRight o depth world) (w : ℕ) where
  pub single_names : (kind : Kind) (x : Name) → CanStep o depth world w kind x → names_of o world w kind x ≡ x ∷ []
  single_names (Route j) x can = single_bundle o one ok world w j depth x can
  single_names (Receive v) x can =
      let m = subst (All (λ (xs : List Name). length xs ≡ 1)) can.3.2 (single_mail o one depth world right v w can.0.1 can.0.0) 0 [] (omega arith) in
      alone x can.3.0 (first_message (world.mailbox v w)) (ap first_message can.3.2) (few (x ∷ can.3.0) (first_message (world.mailbox v w)) (ap first_message can.3.2) m)
    where
      few : (ys xs : List Name) → xs ≡ ys → length ys ≡ 1 → length xs ≤ 1
      few ys xs e l = let k = ap length e in omega arith
  single_names Ingest x can = refl
  single_names SendControl x can = refl
  single_names (Extract j) x can = refl
  single_names (Settle j) x can = refl
  single_names (Apply j) x can = refl
  single_names SendRow x can = refl
  single_names Write x can = refl
  single_names Exchange x can = refl
