-- Which mailbox a step uses, and what that had to do with it.
use Rattle.std.specs.Prelude.{◌≡◌, ℕ, List}
use Rattle.mp_names.specs.declared.kinds.Kind.{Kind}
use Rattle.mp_names.specs.declared.kinds.Kind.TheVariants.{SendControl, Route, Receive, Extract, SendRow}
use Rattle.mp_names.specs.declared.names.Name.{Name}
use Rattle.mp_names.specs.Names.{In}
use Rattle.mp_names.specs.Outlines.{Outline, receiver, sender}
use Rattle.mp_msg.specs.Bundles.{receiver_of}

-- a step of a kind that pushes found room in the mailbox to the receiver of the names, and one that receives took the names of a message of that sender
abbrev pub MailboxAllows : (ℕ → ℕ → Type 0) → Outline → ℕ → Kind → List Name → Type 0
MailboxAllows had_room o w SendControl xs = had_room w (receiver_of o xs)
MailboxAllows had_room o w (Route j) xs = had_room w (receiver_of o xs)
MailboxAllows had_room o w (Extract j) xs = had_room w (receiver_of o xs)
MailboxAllows had_room o w SendRow xs = had_room w (receiver_of o xs)
MailboxAllows had_room o w (Receive v) xs = (x : Name) → In x xs → sender o x ≡ v
MailboxAllows had_room o w _ xs = Unit {0}

-- the mailbox that the step needs was full, or empty; a step that needs none is never held up
abbrev pub MailboxBlocks : (was_full was_empty : ℕ → ℕ → Type 0) → Outline → ℕ → Kind → Name → Type 0
MailboxBlocks was_full was_empty o w SendControl x = was_full w (receiver o x)
MailboxBlocks was_full was_empty o w (Route j) x = was_full w (receiver o x)
MailboxBlocks was_full was_empty o w (Extract j) x = was_full w (receiver o x)
MailboxBlocks was_full was_empty o w SendRow x = was_full w (receiver o x)
MailboxBlocks was_full was_empty o w (Receive v) x = was_empty v w
MailboxBlocks was_full was_empty o w _ x = ⊥
