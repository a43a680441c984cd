-- What an answer of the queue tells.
use Rattle.std.proofs.Common.{◌≡◌, List, ◌++◌, ap, ◌∙◌, Option, Some, None, IfSome, IfNone, MatchOption, Result, Ok, Err, OnOk, OnErr}
use mathlib.Core.List.{IsPrefix}
use Rattle.std.proofs.lemmas.List.{append-nil, nil_from_length}
use Rattle.crossbeam_queue.specs.Fifo.{Held}
use Rattle.mp_ruled.specs.declared.view.QueueView.{QueueView}
use Rattle.mp_ruled.specs.Rule.{Arrives}

pub none_of_match : {X P Z : Type 0} (Q : X → Type 0) (r : Option X) → MatchOption r P Q → (P → Z) → IfNone r Z
none_of_match Q (Some x) says then = tt
none_of_match Q None says then = then says

-- where nothing waits, all that was sent has been got
pub all_arrived : {M : Type 0} (v : QueueView M) → Held 0 (Arrives v) → (sent : List M) × IsPrefix v.sent sent × (sent ≡ v.got)
all_arrived v held = let told = held.2 in (told.0, told.1, told.2 ∙ (ap (λ l. v.got ++ l) (nil_from_length held.0 held.1) ∙ append-nil v.got))

-- a fact that follows from what is said of each answer
pub by_result : {A B P Q Z : Type 0} (r : Result A B) → OnOk r P → OnErr r Q → (P → Z) → (Q → Z) → Z
by_result (Ok a) ok err one two = one ok
by_result (Err b) ok err one two = two err

pub by_option : {A Q Z : Type 0} (P : A → Type 0) (r : Option A) → IfSome r P → IfNone r Q → ((a : A) → P a → Z) → (Q → Z) → Z
by_option P (Some a) some none one two = one a some
by_option P None some none one two = two none
